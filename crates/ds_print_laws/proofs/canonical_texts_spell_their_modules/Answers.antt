use Rattle.ds_print_laws.proofs.canonical_texts_spell_their_modules.Goals as goal

pub returns : goal.returns
returns c = λ m h. c.apart_texts_are_spelled.ensures.spelled m h (c.canonical_pieces_are_apart.ensures m h)
