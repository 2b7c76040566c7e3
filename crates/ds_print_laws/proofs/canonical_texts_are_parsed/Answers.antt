use Rattle.ds_print_laws.proofs.canonical_texts_are_parsed.Goals as goal

pub returns : goal.returns
returns c = λ m h.
    let t = c.canonical_texts_spell_their_modules.ensures m h in
    (t, (λ n u. c.texts_spell_one_module.ensures _ n m u t), λ f r. c.texts_are_not_refused.ensures _ m f t r)
