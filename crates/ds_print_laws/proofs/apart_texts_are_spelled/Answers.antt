use Rattle.ds_print_laws.proofs.Spelling.{placed_are_lexemes, apart_texts_spelled}
use Rattle.ds_print_laws.proofs.apart_texts_are_spelled.Goals as goal

pub returns-clause-lexemes : goal.returns-clause-lexemes
returns-clause-lexemes c = placed_are_lexemes c.written_texts_are_lexed.ensures.spelled

pub returns-clause-spelled : goal.returns-clause-spelled
returns-clause-spelled c = apart_texts_spelled c.written_texts_are_lexed.ensures.spelled
    c.written_texts_are_lexed.ensures.lexed c.canonical_tokens_are_read.ensures c.reading_is_exact.ensures
