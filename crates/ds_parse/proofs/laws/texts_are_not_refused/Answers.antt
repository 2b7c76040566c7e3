use Rattle.ds_parse.proofs.Texts.{no_fault}
use Rattle.ds_parse.proofs.laws.texts_are_not_refused.Goals as goal

pub returns : goal.returns
returns c = no_fault c.tokens_or_fault.ensures c.tokens_are_unique.ensures c.whole_answers_are_exact.ensures.refused
