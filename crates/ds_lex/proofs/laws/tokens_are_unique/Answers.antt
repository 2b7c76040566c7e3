use Rattle.ds_lex.proofs.Unique.{unique}
use Rattle.ds_lex.proofs.laws.tokens_are_unique.Goals as goal

pub returns : goal.returns
returns c = λ text ts us h k. unique text 0 ts us h k
