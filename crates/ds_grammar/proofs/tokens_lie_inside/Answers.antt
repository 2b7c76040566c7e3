use Rattle.ds_grammar.proofs.Inside.{tokens_inside}
use Rattle.ds_grammar.proofs.tokens_lie_inside.Goals as goal

pub returns : goal.returns
returns c = tokens_inside
