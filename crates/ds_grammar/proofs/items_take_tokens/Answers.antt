use Rattle.ds_grammar.proofs.Runs.{items_take}
use Rattle.ds_grammar.proofs.items_take_tokens.Goals as goal

pub returns : goal.returns
returns c = items_take
