use Rattle.ds_grammar.proofs.Runs.{takes}
use Rattle.ds_grammar.proofs.readings_take_tokens.Goals as goal

pub returns : goal.returns
returns c = takes
