use Rattle.ds_grammar.proofs.Runs.{optionals}
use Rattle.ds_grammar.proofs.optionals_are_read.Goals as goal

pub returns : goal.returns
returns c = optionals
