use Rattle.ds_grammar.proofs.Runs.{marks}
use Rattle.ds_grammar.proofs.marks_are_read.Goals as goal

pub returns : goal.returns
returns c = marks
