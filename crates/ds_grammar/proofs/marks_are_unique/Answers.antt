use Rattle.ds_grammar.proofs.Laws.{marks_unique}
use Rattle.ds_grammar.proofs.marks_are_unique.Goals as goal

pub returns : goal.returns
returns c = marks_unique
