use Rattle.ds_grammar.proofs.Laws.{dead_ends_unique}
use Rattle.ds_grammar.proofs.dead_ends_are_unique.Goals as goal

pub returns : goal.returns
returns c = dead_ends_unique
