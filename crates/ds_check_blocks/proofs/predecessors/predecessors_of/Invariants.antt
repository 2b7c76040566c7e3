use Rattle.ds_check_blocks.proofs.Reversed.{AreTurned}
use Rattle.ds_check_blocks.proofs.predecessors.predecessors_of.Given as goal

abbrev pub invariant-loop-from : goal.invariant-loop-from
invariant-loop-from l = AreTurned l.from l.graph l.all
