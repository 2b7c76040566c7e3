use Rattle.std.proofs.Common.{take}
use Rattle.std.specs.Prelude.{All}
use Rattle.ds_shape.specs.Placed.{placed_of, KeepsTargets}
use Rattle.ds_check_blocks.proofs.labels.first_bad_label.Given as goal

abbrev pub invariant-loop-number : goal.invariant-loop-number
invariant-loop-number l = All (KeepsTargets l.function) (take l.number (placed_of l.function))
