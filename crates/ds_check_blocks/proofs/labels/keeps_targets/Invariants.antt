use Rattle.std.proofs.Common.{take}
use Rattle.std.specs.Prelude.{All}
use Rattle.ds_shape.specs.Flow.{targets_of}
use Rattle.ds_shape.specs.Placed.{IsTarget}
use Rattle.ds_check_blocks.proofs.labels.keeps_targets.Given as goal

abbrev pub invariant-loop-number : goal.invariant-loop-number
invariant-loop-number l = All (IsTarget l.locals) (take l.number (targets_of l.op))
