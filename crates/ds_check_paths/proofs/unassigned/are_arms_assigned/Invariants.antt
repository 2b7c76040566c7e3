use Rattle.std.proofs.Common.{take}
use Rattle.std.specs.Prelude.{All}
use Rattle.ds_shape.specs.Placed.{IsAssignedArm}
use Rattle.ds_shape.specs.Flow.{arms_of}
use Rattle.ds_check_paths.proofs.unassigned.are_arms_assigned.Given as goal

abbrev pub invariant-loop-arm : goal.invariant-loop-arm
invariant-loop-arm l = All (IsAssignedArm l.fn.flow) (take l.arm-index (arms_of l.fn.op))
