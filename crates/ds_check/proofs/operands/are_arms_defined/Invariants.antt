use Rattle.std.proofs.Common.{take}
use Rattle.std.specs.Prelude.{All}
use Rattle.ds_ast.specs.declared.operand.Arm.{Arm}
use Rattle.ds_shape.specs.Placed.{IsDefined}
use Rattle.ds_shape.specs.Flow.{arms_of}
use Rattle.ds_check.proofs.operands.are_arms_defined.Given as goal

abbrev pub invariant-loop-arm : goal.invariant-loop-arm
invariant-loop-arm l =
    All (λ (a : Arm). IsDefined l.fn.entities l.fn.locals a.value) (take l.arm-index (arms_of l.fn.op))
