use Rattle.std.proofs.Common.{ℕ, ◌<◌, slice_index_or}
use Rattle.ds_ast.specs.declared.operand.Arm.{Arm}
use Rattle.ds_shape.specs.Types.{HasType}
use Rattle.ds_check_types.proofs.operands.have_type.Given as goal

abbrev pub invariant-loop-arm : goal.invariant-loop-arm
invariant-loop-arm l = (k : ℕ) (d : Arm) → k < l.arm-index
    → HasType l.fn.entities l.fn.locals l.fn.ty (slice_index_or l.fn.arms k d).value
