use Rattle.std.proofs.Common.{ℕ, ◌<◌, slice_index_or}
use Rattle.ds_ast.specs.declared.operand.Operand.{Operand}
use Rattle.ds_shape.specs.Types.{IsTypedOperand}
use Rattle.ds_check_types.proofs.operands.are_all.Given as goal

abbrev pub invariant-loop-operand : goal.invariant-loop-operand
invariant-loop-operand l = (k : ℕ) (d : Operand) → k < l.operand-index
    → IsTypedOperand l.fn.entities l.fn.locals (slice_index_or l.fn.operands k d)
