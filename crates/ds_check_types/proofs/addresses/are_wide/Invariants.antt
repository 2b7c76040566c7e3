use Rattle.std.proofs.Common.{ℕ, ◌<◌, slice_index_or}
use Rattle.ds_ast.specs.declared.operand.Operand.{Operand}
use Rattle.ds_shape.specs.Types.{IsWide}
use Rattle.ds_check_types.proofs.addresses.are_wide.Given as goal

abbrev pub invariant-loop-index : goal.invariant-loop-index
invariant-loop-index l = (k : ℕ) (d : Operand) → k < l.index-index → IsWide (slice_index_or l.fn.indices k d).ty
