use Rattle.std.proofs.Common.{ℕ, ◌<◌, slice_index_or}
use Rattle.ds_ast.specs.declared.init.Init.{Init}
use Rattle.ds_ast.specs.declared.ty.Ty.{Ty}
use Rattle.ds_shape.specs.Types.{IsInitial}
use Rattle.ds_check_types.proofs.initial.+is_initial.Given as goal

abbrev pub invariant-are_elements-loop-part : goal.invariant-are_elements-loop-part
invariant-are_elements-loop-part l =
    (k : ℕ) (d : Init) → k < l.part-index → IsInitial l.fn.entities l.fn.ty (slice_index_or l.fn.parts k d)

abbrev pub invariant-are_fields-loop-i : goal.invariant-are_fields-loop-i
invariant-are_fields-loop-i l = (k : ℕ) (d : Ty) (e : Init) → k < l.i
    → IsInitial l.fn.entities (slice_index_or l.fn.types k d) (slice_index_or l.fn.parts k e)
