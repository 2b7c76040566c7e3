use Rattle.std.proofs.Common.{◌≡◌, ℕ, ◌<◌, slice_index_or}
use Rattle.ds_ast.specs.declared.operand.Operand.{Operand}
use Rattle.ds_ast.specs.declared.module.Param.{Param}
use Rattle.ds_check_types.proofs.Passed.{IsArgument}
use Rattle.ds_check_types.proofs.calls.are_passed.Given as goal

abbrev pub invariant-loop-i : goal.invariant-loop-i
invariant-loop-i l =
    (k : ℕ) (d : Operand) (e : Param) → k < l.i
    → IsArgument l.fn.entities l.fn.locals l.fn.function k (slice_index_or l.fn.arguments k d)
    (slice_index_or l.fn.params k e)
