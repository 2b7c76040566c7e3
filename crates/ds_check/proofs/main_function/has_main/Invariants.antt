use Rattle.std.proofs.Common.{ℕ, ◌<◌, slice_index_or}
use Rattle.ds_ast.specs.declared.module.Function.{Function}
use Rattle.ds_shape.specs.Accepted.{IsMain}
use Rattle.ds_check.proofs.main_function.has_main.Given as goal

abbrev pub invariant-loop-f : goal.invariant-loop-f
invariant-loop-f l = (k : ℕ) (d : Function) → k < l.f-index → IsMain (slice_index_or l.fn.module.functions k d) → ⊥
