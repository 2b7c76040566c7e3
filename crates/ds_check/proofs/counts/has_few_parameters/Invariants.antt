use Rattle.std.proofs.Common.{◌≤◌, length, take}
use Rattle.std.specs.Prelude.{All}
use Rattle.ds_ast.specs.declared.module.Function.{Function}
use Rattle.ds_check.proofs.counts.has_few_parameters.Given as goal

abbrev pub invariant-loop-f : goal.invariant-loop-f
invariant-loop-f l = All (λ (f : Function). length f.params ≤ l.fn.limit) (take l.f-index l.fn.module.functions)
