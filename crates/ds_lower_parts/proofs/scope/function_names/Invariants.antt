use Rattle.std.proofs.Common.{◌≡◌, map, take}
use Rattle.ds_ast.specs.declared.module.Function.{Function}
use Rattle.ds_names.specs.Places.{nows}
use Rattle.ds_lower_parts.proofs.scope.function_names.Given as goal

-- the names of the functions so far
abbrev pub invariant-loop-function : goal.invariant-loop-function
invariant-loop-function l = nows l.names.items ≡ map (λ (f : Function). f.name) (take l.function-index l.functions)
