use Rattle.std.proofs.Common.{◌≡◌, map, take}
use Rattle.ds_ast.specs.declared.module.Function.{Function}
use Rattle.ds_lower.proofs.lowering.names_of.Given as goal

-- the names of the functions so far
abbrev pub invariant-loop-function : goal.invariant-loop-function
invariant-loop-function l = l.names ≡ map (λ (f : Function). f.name) (take l.function-index l.functions)
