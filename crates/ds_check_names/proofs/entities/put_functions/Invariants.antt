use Rattle.std.proofs.Common.{◌≡◌, ◌++◌, map, drop}
use Rattle.ds_ast.specs.declared.module.Function.{Function}
use Rattle.ds_names.specs.Names.{AreDistinct}
use Rattle.ds_check_names.proofs.entities.put_functions.Given as goal

-- the names that stand there now, and those that remain
abbrev pub invariant-loop-function : goal.invariant-loop-function
invariant-loop-function l =
    (l.names ++ map (λ (x : Function). x.name) (drop l.function-index l.functions) ≡ l.fn.names
    ++ map (λ (x : Function). x.name) l.functions)
    × (AreDistinct l.fn.names → AreDistinct l.names)
