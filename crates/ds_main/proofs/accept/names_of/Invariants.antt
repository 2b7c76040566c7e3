use Rattle.std.proofs.Common.{◌≡◌, map, take}
use Rattle.ds_ast.specs.declared.module.Function.{Function}
use Rattle.ds_main.proofs.accept.names_of.Given as goal

-- the names so far
abbrev pub invariant-loop-f : goal.invariant-loop-f
invariant-loop-f l = l.names.items ≡ map (λ (f : Function). f.name) (take l.f-index l.fn.module.functions)
