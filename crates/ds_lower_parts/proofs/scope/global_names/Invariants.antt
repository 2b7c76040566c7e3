use Rattle.std.proofs.Common.{◌≡◌, map, take}
use Rattle.ds_ast.specs.declared.module.GlobalDef.{GlobalDef}
use Rattle.ds_names.specs.Places.{nows}
use Rattle.ds_lower_parts.proofs.scope.global_names.Given as goal

-- the names of the globals so far
abbrev pub invariant-loop-global : goal.invariant-loop-global
invariant-loop-global l = nows l.names.items ≡ map (λ (g : GlobalDef). g.name) (take l.global-index l.globals)
