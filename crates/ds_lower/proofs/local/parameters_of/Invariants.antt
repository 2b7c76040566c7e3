use Rattle.std.proofs.Common.{◌≡◌, map, take}
use Rattle.ds_ast.specs.declared.module.Param.{Param}
use Rattle.ds_names.specs.Places.{nows}
use Rattle.ds_lower.proofs.local.parameters_of.Given as goal

-- the names of the parameters so far
abbrev pub invariant-loop-param : goal.invariant-loop-param
invariant-loop-param l = nows l.names.items ≡ map (λ (p : Param). p.name) (take l.param-index l.params)
