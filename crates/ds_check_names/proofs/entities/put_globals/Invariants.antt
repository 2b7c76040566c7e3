use Rattle.std.proofs.Common.{◌≡◌, ◌++◌, map, drop}
use Rattle.ds_ast.specs.declared.module.GlobalDef.{GlobalDef}
use Rattle.ds_names.specs.Names.{AreDistinct}
use Rattle.ds_check_names.proofs.entities.put_globals.Given as goal

-- the names that stand there now, and those that remain
abbrev pub invariant-loop-global : goal.invariant-loop-global
invariant-loop-global l =
    (l.names ++ map (λ (x : GlobalDef). x.name) (drop l.global-index l.globals) ≡ l.fn.names
    ++ map (λ (x : GlobalDef). x.name) l.globals)
    × (AreDistinct l.fn.names → AreDistinct l.names)
