use Rattle.std.proofs.Common.{take}
use Rattle.std.specs.Prelude.{All}
use Rattle.ds_ast.specs.declared.module.GlobalDef.{GlobalDef}
use Rattle.ds_shape.specs.Types.{IsInitial}
use Rattle.ds_check.proofs.bodies.are_globals_initial.Given as goal

abbrev pub invariant-loop-g : goal.invariant-loop-g
invariant-loop-g l = All (λ (g : GlobalDef). IsInitial l.fn.module g.ty g.init) (take l.g-index l.fn.module.globals)
