-- The first bad external by the first of the globals or of the functions.
use Rattle.std.proofs.Common.{◌≡◌, List, inl, inr, refl, subst}
use Rattle.std.specs.Prelude.{All}
use Rattle.ds_ast.specs.declared.module.Module.{Module}
use Rattle.ds_ast.specs.declared.module.GlobalDef.{GlobalDef}
use Rattle.ds_ast.specs.declared.module.Function.{Function}
use Rattle.ds_shape.specs.Written.{IsFirstBreach}
use Rattle.ds_check.specs.Fault.{IsFirstExternal}
use Rattle.ds_shape.specs.Accepted.{IsFreeGlobal, IsGoodExternal}

pub among_globals : (m : Module) (gs : List GlobalDef) (g : GlobalDef) → gs ≡ m.globals
    → IsFirstBreach IsFreeGlobal gs g → IsFirstExternal m g.name
among_globals m gs g same first = inl (g, subst (λ gs. IsFirstBreach IsFreeGlobal gs g) same first, refl)

pub among_functions : (m : Module) (gs : List GlobalDef) (fs : List Function) (f : Function) → gs ≡ m.globals
    → All IsFreeGlobal gs → fs ≡ m.functions
    → IsFirstBreach IsGoodExternal fs f → IsFirstExternal m f.name
among_functions m gs fs f same free also first =
    inr (f, subst (All IsFreeGlobal) same free, subst (λ fs. IsFirstBreach IsGoodExternal fs f) also first, refl)
