-- The statements of the laws.
use Rattle.std.specs.Prelude.{◌≡◌}
use Rattle.ds_ast.specs.declared.module.Module.{Module}
use Rattle.ds_shape.specs.Accepted.{Accepted}
use Rattle.ds_check.specs.declared.fault.TypeFault.{TypeFault}
use Rattle.ds_check.specs.Fault.{HasTypeFault}

-- an accepted module has no fault
abbrev pub AcceptedAreNotRefused : Type 0
AcceptedAreNotRefused = (m : Module) (fault : TypeFault) → Accepted m → HasTypeFault m fault → ⊥

-- and another has one first fault
abbrev pub OneTypeFault : Type 0
OneTypeFault = (m : Module) (f g : TypeFault) → HasTypeFault m f → HasTypeFault m g → f ≡ g
