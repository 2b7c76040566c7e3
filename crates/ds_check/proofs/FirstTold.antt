-- Which faults a call may tell, by the laws of accepted modules and of first faults.
use Rattle.std.proofs.Common.{◌≡◌, ◌⊎◌, Result, Ok, Err, inl, inr, ap}
use Rattle.std.specs.Prelude.{IfErr, IfOk}
use Rattle.ds_ast.specs.declared.module.Module.{Module}
use Rattle.ds_shape.specs.Accepted.{Accepted}
use Rattle.ds_check.specs.declared.fault.TypeFault.{TypeFault}
use Rattle.ds_check.specs.declared.fault.TypeFault.TheVariants.{Memory}
use Rattle.ds_check.specs.Fault.{HasTypeFault}
use Rattle.ds_check.proofs.NoFault.{never_refused}
use Rattle.ds_check.proofs.OneFault.{one_fault}

-- of an accepted module none but want of memory
pub only_memory : (m : Module) (r : Result (Unit {0}) TypeFault)
    → IfErr r (λ fault. (fault ≡ Memory) ⊎ HasTypeFault m fault) → Accepted m → IfErr r (λ fault. fault ≡ Memory)
only_memory m (Ok u) refused is = refused
only_memory m (Err fault) (inl memory) is = memory
only_memory m (Err fault) (inr has) is = absurd (never_refused m fault is has)

-- of another its first fault, or want of memory
pub first_told : (m : Module) (r : Result (Unit {0}) TypeFault) (fault : TypeFault) → IfOk r (λ _. Accepted m)
    → IfErr r (λ fault. (fault ≡ Memory) ⊎ HasTypeFault m fault)
    → HasTypeFault m fault → (r ≡ Err fault) ⊎ (r ≡ Err Memory)
first_told m (Ok u) fault is refused has = absurd (never_refused m fault is has)
first_told m (Err told) fault none (inl memory) has = inr (ap Err memory)
first_told m (Err told) fault none (inr holds) has = inl (ap Err (one_fault m told fault holds has))
