-- What the steps of the search give.
use Rattle.std.proofs.Common.{◌≡◌, ◌⊎◌, Result, Ok, Err, inl, inr}
use Rattle.std.specs.Prelude.{IfErr}
use Rattle.ds_ast.specs.declared.module.Module.{Module}
use Rattle.ds_check.specs.declared.fault.TypeFault.{TypeFault}
use Rattle.ds_check.specs.declared.fault.TypeFault.TheVariants.{Twice, TooMany, BadExternal, TwiceLocal, BadBlock}
use Rattle.ds_check.specs.declared.fault.TypeFault.TheVariants.{Undefined, WrongType, BadPhi, NotDominating, NoMain}
use Rattle.ds_check.specs.declared.fault.TypeFault.TheVariants.{Memory}
use Rattle.ds_check.specs.Fault.{HasGlobals, HasFirstFunctionFault, HasTypeFault}

-- the first fault of the functions is the module's, where there is none before
pub of_functions : (m : Module) (fault : TypeFault) → HasGlobals m → HasFirstFunctionFault m fault
    → HasTypeFault m fault
of_functions m (Twice name) globals first = absurd first.6
of_functions m (TooMany what limit) globals first = absurd first.6
of_functions m (BadExternal name) globals first = absurd first.6
of_functions m (TwiceLocal f name) globals first = (globals, first)
of_functions m (BadBlock f i) globals first = (globals, first)
of_functions m (Undefined f i) globals first = (globals, first)
of_functions m (WrongType f i) globals first = inr (globals, first)
of_functions m (BadPhi f i) globals first = (globals, first)
of_functions m (NotDominating f i) globals first = (globals, first)
of_functions m NoMain globals first = absurd first.6
of_functions m Memory globals first = absurd first.6

-- the same of what the check of all functions answers
pub functions_refused : (m : Module) (r : Result (Unit {0}) TypeFault) → HasGlobals m
    → IfErr r (λ fault. (fault ≡ Memory) ⊎ HasFirstFunctionFault m fault)
    → IfErr r (λ fault. (fault ≡ Memory) ⊎ HasTypeFault m fault)
functions_refused m (Ok u) globals none = none
functions_refused m (Err fault) globals (inl memory) = inl memory
functions_refused m (Err fault) globals (inr first) = inr (of_functions m fault globals first)
