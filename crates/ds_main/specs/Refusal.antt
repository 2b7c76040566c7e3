-- Which inputs are refused, and for what.
use Rattle.std.specs.Prelude.{◌≡◌, ℕ, ◌<◌, ◌≤◌, ◌⊎◌, List, length}
use Rattle.ds_ast.specs.declared.module.Module.{Module}
use Rattle.ds_grammar.specs.declared.fault.ParseFault.{ParseFault}
use Rattle.ds_parse.specs.Faults.{HasParseFault}
use Rattle.ds_shape.specs.Accepted.{HasLayout}
use Rattle.ds_shape.specs.Fault.{HasShapeFault}
use Rattle.ds_check.specs.Fault.{HasTypeFault}
use Rattle.ds_report.specs.declared.fault.Fault.{Fault}
use Rattle.ds_report.specs.declared.fault.Fault.TheVariants.{Usage, Read, TooLong, Parse, Shape, Check}
use Rattle.ds_main.specs.Input.{longest_input, Spells, function_names, IsAccepted}

abbrev pub IsTooLong : List ℕ → Type 0
IsTooLong bytes = longest_input < length bytes

-- the input is not too long, and this is the fault for which it spells no module
abbrev pub HasTextFault : ParseFault → List ℕ → Type 0
HasTextFault fault bytes = (length bytes ≤ longest_input) × HasParseFault bytes fault

-- the fault for which the module is not accepted: that of its layout, or, where it has one, the first of the other
-- rules, with the names of its functions
abbrev pub HasModuleFault : Fault → Module → Type 0
HasModuleFault Usage m = ⊥
HasModuleFault Read m = ⊥
HasModuleFault TooLong m = ⊥
HasModuleFault (Parse fault) m = ⊥
HasModuleFault (Shape fault) m = HasShapeFault m fault
HasModuleFault (Check fault names) m = HasLayout m × HasTypeFault m fault × (names ≡ function_names m)

-- the input spells a module that is not accepted, for this fault
abbrev pub SpellsFaulty : Fault → List ℕ → Type 0
SpellsFaulty fault bytes = (m : Module) × Spells bytes m × HasModuleFault fault m

-- the input is refused
abbrev pub IsRefused : List ℕ → Type 0
IsRefused bytes =
    IsTooLong bytes ⊎ (((fault : ParseFault) × HasTextFault fault bytes)
    ⊎ ((fault : Fault) × SpellsFaulty fault bytes))

-- an input that is accepted is not refused
abbrev pub AcceptedInputsAreNotRefused : Type 0
AcceptedInputsAreNotRefused = (bytes : List ℕ) → IsAccepted bytes → IsRefused bytes → ⊥
