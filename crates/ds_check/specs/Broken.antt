-- Helpers of the code, which no public clause cites: the first instruction of a function that breaks a rule of one
-- instruction.
use Rattle.std.specs.Prelude.{◌≡◌, ℕ, Some}
use Rattle.ds_ast.specs.declared.module.Module.{Module}
use Rattle.ds_ast.specs.declared.module.Function.{Function}
use Rattle.ds_shape.specs.Written.{IsFirstBreach}
use Rattle.ds_shape.specs.Placed.{Placed, placed_of}
use Rattle.ds_check.specs.Fault.{KeepsAll}
use Rattle.ds_check.specs.Instr.{IsBroken}
use Rattle.ds_check.specs.declared.instructions.Broken.{Broken}
use Rattle.ds_check.specs.declared.instr.Rule.{Rule}
use Rattle.ds_check.specs.declared.instr.Rule.TheVariants.{Defined, Typed, GoodPhi}
use Rattle.ds_check.specs.declared.fault.TypeFault.{TypeFault}
use Rattle.ds_check.specs.declared.fault.TypeFault.TheVariants.{Undefined, WrongType, BadPhi}

-- all before it keep all rules but that of paths, and this is the first rule that it breaks
abbrev pub IsFirstBroken : Module → Function → Broken → Type 0
IsFirstBroken m f b =
    (p : Placed) × IsFirstBreach (KeepsAll m f) (placed_of f) p × IsBroken m f p (Some b.rule) × (b.number ≡ p.number)

-- the fault of a function of this number that breaks the rule at an instruction
abbrev pub fault_at : ℕ → ℕ → Rule → TypeFault
fault_at f i Defined = Undefined f i
fault_at f i Typed = WrongType f i
fault_at f i GoodPhi = BadPhi f i
