-- Helpers of the code, which no public clause cites: what is known of one instruction, by the first rule that it
-- breaks.
use Rattle.std.specs.Prelude.{Option, Some, None}
use Rattle.ds_ast.specs.declared.module.Module.{Module}
use Rattle.ds_ast.specs.declared.module.Function.{Function}
use Rattle.ds_shape.specs.Placed.{Placed, KeepsDefined, KeepsTypes, KeepsPhi}
use Rattle.ds_check.specs.Fault.{KeepsAll}
use Rattle.ds_check.specs.declared.instr.Rule.{Rule}
use Rattle.ds_check.specs.declared.instr.Rule.TheVariants.{Defined, Typed, GoodPhi}

-- the rule is the first that the instruction breaks, if it breaks one
abbrev pub IsBroken : Module → Function → Placed → Option Rule → Type 0
IsBroken m f p None = KeepsAll m f p
IsBroken m f p (Some Defined) = KeepsDefined m f p → ⊥
IsBroken m f p (Some Typed) = KeepsDefined m f p × (KeepsTypes m f p → ⊥)
IsBroken m f p (Some GoodPhi) = KeepsDefined m f p × KeepsTypes m f p × (KeepsPhi f p → ⊥)
