-- The instructions of a function in the order of the text, each with its number and its place, and the rules that each
-- keeps.
use Rattle.std.specs.Prelude.{◌≡◌, ℕ, suc, ◌+◌, ◌⊎◌, ◌↔◌, List, [], ◌∷◌, ◌++◌, length, map, Option, All}
use Rattle.ds_ast.specs.declared.name.Name.{Name}
use Rattle.ds_ast.specs.declared.ty.Scalar.{Scalar}
use Rattle.ds_ast.specs.declared.ty.Ty.{Ty, Void, One}
use Rattle.ds_ast.specs.declared.value.Value.{Value}
use Rattle.ds_ast.specs.declared.value.Value.TheVariants.{Int, Null, Undef, Local, Global}
use Rattle.ds_ast.specs.declared.operand.Arm.{Arm}
use Rattle.ds_ast.specs.declared.instr.Op.{Op}
use Rattle.ds_ast.specs.declared.instr.Instr.{Instr}
use Rattle.ds_ast.specs.declared.module.Module.{Module}
use Rattle.ds_ast.specs.declared.module.Function.{Function}
use Rattle.ds_ast.specs.declared.module.Block.{Block}
use Rattle.ds_shape.specs.Written.{IsFirstBreach}
use Rattle.ds_shape.specs.declared.local.LocalType.{LocalType}
use Rattle.ds_shape.specs.Types.{Stands, IsGlobal, IsFunction, Defines, IsTypedOp}
use Rattle.ds_shape.specs.Operands.{uses_of}
use Rattle.ds_shape.specs.Flow.{arms_of, targets_of, IsEntry, IsEdge, IsAssignedAt}

-- an instruction, its number in the function, the block in which it stands, and the instructions before it there
pub record Placed : Type 0 where
  pub number : ℕ
  pub block : Block
  pub front : List Instr
  pub instr : Instr

-- those of a block from one on, which has this number and stands behind these
abbrev pub placed_in : ℕ → Block → List Instr → List Instr → List Placed
placed_in number b front [] = []
placed_in number b front (i ∷ code) =
    record { number = number; block = b; front = front; instr = i } ∷ placed_in (suc number) b (front ++ i ∷ []) code

-- those of blocks, of which the first instruction has this number
abbrev pub placed_from : ℕ → List Block → List Placed
placed_from number [] = []
placed_from number (b ∷ blocks) = placed_in number b [] b.code ++ placed_from (number + length b.code) blocks

-- those of a function
abbrev pub placed_of : Function → List Placed
placed_of f = placed_from 0 f.blocks

-- LABELS

-- the label is that of a block, and not of the entry
abbrev pub IsTarget : Function → Name → Type 0
IsTarget f name = (b : Block) × Stands b f.blocks × (b.name ≡ name) × (IsEntry f b → ⊥)

-- each label that the instruction names is that of a block, and not of the entry
abbrev pub KeepsTargets : Function → Placed → Type 0
KeepsTargets f p = All (IsTarget f) (targets_of p.instr.op)

-- OPERANDS

-- a local value is defined somewhere in the function, a global one in the module
abbrev pub IsDefined : Module → Function → Value → Type 0
IsDefined m f (Int n) = Unit {0}
IsDefined m f Null = Unit {0}
IsDefined m f Undef = Unit {0}
IsDefined m f (Local name) = (t : Option LocalType) × Defines f name t
IsDefined m f (Global name) = IsGlobal m name ⊎ IsFunction m name

-- all values that the instruction uses, those of a phi's arms too
abbrev pub values_of : Op → List Value
values_of o = uses_of o ++ map (λ (a : Arm). a.value) (arms_of o)

-- each of them is defined somewhere
abbrev pub KeepsDefined : Module → Function → Placed → Type 0
KeepsDefined m f p = All (IsDefined m f) (values_of p.instr.op)

-- TYPES

-- the type is none, or one that a register holds
abbrev pub GivesRegister : Ty → Type 0
GivesRegister t = (t ≡ Void) ⊎ ((s : Scalar) × (t ≡ One s))

-- the instruction keeps the rule of its types; and the first answers for the function's result, which is none or what
-- a register holds
abbrev pub KeepsTypes : Module → Function → Placed → Type 0
KeepsTypes m f p = IsTypedOp m f p.instr.op × (p.number ≡ 0 → GivesRegister f.result)

-- PHIS

-- the instruction is a phi
abbrev pub IsPhi : Instr → Type 0
IsPhi i = arms_of i.op ≡ [] → ⊥

-- A phi stands at the front of its block, behind phis alone; its labels are those of the blocks from which an edge
-- leads here; and one label has one value.
pub record IsGoodPhi (f : Function) (c : Block) (front : List Instr) (o : Op) : Type 0 where
  pub at_front : All IsPhi front
  pub labels : (b : Block) → Stands b f.blocks → (IsEdge f b c ↔ Stands b.name (map (λ (a : Arm). a.from) (arms_of o)))
  pub known : All (λ (a : Arm). (b : Block) × Stands b f.blocks × (b.name ≡ a.from)) (arms_of o)
  pub one_value : (a b : Arm) → Stands a (arms_of o) → Stands b (arms_of o) → a.from ≡ b.from → a.value ≡ b.value

-- where the instruction is a phi, it is a good one
abbrev pub KeepsPhi : Function → Placed → Type 0
KeepsPhi f p = IsPhi p.instr → IsGoodPhi f p.block p.front p.instr.op

-- PATHS

-- a local value is assigned on every path to the instruction behind these
abbrev pub IsAssignedUse : Function → Block → List Instr → Value → Type 0
IsAssignedUse f c front (Int n) = Unit {0}
IsAssignedUse f c front Null = Unit {0}
IsAssignedUse f c front Undef = Unit {0}
IsAssignedUse f c front (Local name) = IsAssignedAt f name c front
IsAssignedUse f c front (Global name) = Unit {0}

-- an arm's value is assigned at the end of the block that it names
abbrev pub IsAssignedArm : Function → Arm → Type 0
IsAssignedArm f a = (b : Block) → Stands b f.blocks → b.name ≡ a.from → IsAssignedUse f b b.code a.value

-- each value that the instruction uses is assigned on every path to it, and that of an arm on every path to the end of
-- the arm's block
abbrev pub KeepsAssigned : Function → Placed → Type 0
KeepsAssigned f p =
    All (IsAssignedUse f p.block p.front) (uses_of p.instr.op) × All (IsAssignedArm f) (arms_of p.instr.op)

-- FAULTS

-- the instruction breaks this rule, which each before it keeps
abbrev pub BreaksFirst : (Placed → Type 0) → Function → ℕ → Type 0
BreaksFirst Keeps f i = (p : Placed) × IsFirstBreach Keeps (placed_of f) p × (i ≡ p.number)
