-- What is known of addresses, of phis, and of a function while its code is made.
use Rattle.std.specs.Prelude.{◌≡◌, ◌<◌, ◌^◌, ℕ, ◌+◌, List, [], ◌∷◌, ◌++◌, length, map, flat_map, slice_get, All}
use Rattle.std.specs.Prelude.{Option, Some, None, Bool, true, false}
use Rattle.std.specs.Option.{option_map}
use Rattle.ds_ast.specs.declared.name.Name.{Name}
use Rattle.ds_ast.specs.declared.ty.Scalar.{Scalar}
use Rattle.ds_ast.specs.declared.ty.Scalar.TheVariants.{I1}
use Rattle.ds_ast.specs.declared.value.Value.{Value}
use Rattle.ds_ast.specs.declared.operand.Operand.{Operand}
use Rattle.ds_ast.specs.declared.operand.Arm.{Arm}
use Rattle.ds_ast.specs.declared.instr.Instr.{Instr}
use Rattle.ds_ast.specs.declared.module.Module.{Module}
use Rattle.ds_ast.specs.declared.module.StructDef.{StructDef}
use Rattle.ds_ast.specs.declared.module.Function.{Function}
use Rattle.ds_ast.specs.declared.module.Block.{Block}
use Rattle.ds_shape.specs.Address.{Step}
use Rattle.ds_shape.specs.Fits.{Fits}
use Rattle.ds_shape.specs.Sizes.{◌>>=◌}
use Rattle.ds_shape.specs.Written.{types_of_op}
use Rattle.ds_meaning.specs.Control.{Choice, choice_of, arm_for}
use Rattle.ds_code.specs.declared.ops.Stride.{Stride}
use Rattle.ds_code.specs.Cells.{Cells, cells_for, cell_total, name_past}
use Rattle.ds_code.specs.Lowering.{front, strides_of}

-- ADDRESSES

-- the types that instructions write fit
abbrev pub AllFit : List StructDef → List Instr → Type 0
AllFit structs code = All (λ (i : Instr). All (Fits structs) (types_of_op i.op)) code

-- the strides of steps with their indices, behind others, where there are steps
abbrev pub ahead : Module → Cells → List Stride → Option (List Step) → List Operand → Option (List Stride)
ahead m c before steps indices = option_map (λ (ss : List Step). before ++ strides_of m c ss indices) steps

-- what is pushed behind strides for indices, by the steps to which these lead, where they lead anywhere
abbrev pub IsPushed : Module → Cells → List Stride → Option (List Step) → List Operand → Bool → List Stride → Type 0
IsPushed m c before None indices leads after = leads ≡ false
IsPushed m c before (Some steps) indices leads after =
    (leads ≡ true) × (after ≡ before ++ strides_of m c steps indices)

-- PHIS

-- the labels of arms
abbrev pub labels_of : List Arm → List Name
labels_of arms = map (λ (a : Arm). a.from) arms

-- the instruction is the phi of this type and these arms, which have these labels
abbrev pub IsPhiOf : Instr → Scalar → List Arm → List Name → Type 0
IsPhiOf i ty arms labels =
    (choice_of i.op ≡ Some (record { ty = ty; arms = arms })) × (labels ≡ labels_of arms)

-- the value of the arm of a number
abbrev pub value_in : List Arm → ℕ → Option Value
value_in arms n = option_map (λ (a : Arm). a.value) (slice_get arms n)

-- the value of a phi where control comes from a block
abbrev pub phi_arm : Instr → (from : Name) → Option Value
phi_arm i from = choice_of i.op >>= (λ (choice : Choice). arm_for from choice.arms)

-- the type of a phi's values
abbrev pub type_by : Option Choice → Scalar
type_by None = I1
type_by (Some choice) = choice.ty

abbrev pub type_in : Instr → Scalar
type_in i = type_by (choice_of i.op)

-- A FUNCTION

-- the names of results that have more parts than so many
abbrev pub names_past : ℕ → List Block → List Name
names_past past bs = flat_map (λ (b : Block). flat_map (name_past past) b.code) bs

-- how many instructions stand before each of these blocks, behind so many
abbrev pub offsets_from : ℕ → List Block → List ℕ
offsets_from at [] = []
offsets_from at (b ∷ bs) = at ∷ offsets_from (at + length b.code) bs

-- the names of cells and labels are those of the function, as the offsets of its blocks are and the phis at the front
-- of each
pub record InFunction (f : Function) (firsts seconds labels : List Name) (offsets : List ℕ) (phis : List (List Instr))
    : Type 0 where
  pub first : firsts ≡ (cells_for f).firsts
  pub second : seconds ≡ (cells_for f).seconds
  pub few : cell_total (cells_for f) < 2 ^ 32
  pub label : labels ≡ map (λ (b : Block). b.name) f.blocks
  pub begin : offsets ≡ offsets_from 0 f.blocks
  pub phi : phis ≡ map (λ (b : Block). front b.code) f.blocks
