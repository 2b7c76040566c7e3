-- Memory on the stack, and addresses of parts.
use Rattle.std.specs.Prelude.{◌≡◌, ℕ, false, [], ◌∷◌, Some, None, codes}
use Rattle.ds_ast.specs.declared.name.Name.TheVariants.{Number, Text}
use Rattle.ds_ast.specs.declared.ty.Scalar.TheVariants.{I8, I32, I64}
use Rattle.ds_ast.specs.declared.ty.Ty.{Ty}
use Rattle.ds_ast.specs.declared.ty.Ty as ty
use Rattle.ds_ast.specs.declared.value.Value.TheVariants.{Int, Null}
use Rattle.ds_ast.specs.declared.operand.Operand.{Operand}
use Rattle.ds_ast.specs.declared.instr.Op.TheVariants.{Alloca, Gep}
use Rattle.ds_plain.specs.declared.TrapKind.TheVariants.{StackLimit}
use Rattle.ds_plain.specs.Behaviour.{Outcome, Goes, Stuck}
use Rattle.ds_meaning.specs.Frames.{State, Runs}
use Rattle.ds_meaning.specs.Meaning.{act}
use Rattle.ds_meaning_laws.specs.Example.{tried, gives, trapped, local, operand, here, names, frame_in}
use Rattle.ds_meaning_laws.specs.Example.{frame_behind, context_of}

-- ALLOCA: the stack of thread 1 begins at 0x108000, and 10 of its words are taken

-- the result is the address, and so many words are taken then
abbrev pub takes : ℕ → ℕ → Outcome State
takes address taken = Goes (Runs (record (frame_behind ((Number 9, 0, address) ∷ names)) { taken = taken }) [])

-- one word for four bytes, and two for three times three
abbrev pub AllocatesWholeWords : Type 0
AllocatesWholeWords =
    (tried (Alloca (ty.One I32) None) ≡ takes 0x108050 11)
    × (tried (Alloca (ty.Array 3 (ty.One I8)) (Some (operand I64 (Int 3)))) ≡ takes 0x108050 12)
    × (tried (Alloca (ty.Struct (Text (codes "pair"))) (Some (operand I32 (Int 2)))) ≡ takes 0x108050 14)

-- -1 of 8 bits are 255 bytes
abbrev pub CountsWithoutASign : Type 0
CountsWithoutASign = tried (Alloca (ty.One I8) (Some (operand I8 (Int 255)))) ≡ takes 0x108050 42

-- 4,086 words are left; the number of bytes never wraps
abbrev pub StackIsLimited : Type 0
StackIsLimited =
    (tried (Alloca (ty.One I64) (Some (operand I64 (Int 4086)))) ≡ takes 0x108050 4096)
    × (tried (Alloca (ty.One I64) (Some (operand I64 (Int 4087)))) ≡ trapped StackLimit)
    × (tried (Alloca (ty.One I64) (Some (operand I64 (Int 0x2000000000000000)))) ≡ trapped StackLimit)

-- no words on a full stack
abbrev pub NoWordsAreAlwaysThere : Type 0
NoWordsAreAlwaysThere =
    (tried (Alloca (ty.Array 0 (ty.One I64)) None) ≡ takes 0x108050 10)
    × (act (context_of false []) (record here { frame = record (frame_in names) { taken = 4096 } })
    (Alloca (ty.One I64) (Some (operand I64 (Int 0)))) ≡ takes 0x110000 4096)

-- GETELEMENTPTR

abbrev pub index : ℕ → Operand
index n = operand I32 (Int n)

abbrev pub pair_type : Ty
pair_type = ty.Struct (Text (codes "pair"))

-- one element of 8 bytes back
abbrev pub IndicesHaveASign : Type 0
IndicesHaveASign =
    (tried (Gep (ty.One I64) (local 1) (operand I32 (Int 0xffffffff) ∷ [])) ≡ gives 0x1000008)
    × (tried (Gep (ty.One I64) (local 1) (operand I8 (local 3) ∷ [])) ≡ gives 0xffffe0)

-- the second struct of 16 bytes, and its field of 4 bytes or its pointer
abbrev pub FieldsHaveOffsets : Type 0
FieldsHaveOffsets =
    (tried (Gep pair_type (local 1) (index 1 ∷ index 1 ∷ [])) ≡ gives 0x1000024)
    × (tried (Gep pair_type (local 1) (index 0 ∷ index 2 ∷ [])) ≡ gives 0x1000018)

-- the element 2 of the array
abbrev pub ElementsHaveOffsets : Type 0
ElementsHaveOffsets =
    tried (Gep (ty.Array 3 (ty.One I32)) (local 1) (index 1 ∷ operand I64 (Int 2) ∷ [])) ≡ gives 0x1000024

abbrev pub AddressesWrap : Type 0
AddressesWrap =
    (tried (Gep (ty.One I8) (Int 0xfffffffffffffffe) (index 5 ∷ [])) ≡ gives 3)
    × (tried (Gep (ty.One I8) Null (index 0xffffffff ∷ [])) ≡ gives 0xffffffffffffffff)

abbrev pub NoIndices : Type 0
NoIndices = tried (Gep (ty.One I64) (local 2) []) ≡ gives 0x8000000001000010

-- there is no fourth field, and no such name
abbrev pub NoSuchPart : Type 0
NoSuchPart =
    (tried (Gep pair_type (local 1) (index 0 ∷ index 3 ∷ [])) ≡ Stuck)
    × (tried (Gep (ty.One I64) (local 1) (operand I64 (local 8) ∷ [])) ≡ Stuck)
