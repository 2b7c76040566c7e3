-- The types and fields whose sizes and offsets may be asked for.
use Rattle.std.specs.Prelude.{◌≡◌, ◌<◌, ℕ, List, length, Some}
use Rattle.ds_ast.specs.declared.name.Name.{Name}
use Rattle.ds_ast.specs.declared.ty.Ty.{Ty}
use Rattle.ds_ast.specs.declared.module.StructDef.{StructDef}
use Rattle.ds_ast.specs.Bounds.{fields_of}
use Rattle.ds_shape.specs.Sizes.{Extent, HasExtent}
use Rattle.ds_shape.specs.Written.{WritesTooLarge}

-- the type has a size, and neither it nor one written inside it has more than 2 ^ 31 bytes
abbrev pub Fits : List StructDef → Ty → Type 0
Fits structs t = (e : Extent) × HasExtent structs t e × (WritesTooLarge structs t → ⊥)

-- the struct has a field behind so many
abbrev pub HasField : List StructDef → Name → ℕ → Type 0
HasField structs name n = (fields : List Ty) × (fields_of structs name ≡ Some fields) × (n < length fields)
