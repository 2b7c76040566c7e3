-- Sizes, alignments and offsets, in bytes. Each type has its natural ones.
use Rattle.std.specs.Prelude.{◌≡◌, ℕ, zero, suc, ◌+◌, ◌-◌, ◌*◌, ◌/◌, max, List, [], ◌∷◌, length, Option, Some, None, option_map, option_and_then}
use Rattle.std.specs.Option.{unwrap_or}
use Rattle.ds_ast.specs.declared.name.Name.{Name}
use Rattle.ds_ast.specs.declared.ty.Scalar.{Scalar}
use Rattle.ds_ast.specs.declared.ty.Scalar.TheVariants.{I1, I8, I16, I32, I64, Ptr}
use Rattle.ds_ast.specs.declared.ty.Ty.{Ty, Void, One, Struct, Array', more_of-Ty, end_of-Ty}
use Rattle.ds_ast.specs.declared.module.StructDef.{StructDef}
use Rattle.ds_ast.specs.Bounds.{fields_of}

-- goes on with what there is, if there is anything
infixl 10 ◌>>=◌
abbrev pub ◌>>=◌ : {A B : Type 0} → Option A → (A → Option B) → Option B
o >>= f = option_and_then f o

-- a size and an alignment
pub record Extent : Type 0 where
  pub size : ℕ
  pub align : ℕ

-- the size of a register's type, which is its alignment too
abbrev pub scalar_size : Scalar → ℕ
scalar_size I1 = 1
scalar_size I8 = 1
scalar_size I16 = 2
scalar_size I32 = 4
scalar_size I64 = 8
scalar_size Ptr = 8

-- the least multiple of the alignment, which is not 0, that is not below n
abbrev pub rounded : ℕ → ℕ → ℕ
rounded n align = (n + align - 1) / align * align

-- the extent of an array of so many
abbrev pub times : ℕ → Extent → Extent
times count e = record { size = count * e.size; align = e.align }

-- the extent of a type, by those of the structs: an array has the alignment of its elements
abbrev pub extent_by : (Name → Option Extent) → Ty → Option Extent
extent_by of_struct Void = Some (record { size = 0; align = 1 })
extent_by of_struct (One s) = Some (record { size = scalar_size s; align = scalar_size s })
extent_by of_struct (Array' count _ (more_of-Ty of end_of-Ty)) = option_map (times count) (extent_by of_struct of)
extent_by of_struct (Struct name) = of_struct name

-- The extent of fields, which begin at the first multiple of their alignments behind `at`, where the greatest
-- alignment before them is `align`. The size is a multiple of the greatest alignment.
abbrev pub fields_extent : (Ty → Option Extent) → ℕ → ℕ → List Ty → Option Extent
fields_extent extent at align [] = Some (record { size = rounded at align; align = align })
fields_extent extent at align (t ∷ ts) =
    extent t >>= (λ e. fields_extent extent (rounded at e.align + e.size) (max align e.align) ts)

-- where the field behind so many begins
abbrev pub field_offset : (Ty → Option Extent) → ℕ → ℕ → List Ty → Option ℕ
field_offset extent at n [] = None
field_offset extent at zero (t ∷ ts) = extent t >>= (λ e. Some (rounded at e.align))
field_offset extent at (suc n) (t ∷ ts) = extent t >>= (λ e. field_offset extent (rounded at e.align + e.size) n ts)

-- the extent of a struct that holds structs at most so deep: the empty one has size 0 and alignment 1
abbrev pub struct_extent : List StructDef → ℕ → Name → Option Extent
struct_extent structs zero name = None
struct_extent structs (suc depth) name =
    fields_of structs name >>= fields_extent (extent_by (struct_extent structs depth)) 0 1

-- the type has this extent: at some depth of structs
abbrev pub HasExtent : List StructDef → Ty → Extent → Type 0
HasExtent structs t e = (depth : ℕ) × (extent_by (struct_extent structs depth) t ≡ Some e)

-- the field of the struct has this offset
abbrev pub HasOffset : List StructDef → Name → ℕ → ℕ → Type 0
HasOffset structs name n offset =
    (depth : ℕ)
    × ((fields_of structs name >>= field_offset (extent_by (struct_extent structs depth)) 0 n) ≡ Some offset)

-- the extent of a type, where it has one: no struct that has an extent holds structs deeper than there are lines
abbrev pub extent_of : List StructDef → Ty → Option Extent
extent_of structs = extent_by (struct_extent structs (length structs))

-- the offset of a field
abbrev pub offset_of : List StructDef → Name → ℕ → Option ℕ
offset_of structs name n = fields_of structs name >>= field_offset (extent_of structs) 0 n

-- the extent of a type, and that of an empty struct where it has none, as no type of a module that has a layout
abbrev pub layout_of : List StructDef → Ty → Extent
layout_of structs t = unwrap_or (extent_of structs t) (record { size = 0; align = 1 })
