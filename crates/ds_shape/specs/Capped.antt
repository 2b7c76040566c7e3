-- Sizes up to a bound. A struct in a chain of structs may have a size that no number of the machine holds, so that all
-- sizes above 2 ^ 31 are kept as one.
use Rattle.std.specs.Prelude.{◌≡◌, ◌^◌, ◌+◌, ◌*◌, ◌≤◌, ℕ, Bool, false, ◌||◌, nat_lt, min, max, List, [], ◌∷◌, map, get_or, Option, Some, None}
use Rattle.ds_ast.specs.declared.name.Name.{Name}
use Rattle.ds_ast.specs.declared.ty.Ty.{Ty, Void, One, Struct, Array', more_of-Ty, end_of-Ty}
use Rattle.ds_ast.specs.declared.module.StructDef.{StructDef}
use Rattle.ds_names.specs.Names.{place_of}
use Rattle.ds_shape.specs.Sizes.{Extent, scalar_size, rounded, HasExtent}
use Rattle.ds_shape.specs.Written.{struct_names}
use Rattle.ds_shape.specs.declared.extents.CappedExtent.{CappedExtent}

-- a size of more than 2 ^ 31 bytes is kept as one of 2 ^ 31 + 1
abbrev pub capped : ℕ → ℕ
capped n = min n (2 ^ 31 + 1)

-- what is kept of an extent
abbrev pub cap : Extent → CappedExtent
cap e = record { size = capped e.size; align = e.align }

-- the extent of an empty struct
abbrev pub empty : CappedExtent
empty = record { size = 0; align = 1 }

-- the extent has such a size, and an alignment of 1 to 8
pub record IsShort (e : CappedExtent) : Type 0 where
  pub size : e.size ≤ 2 ^ 31 + 1
  pub some_align : 1 ≤ e.align
  pub align : e.align ≤ 8

-- what is kept of the extent of an array of so many
abbrev pub capped_times : ℕ → CappedExtent → CappedExtent
capped_times count e = record { size = capped (count * e.size); align = e.align }

-- what is kept of a type's extent, by what is kept of the structs'
abbrev pub capped_extent : (Name → CappedExtent) → Ty → CappedExtent
capped_extent of_struct Void = empty
capped_extent of_struct (One s) = record { size = scalar_size s; align = scalar_size s }
capped_extent of_struct (Array' count _ (more_of-Ty of end_of-Ty)) = capped_times count (capped_extent of_struct of)
capped_extent of_struct (Struct name) = of_struct name

-- where a field begins, and what stands behind it
abbrev pub start_at : ℕ → CappedExtent → ℕ
start_at at e = capped (rounded at e.align)

abbrev pub behind : ℕ → CappedExtent → ℕ
behind at e = capped (start_at at e + e.size)

-- the extent of a struct with these fields
abbrev pub capped_fields : (Ty → CappedExtent) → ℕ → ℕ → List Ty → CappedExtent
capped_fields extent at align [] = record { size = capped (rounded at align); align = align }
capped_fields extent at align (t ∷ ts) = capped_fields extent (behind at (extent t)) (max align (extent t).align) ts

-- and where each of them begins
abbrev pub capped_offsets : (Ty → CappedExtent) → ℕ → List Ty → List ℕ
capped_offsets extent at [] = []
capped_offsets extent at (t ∷ ts) = start_at at (extent t) ∷ capped_offsets extent (behind at (extent t)) ts

-- the extent at a place, where there is one
abbrev pub extent_at : List CappedExtent → Option ℕ → CappedExtent
extent_at extents None = empty
extent_at extents (Some place) = get_or extents place empty

-- the extents of structs by their names
abbrev pub extent_in : List Name → List CappedExtent → Name → CappedExtent
extent_in names extents name = extent_at extents (place_of names name)

-- the offset in a row at a place
abbrev pub offset_at : List (List ℕ) → Option ℕ → ℕ → ℕ
offset_at rows None field = 0
offset_at rows (Some place) field = get_or (get_or rows place []) field 0

-- the extent of the struct type, if it has one, is kept
abbrev pub IsRight : List StructDef → List CappedExtent → Name → Type 0
IsRight structs extents name =
    (e : Extent) → HasExtent structs (Struct name) e →
    (extent_in (struct_names structs) extents name ≡ cap e) × (1 ≤ e.align)

-- the extents are those of all struct types
abbrev pub AreRight : List StructDef → List CappedExtent → Type 0
AreRight structs extents = (name : Name) → IsRight structs extents name

-- the offsets of all fields
abbrev pub offsets_by : List Name → List CappedExtent → List StructDef → List (List ℕ)
offsets_by names extents structs =
    map (λ (s : StructDef). capped_offsets (capped_extent (extent_in names extents)) 0 s.fields) structs

-- the size is more than 2 ^ 31 bytes
abbrev pub is_large : CappedExtent → Bool
is_large e = nat_lt (2 ^ 31) e.size

-- the type, or one written inside it, is larger
abbrev pub writes_large : (Name → CappedExtent) → Ty → Bool
writes_large of_struct Void = false
writes_large of_struct (One s) = false
writes_large of_struct (Array' count _ (more_of-Ty of end_of-Ty)) =
    is_large (capped_times count (capped_extent of_struct of)) || writes_large of_struct of
writes_large of_struct (Struct name) = is_large (of_struct name)

-- one of the types is
abbrev pub any_large : (Name → CappedExtent) → List Ty → Bool
any_large of_struct [] = false
any_large of_struct (t ∷ ts) = writes_large of_struct t || any_large of_struct ts
