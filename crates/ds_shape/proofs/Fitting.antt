-- What is kept of a layout answers for each type and field that fits.
use Rattle.std.proofs.Common.{◌≡◌, ◌^◌, ◌<◌, ◌≤◌, ℕ, zero, suc, List, [], ◌∷◌, Option, Some, None, refl, sym, ap, ◌∙◌, subst, inl, inr, get_or, length, arith}
use Rattle.std.specs.Prelude.{map}
use Rattle.std.proofs.lemmas.List.{length-map, get_or-map}
use Rattle.ds_ast.specs.declared.name.Name.{Name}
use Rattle.ds_ast.specs.declared.ty.Scalar.{Scalar}
use Rattle.ds_ast.specs.declared.ty.Scalar.TheVariants.{I1, I8, I16, I32, I64, Ptr}
use Rattle.ds_ast.specs.declared.ty.Ty.{Ty, Void, One, Struct, Array', more_of-Ty, end_of-Ty}
use Rattle.ds_ast.specs.declared.ty.Ty.TheBlock.{hidden-the_row-Ty-0}
use denote.Hole.Carrier.{hidden}
use Rattle.ds_ast.specs.declared.module.StructDef.{StructDef}
use Rattle.ds_ast.specs.Bounds.{fields_of}
use Rattle.ds_names.specs.Names.{place_of}
use Rattle.ds_shape.specs.Sizes.{Extent, HasExtent, HasOffset, scalar_size}
use Rattle.ds_shape.specs.Written.{struct_names, WritesTooLarge}
use Rattle.ds_shape.specs.Fits.{Fits, HasField}
use Rattle.ds_shape.specs.Capped.{capped, capped_extent, behind, capped_offsets, extent_in}
use Rattle.ds_shape.specs.Kept.{IsKept}
use Rattle.ds_shape.specs.declared.extents.CappedExtent.{CappedExtent}
use Rattle.ds_shape.proofs.Exist.{found_or_not}
use Rattle.ds_shape.proofs.Places.{none_among}
use Rattle.ds_shape.proofs.Orders.{below_or_above}
use Rattle.ds_shape.proofs.Holding.{fields_among, fields_at, line_at, no_line, placed_name}
use Rattle.ds_shape.proofs.Filling.{default_apart}
use Rattle.ds_shape.proofs.Caps.{right_types, right_offset, offset_within}

-- SIZES

small_scalar : (s : Scalar) → scalar_size s ≤ 8
small_scalar I1 = omega arith
small_scalar I8 = omega arith
small_scalar I16 = omega arith
small_scalar I32 = omega arith
small_scalar I64 = omega arith
small_scalar Ptr = omega arith

-- a type that fits has at most 2 ^ 31 bytes
small : (structs : List StructDef) (t : Ty) (e : Extent) → HasExtent structs t e → (WritesTooLarge structs t → ⊥) →
    e.size ≤ 2 ^ 31
unfolding hidden-the_row-Ty-0 hidden
small structs Void e (d, is) none =
    let same : record { size = 0; align = 1 } ≡ e = cc in subst (λ (x : Extent). x.size ≤ 2 ^ 31) same (omega arith)
small structs (One s) e (d, is) none =
    let same : record { size = scalar_size s; align = scalar_size s } ≡ e = cc in
    let h : scalar_size s ≤ 8 = small_scalar s in
    subst (λ (x : Extent). x.size ≤ 2 ^ 31) same (omega (arith, h))
small structs (Array' count _ (more_of-Ty of end_of-Ty)) e has none = elim (below_or_above (2 ^ 31) e.size) [
  | inl above ↦ absurd (none (inl (e, has, above)))
  | inr below ↦ below
]
small structs (Struct name) e has none = elim (below_or_above (2 ^ 31) e.size) [
  | inl above ↦ absurd (none (e, has, above))
  | inr below ↦ below
]

uncapped : (n : ℕ) → n ≤ 2 ^ 31 → capped n ≡ n
uncapped n h = omega arith

module _ (structs now : List StructDef) (names : List Name) (extents : List CappedExtent) (offsets : List (List ℕ))
    (kept : IsKept structs names extents offsets) (seen : structs ≡ now) where
  kept_now : IsKept now names extents offsets
  kept_now = subst (λ (s : List StructDef). IsKept s names extents offsets) seen kept

  -- the size of a type that fits
  pub size_exact : (t : Ty) → Fits now t → (e : Extent) → HasExtent now t e →
      (r : CappedExtent) (es : List CappedExtent) → es ≡ extents → r ≡ capped_extent (extent_in names es) t →
      r.size ≡ e.size
  size_exact t (f, fits, none) e has r es all is =
      ap (λ (x : CappedExtent). x.size)
      (is ∙ ap (λ (xs : List CappedExtent). capped_extent (extent_in names xs) t) all
      ∙ ap (λ (ns : List Name). capped_extent (extent_in ns extents) t) kept_now.named
      ∙ right_types now extents kept_now.right t e has)
      ∙ uncapped e.size (small now t e has none)

  -- PLACES

  -- the place of a name is that of its line
  place_named : (name : Name) (place : ℕ) (o : Option ℕ) → o ≡ place_of names name → o ≡ Some place →
      (place < length now) × ((line_at now kept_now.distinct place).name ≡ name)
  place_named name place o found is =
      placed_name now kept_now.distinct name place
      (ap (λ (ns : List Name). place_of ns name) (sym kept_now.named) ∙ sym found ∙ is)

  pub place_inside : (name : Name) (place : ℕ) (o : Option ℕ) → o ≡ place_of names name → o ≡ Some place →
      place < length structs
  place_inside name place o found is =
      subst (λ (s : List StructDef). place < length s) (sym seen) (place_named name place o found is).0

  pub place_few : (name : Name) (place : ℕ) (o : Option ℕ) → o ≡ place_of names name → o ≡ Some place → place < 2 ^ 32
  place_few name place o found is =
      let h : place < length structs = place_inside name place o found is in
      let k : length structs < 2 ^ 32 = kept.few in omega (arith, h, k)

  -- the fields of its line are those of the name
  place_fields : (name : Name) (place : ℕ) (o : Option ℕ) → o ≡ place_of names name → o ≡ Some place →
      fields_of now name ≡ Some (line_at now kept_now.distinct place).fields
  place_fields name place o found is =
      let p = place_named name place o found is in
      subst (λ (n : Name). fields_of now n ≡ Some (line_at now kept_now.distinct place).fields) p.1
      (fields_at now kept_now.distinct place p.0)

  pub fields_found : (name : Name) (place : ℕ) (o : Option ℕ) → o ≡ place_of names name → o ≡ Some place →
      (line : StructDef) → line ≡ get_or structs place line → (fields : List Ty) →
      fields ≡ (get_or structs place line).fields →
      Some fields ≡ fields_of now name
  fields_found name place o found is line at fields its =
      let p = place_named name place o found is in
      let same : line ≡ line_at now kept_now.distinct place =
      at ∙ ap (λ (s : List StructDef). get_or s place line) seen ∙ default_apart now place line no_line p.0 in
      ap Some (its ∙ ap (λ (s : StructDef). s.fields) (sym at ∙ same)) ∙ sym (place_fields name place o found is)

  -- a name without a place has no fields
  pub fields_missing : (name : Name) (o : Option ℕ) → o ≡ place_of names name → o ≡ None → None ≡ fields_of now name
  fields_missing name o found is = elim (found_or_not (fields_of now name)) [
    | inl none ↦ sym none
    | inr some ↦
        absurd (none_among (struct_names now) name
        (ap (λ (ns : List Name). place_of ns name) (sym kept_now.named) ∙ sym found ∙ is)
        (fields_among now name some.0 some.1))
  ]

  pub has_place : (name : Name) (field : ℕ) (o : Option ℕ) → o ≡ place_of names name → o ≡ None →
      HasField now name field → ⊥
  has_place name field o found is (fields, of, inside) =
      let none : None ≡ fields_of now name = fields_missing name o found is in absurd cc

  -- OFFSETS

  abbrev begins : List Ty → List ℕ
  begins fields = capped_offsets (capped_extent (extent_in (struct_names now) extents)) 0 fields

  rows_many : length offsets ≡ length now
  rows_many = ap (λ (rows : List (List ℕ)). length rows) kept_now.begin
      ∙ length-map now (λ (s : StructDef). capped_offsets (capped_extent (extent_in names extents)) 0 s.fields)

  pub row_inside : (name : Name) (place : ℕ) (o : Option ℕ) → o ≡ place_of names name → o ≡ Some place →
      place < length offsets
  row_inside name place o found is =
      let h : place < length now = (place_named name place o found is).0 in omega (arith, h, rows_many)

  row_at : (name : Name) (place : ℕ) (o : Option ℕ) → o ≡ place_of names name → o ≡ Some place → (fields : List Ty) →
      fields_of now name ≡ Some fields → get_or offsets place [] ≡ begins fields
  row_at name place o found is fields of =
      let p = place_named name place o found is in
      let its : fields_of now name ≡ Some (line_at now kept_now.distinct place).fields =
      place_fields name place o found is in
      let same : (line_at now kept_now.distinct place).fields ≡ fields = cc in
      ap (λ (rows : List (List ℕ)). get_or rows place []) kept_now.begin
      ∙ get_or-map (λ (s : StructDef). capped_offsets (capped_extent (extent_in names extents)) 0 s.fields) now place
      no_line [] p.0
      ∙ ap (λ (ns : List Name). capped_offsets (capped_extent (extent_in ns extents)) 0
      (line_at now kept_now.distinct place).fields) kept_now.named
      ∙ ap begins same

  offsets_many : (x : Ty → CappedExtent) (at : ℕ) (fields : List Ty) →
      length (capped_offsets x at fields) ≡ length fields
  offsets_many x at [] = refl
  offsets_many x at (t ∷ ts) = ap suc (offsets_many x (behind at (x t)) ts)

  pub field_inside : (name : Name) (field place : ℕ) (o : Option ℕ) → o ≡ place_of names name → o ≡ Some place →
      HasField now name field → (row : List ℕ) → get_or offsets place [] ≡ row → field < length row
  field_inside name field place o found is (fields, of, inside) row at =
      let same : row ≡ begins fields = sym at ∙ row_at name place o found is fields of in
      let many : length (begins fields) ≡ length fields =
      offsets_many (capped_extent (extent_in (struct_names now) extents)) 0 fields in
      let l : length row ≡ length fields = ap (λ (ns : List ℕ). length ns) same ∙ many in
      omega (arith, l, inside)

  -- the offset of a field of a struct that fits
  pub offset_exact : (name : Name) (field place : ℕ) (o : Option ℕ) → o ≡ place_of names name → o ≡ Some place →
      HasField now name field → Fits now (Struct name) → (row : List ℕ) → get_or offsets place [] ≡ row →
      (r : ℕ) → r ≡ get_or row field r → (offset : ℕ) → HasOffset now name field offset → r ≡ offset
  offset_exact name field place o found is (fields, of, inside) (e, has, none) row at r read offset begin =
      let same : row ≡ begins fields = sym at ∙ row_at name place o found is fields of in
      let within : field < length row = field_inside name field place o found is (fields, of, inside) row at in
      let most : offset ≤ e.size = offset_within now extents kept_now.right name fields field offset e of has begin in
      let size : e.size ≤ 2 ^ 31 = small now (Struct name) e has none in
      read ∙ default_any row field r 0 within ∙ ap (λ (ns : List ℕ). get_or ns field 0) same
      ∙ right_offset now extents kept_now.right name fields field offset of begin
      ∙ uncapped offset (omega (arith, most, size))
    where
      default_any : (xs : List ℕ) (i d e : ℕ) → i < length xs → get_or xs i d ≡ get_or xs i e
      default_any [] i d e inside = absurd (omega (arith, inside))
      default_any (x ∷ xs) zero d e inside = refl
      default_any (x ∷ xs) (suc i) d e inside = default_any xs i d e (omega (arith, inside))

-- the items of a row in a list of rows
pub items_at : {X : Type 0} (f : X → List ℕ) (rows : List X) (i : ℕ) (row : X) → i < length (map f rows) →
    row ≡ get_or rows i row → get_or (map f rows) i [] ≡ f row
items_at f rows i row inside is =
    get_or-map f rows i row []
    (let l : length (map f rows) ≡ length rows = length-map rows f in omega (arith, inside, l)) ∙ ap f (sym is)
