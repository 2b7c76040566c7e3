-- What is kept of extents and offsets is what is kept of the exact ones.
use Rattle.std.proofs.Common.{◌≡◌, ◌+◌, ◌*◌, ◌^◌, ◌<◌, ◌≤◌, ◌⊎◌, ℕ, zero, suc, max, List, [], ◌∷◌, Option, Some, None, refl, sym, ap, ◌∙◌, subst, inl, inr, get_or, arith}
use Rattle.std.specs.Prelude.{flat_map, option_map, option_and_then}
use Rattle.ds_ast.specs.declared.name.Name.{Name}
use Rattle.ds_ast.specs.declared.ty.Scalar.TheVariants.{I1, I8, I16, I32, I64, Ptr}
use Rattle.ds_ast.specs.declared.ty.Ty.{Ty, Void, One, Struct, Array', more_of-Ty, end_of-Ty}
use Rattle.ds_ast.specs.declared.module.StructDef.{StructDef}
use Rattle.ds_ast.specs.Bounds.{fields_of}
use Rattle.ds_names.specs.Names.{Among}
use Rattle.ds_shape.specs.Sizes.{Extent, times, rounded, scalar_size, extent_by, fields_extent, field_offset, struct_extent, HasExtent, HasOffset}
use Rattle.ds_shape.specs.Written.{struct_in, struct_names}
use Rattle.ds_shape.specs.Capped.{capped, cap, empty, capped_extent, start_at, behind, capped_fields, capped_offsets, extent_in, IsRight, AreRight}
use Rattle.ds_shape.specs.declared.extents.CappedExtent.{CappedExtent}
use Rattle.ds_shape.proofs.Exist.{found_or_not, among_left, among_right}
use Rattle.ds_shape.proofs.Deeper.{deeper, deeper_offset}

-- NUMBERS

below_or_not : (n m : ℕ) → (n ≤ m) ⊎ (m < n)
below_or_not n m = grind arith

pub rounded_least : (n k : ℕ) → 1 ≤ k → n ≤ rounded n k
rounded_least n k h = omega arith

capped_sum : (a b : ℕ) → capped (capped a + capped b) ≡ capped (a + b)
capped_sum a b = omega arith

capped_rounded : (n k : ℕ) → 1 ≤ k → capped (rounded (capped n) k) ≡ capped (rounded n k)
capped_rounded n k h = elim (below_or_not n (2 ^ 31 + 1)) [
  | inl small ↦ let same : capped n ≡ n = omega (arith, small) in rw same
  | inr large ↦
      let same : capped n ≡ 2 ^ 31 + 1 = omega (arith, large) in
      let some : 2 ^ 31 + 1 ≤ rounded (2 ^ 31 + 1) k = rounded_least (2 ^ 31 + 1) k h in
      let more : n ≤ rounded n k = rounded_least n k h in
      rw same (omega (arith, some, more, large))
]

times_more : (n a : ℕ) → 1 ≤ n → a ≤ n * a
times_more zero a h = absurd (omega (arith, h))
times_more (suc n) a h = let e : suc n * a ≡ n * a + a = omega arith in omega (arith, e)

capped_times : (n a : ℕ) → capped (n * capped a) ≡ capped (n * a)
capped_times zero a =
    let e : 0 * capped a ≡ 0 = omega arith in let f : 0 * a ≡ 0 = omega arith in ap capped (e ∙ sym f)
capped_times (suc n) a = elim (below_or_not a (2 ^ 31 + 1)) [
  | inl small ↦ let same : capped a ≡ a = omega (arith, small) in rw same
  | inr large ↦
      let same : capped a ≡ 2 ^ 31 + 1 = omega (arith, large) in
      let some : 2 ^ 31 + 1 ≤ suc n * (2 ^ 31 + 1) = times_more (suc n) (2 ^ 31 + 1) (omega arith) in
      let more : a ≤ suc n * a = times_more (suc n) a (omega arith) in
      rw same (omega (arith, some, more, large))
]

-- TYPES

-- what is kept is right for this name
abbrev KeepsName : (Name → Option Extent) → (Name → CappedExtent) → Name → Type 0
KeepsName g h name = (e : Extent) → g name ≡ Some e → (h name ≡ cap e) × (1 ≤ e.align)

abbrev KeepsNames : (Name → Option Extent) → (Name → CappedExtent) → List Name → Type 0
KeepsNames g h names = (n : Name) → Among n names → KeepsName g h n

kept_array : (count : ℕ) (o : Option Extent) (k : CappedExtent) →
    ((e : Extent) → o ≡ Some e → (k ≡ cap e) × (1 ≤ e.align)) → (e : Extent) → option_map (times count) o ≡ Some e →
    (record { size = capped (count * k.size); align = k.align } ≡ cap e) × (1 ≤ e.align)
kept_array count None k keeps e is = absurd cc
kept_array count (Some x) k keeps e is =
    let kept = keeps x refl in
    let same : times count x ≡ e = cc in
    subst (λ (y : Extent). (record { size = capped (count * k.size); align = k.align } ≡ cap y) × (1 ≤ y.align)) same (
      ap (λ (c : CappedExtent). record { size = capped (count * c.size); align = c.align }) kept.0
          ∙ ap (λ (n : ℕ). record { size = n; align = x.align }) (capped_times count x.size),
      kept.1,
    )

kept_scalar : (s : _) (e : Extent) → Some (record { size = scalar_size s; align = scalar_size s }) ≡ Some e →
    (record { size = scalar_size s; align = scalar_size s } ≡ cap e) × (1 ≤ e.align)
kept_scalar I1 e is =
    let same : record { size = 1; align = 1 } ≡ e = cc in
    subst (λ (y : Extent). (record { size = 1; align = 1 } ≡ cap y) × (1 ≤ y.align)) same (refl, omega arith)
kept_scalar I8 e is =
    let same : record { size = 1; align = 1 } ≡ e = cc in
    subst (λ (y : Extent). (record { size = 1; align = 1 } ≡ cap y) × (1 ≤ y.align)) same (refl, omega arith)
kept_scalar I16 e is =
    let same : record { size = 2; align = 2 } ≡ e = cc in
    subst (λ (y : Extent). (record { size = 2; align = 2 } ≡ cap y) × (1 ≤ y.align)) same (refl, omega arith)
kept_scalar I32 e is =
    let same : record { size = 4; align = 4 } ≡ e = cc in
    subst (λ (y : Extent). (record { size = 4; align = 4 } ≡ cap y) × (1 ≤ y.align)) same (refl, omega arith)
kept_scalar I64 e is =
    let same : record { size = 8; align = 8 } ≡ e = cc in
    subst (λ (y : Extent). (record { size = 8; align = 8 } ≡ cap y) × (1 ≤ y.align)) same (refl, omega arith)
kept_scalar Ptr e is =
    let same : record { size = 8; align = 8 } ≡ e = cc in
    subst (λ (y : Extent). (record { size = 8; align = 8 } ≡ cap y) × (1 ≤ y.align)) same (refl, omega arith)

kept_type : (g : Name → Option Extent) (h : Name → CappedExtent) (t : Ty) → KeepsNames g h (struct_in t) →
    (e : Extent) → extent_by g t ≡ Some e →
    (capped_extent h t ≡ cap e) × (1 ≤ e.align)
kept_type g h Void keeps e is =
    let same : record { size = 0; align = 1 } ≡ e = cc in
    subst (λ (y : Extent). (empty ≡ cap y) × (1 ≤ y.align)) same (refl, omega arith)
kept_type g h (One s) keeps e is = kept_scalar s e is
kept_type g h (Array' count _ (more_of-Ty of end_of-Ty)) keeps e is =
    kept_array count (extent_by g of) (capped_extent h of) (kept_type g h of keeps) e is
kept_type g h (Struct name) keeps e is = keeps name (inl refl) e is

-- FIELDS

behind_kept : (at : ℕ) (k : CappedExtent) (x : Extent) → k ≡ cap x → 1 ≤ x.align →
    behind (capped at) k ≡ capped (rounded at x.align + x.size)
behind_kept at k x kept some =
    ap (behind (capped at)) kept ∙ ap (λ (n : ℕ). capped (n + capped x.size)) (capped_rounded at x.align some)
    ∙ capped_sum (rounded at x.align) x.size

some_max : (a b : ℕ) → 1 ≤ a → 1 ≤ max a b
some_max a b h = omega arith

kept_fields : (g : Name → Option Extent) (h : Name → CappedExtent) (at align : ℕ) (ts : List Ty) →
    KeepsNames g h (flat_map struct_in ts) → 1 ≤ align → (e : Extent) →
    fields_extent (extent_by g) at align ts ≡ Some e → (capped_fields (capped_extent h) (capped at) align ts ≡ cap e)
    × (1 ≤ e.align)
kept_fields g h at align [] keeps some e is =
    let same : record { size = rounded at align; align = align } ≡ e = cc in
    subst (λ (y : Extent). (record { size = capped (rounded (capped at) align); align = align } ≡ cap y)
    × (1 ≤ y.align)) same
    (ap (λ (n : ℕ). record { size = n; align = align }) (capped_rounded at align some), some)
kept_fields g h at align (t ∷ ts) keeps some e is = elim (found_or_not (extent_by g t)) [
  | inl lacks ↦
      let none : None ≡ Some e =
      subst (λ (o : Option Extent). option_and_then
      (λ (y : Extent). fields_extent (extent_by g) (rounded at y.align + y.size) (max align y.align) ts) o ≡ Some
      e) lacks is in
      absurd cc
  | inr found ↦
      let x = found.0 in
      let rest : fields_extent (extent_by g) (rounded at x.align + x.size) (max align x.align) ts ≡ Some e =
      subst (λ (o : Option Extent). option_and_then
      (λ (y : Extent). fields_extent (extent_by g) (rounded at y.align + y.size) (max align y.align) ts) o ≡ Some
      e) found.1 is in
      let kept = kept_type g h t (λ n a. keeps n (among_left n (struct_in t) (flat_map struct_in ts) a)) x found.1 in
      let more = kept_fields g h (rounded at x.align + x.size) (max align x.align) ts
      (λ n a. keeps n (among_right n (struct_in t) (flat_map struct_in ts) a)) (some_max align x.align some) e
      rest in (
        ap (λ (n : ℕ). capped_fields (capped_extent h) n (max align (capped_extent h t).align) ts)
            (behind_kept at (capped_extent h t) x kept.0 kept.1)
            ∙ ap (λ (c : CappedExtent). capped_fields (capped_extent h) (capped (rounded at x.align + x.size))
            (max align c.align) ts) kept.0 ∙ more.0,
        more.1,
      )
]

kept_offset : (g : Name → Option Extent) (h : Name → CappedExtent) (at n : ℕ) (ts : List Ty) →
    KeepsNames g h (flat_map struct_in ts) → (o : ℕ) →
    field_offset (extent_by g) at n ts ≡ Some o →
    get_or (capped_offsets (capped_extent h) (capped at) ts) n 0 ≡ capped o
kept_offset g h at n [] keeps o is = absurd cc
kept_offset g h at zero (t ∷ ts) keeps o is = elim (found_or_not (extent_by g t)) [
  | inl lacks ↦
      let none : None ≡ Some o =
      subst (λ (y : Option Extent). option_and_then (λ (y : Extent). Some (rounded at y.align)) y ≡ Some o) lacks
      is in
      absurd cc
  | inr found ↦
      let x = found.0 in
      let rest : Some (rounded at x.align) ≡ Some o =
      subst (λ (y : Option Extent). option_and_then (λ (y : Extent). Some (rounded at y.align)) y ≡ Some o) found.1
      is in
      let kept = kept_type g h t (λ n a. keeps n (among_left n (struct_in t) (flat_map struct_in ts) a)) x found.1 in
      let same : rounded at x.align ≡ o = cc in
      ap (start_at (capped at)) kept.0 ∙ capped_rounded at x.align kept.1 ∙ ap capped same
]
kept_offset g h at (suc n) (t ∷ ts) keeps o is = elim (found_or_not (extent_by g t)) [
  | inl lacks ↦
      let none : None ≡ Some o =
      subst (λ (y : Option Extent). option_and_then
      (λ (y : Extent). field_offset (extent_by g) (rounded at y.align + y.size) n ts) y ≡ Some o) lacks is in
      absurd cc
  | inr found ↦
      let x = found.0 in
      let rest : field_offset (extent_by g) (rounded at x.align + x.size) n ts ≡ Some o =
      subst (λ (y : Option Extent). option_and_then
      (λ (y : Extent). field_offset (extent_by g) (rounded at y.align + y.size) n ts) y ≡ Some o) found.1 is in
      let kept = kept_type g h t (λ n a. keeps n (among_left n (struct_in t) (flat_map struct_in ts) a)) x found.1 in
      ap (λ (m : ℕ). get_or (capped_offsets (capped_extent h) m ts) n 0)
      (behind_kept at (capped_extent h t) x kept.0 kept.1)
      ∙ kept_offset g h (rounded at x.align + x.size) n ts
      (λ n a. keeps n (among_right n (struct_in t) (flat_map struct_in ts) a)) o rest
]

-- STRUCTS

module _ (structs : List StructDef) (extents : List CappedExtent) where
  abbrev pub kept_of : Name → CappedExtent
  kept_of = extent_in (struct_names structs) extents

  right_at : (d : ℕ) (name : Name) → IsRight structs extents name → KeepsName (struct_extent structs d) kept_of name
  right_at d name right e is = right e (d, is)

  -- what is counted from the fields of a struct, of whose structs all is right, is right for it
  pub right_fields : (name : Name) (fields : List Ty) → fields_of structs name ≡ Some fields →
      ((n : Name) → Among n (flat_map struct_in fields) → IsRight structs extents n) → (e : Extent) →
      HasExtent structs (Struct name) e → (capped_fields (capped_extent kept_of) 0 1 fields ≡ cap e) × (1 ≤ e.align)
  right_fields name fields of right e (zero, is) = absurd cc
  right_fields name fields of right e (suc d, is) =
      let rest : fields_extent (extent_by (struct_extent structs d)) 0 1 fields ≡ Some e =
      subst (λ (o : Option (List Ty)). option_and_then (fields_extent (extent_by (struct_extent structs d)) 0 1) o ≡
      Some e) of is in
      kept_fields (struct_extent structs d) kept_of 0 1 fields (λ n a. right_at d n (right n a)) (omega arith) e rest

  -- where it is right for each struct, it is for each type
  pub right_types : AreRight structs extents → (t : Ty) (e : Extent) → HasExtent structs t e →
      capped_extent kept_of t ≡ cap e
  right_types right t e (d, is) =
      (kept_type (struct_extent structs d) kept_of t (λ n a. right_at d n (right n)) e is).0

  -- and for each field
  pub right_offset : AreRight structs extents → (name : Name) (fields : List Ty) (n o : ℕ) →
      fields_of structs name ≡ Some fields → HasOffset structs name n o →
      get_or (capped_offsets (capped_extent kept_of) 0 fields) n 0 ≡ capped o
  right_offset right name fields n o of (d, is) =
      let rest : field_offset (extent_by (struct_extent structs d)) 0 n fields ≡ Some o =
      subst (λ (x : Option (List Ty)). option_and_then (field_offset (extent_by (struct_extent structs d)) 0 n) x ≡
      Some o) of is in
      kept_offset (struct_extent structs d) kept_of 0 n fields (λ n a. right_at d n (right n)) o rest

-- A FIELD BEGINS WITHIN ITS STRUCT

some_align : (structs : List StructDef) (extents : List CappedExtent) → AreRight structs extents →
    (d : ℕ) (t : Ty) (e : Extent) → extent_by (struct_extent structs d) t ≡ Some e → 1 ≤ e.align
some_align structs extents right d t e is =
    (kept_type (struct_extent structs d) (extent_in (struct_names structs) extents) t (λ n a x y. right n x (d, y)) e
    is).1

-- what stands before fields is within their struct
before_end : (f : Ty → Option Extent) → ((t : Ty) (e : Extent) → f t ≡ Some e → 1 ≤ e.align) →
    (at align : ℕ) (ts : List Ty) → 1 ≤ align → (e : Extent) → fields_extent f at align ts ≡ Some e → at ≤ e.size
before_end f some at align [] h e is =
    let same : record { size = rounded at align; align = align } ≡ e = cc in
    subst (λ (y : Extent). at ≤ y.size) same (rounded_least at align h)
before_end f some at align (t ∷ ts) h e is = elim (found_or_not (f t)) [
  | inl lacks ↦
      let none : None ≡ Some e =
      subst (λ (o : Option Extent). option_and_then
      (λ (y : Extent). fields_extent f (rounded at y.align + y.size) (max align y.align) ts) o ≡ Some e) lacks is
      in
      absurd cc
  | inr found ↦
      let x = found.0 in
      let rest : fields_extent f (rounded at x.align + x.size) (max align x.align) ts ≡ Some e =
      subst (λ (o : Option Extent). option_and_then
      (λ (y : Extent). fields_extent f (rounded at y.align + y.size) (max align y.align) ts) o ≡ Some e) found.1 is
      in
      let more : rounded at x.align + x.size ≤ e.size =
      before_end f some (rounded at x.align + x.size) (max align x.align) ts (some_max align x.align h) e rest in
      let least : at ≤ rounded at x.align = rounded_least at x.align (some t x found.1) in
      omega (arith, more, least)
]

offset_before_end : (f : Ty → Option Extent) → ((t : Ty) (e : Extent) → f t ≡ Some e → 1 ≤ e.align) →
    (at align n : ℕ) (ts : List Ty) → 1 ≤ align → (e : Extent) (o : ℕ) →
    fields_extent f at align ts ≡ Some e → field_offset f at n ts ≡ Some o → o ≤ e.size
offset_before_end f some at align n [] h e o is off = absurd cc
offset_before_end f some at align zero (t ∷ ts) h e o is off = elim (found_or_not (f t)) [
  | inl lacks ↦
      let none : None ≡ Some o =
      subst (λ (y : Option Extent). option_and_then (λ (y : Extent). Some (rounded at y.align)) y ≡ Some o) lacks
      off in
      absurd cc
  | inr found ↦
      let x = found.0 in
      let rest : fields_extent f (rounded at x.align + x.size) (max align x.align) ts ≡ Some e =
      subst (λ (y : Option Extent). option_and_then
      (λ (y : Extent). fields_extent f (rounded at y.align + y.size) (max align y.align) ts) y ≡ Some e) found.1 is
      in
      let begins : Some (rounded at x.align) ≡ Some o =
      subst (λ (y : Option Extent). option_and_then (λ (y : Extent). Some (rounded at y.align)) y ≡ Some o) found.1
      off in
      let same : rounded at x.align ≡ o = cc in
      let more : rounded at x.align + x.size ≤ e.size =
      before_end f some (rounded at x.align + x.size) (max align x.align) ts (some_max align x.align h) e rest in
      omega (arith, more, same)
]
offset_before_end f some at align (suc n) (t ∷ ts) h e o is off = elim (found_or_not (f t)) [
  | inl lacks ↦
      let none : None ≡ Some o =
      subst (λ (y : Option Extent). option_and_then
      (λ (y : Extent). field_offset f (rounded at y.align + y.size) n ts) y ≡ Some o) lacks off in
      absurd cc
  | inr found ↦
      let x = found.0 in
      let rest : fields_extent f (rounded at x.align + x.size) (max align x.align) ts ≡ Some e =
      subst (λ (y : Option Extent). option_and_then
      (λ (y : Extent). fields_extent f (rounded at y.align + y.size) (max align y.align) ts) y ≡ Some e) found.1 is
      in
      let begins : field_offset f (rounded at x.align + x.size) n ts ≡ Some o =
      subst (λ (y : Option Extent). option_and_then (λ (y : Extent). field_offset f (rounded at y.align + y.size) n ts)
      y ≡ Some o) found.1 off in
      offset_before_end f some (rounded at x.align + x.size) (max align x.align) n ts (some_max align x.align h) e o
      rest begins
]

offset_within_at : (structs : List StructDef) (extents : List CappedExtent) → AreRight structs extents →
    (name : Name) (fields : List Ty) (n o : ℕ) (e : Extent) → fields_of structs name ≡ Some fields →
    (d : ℕ) → struct_extent structs (suc d) name ≡ Some e →
    option_and_then (field_offset (extent_by (struct_extent structs d)) 0 n) (fields_of structs name) ≡ Some o →
    o ≤ e.size
offset_within_at structs extents right name fields n o e of d is off =
    let rest : fields_extent (extent_by (struct_extent structs d)) 0 1 fields ≡ Some e =
    subst (λ (x : Option (List Ty)). option_and_then (fields_extent (extent_by (struct_extent structs d)) 0 1) x ≡ Some
    e) of is in
    let begins : field_offset (extent_by (struct_extent structs d)) 0 n fields ≡ Some o =
    subst (λ (x : Option (List Ty)). option_and_then (field_offset (extent_by (struct_extent structs d)) 0 n) x ≡ Some
    o) of off in
    offset_before_end (extent_by (struct_extent structs d)) (some_align structs extents right d) 0 1 n fields
    (omega arith) e o rest begins

-- a field of a struct begins within it
pub offset_within : (structs : List StructDef) (extents : List CappedExtent) → AreRight structs extents →
    (name : Name) (fields : List Ty) (n o : ℕ) (e : Extent) → fields_of structs name ≡ Some fields →
    HasExtent structs (Struct name) e → HasOffset structs name n o → o ≤ e.size
offset_within structs extents right name fields n o e of (d, is) (c, off) =
    let deep : suc (d + c) ≡ suc c + d = omega arith in
    let same : d + c ≡ d + c = refl in
    let found : struct_extent structs (suc c + d) name ≡ Some e = deeper structs (suc c) d name e is in
    let begins = deeper_offset structs name n d c o off in
    offset_within_at structs extents right name fields n o e of (d + c)
    (ap (λ (k : ℕ). struct_extent structs k name) deep ∙ found) begins
