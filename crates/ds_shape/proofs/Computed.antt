-- Extents and offsets at any depth are those that the number of struct lines shows.
use Rattle.std.proofs.Common.{◌≡◌, ◌+◌, ◌<◌, ◌++◌, ◌⊎◌, ℕ, zero, suc, Bool, true, false, max, List, [], ◌∷◌, Option, Some, None, refl, subst, inl, inr, cond, arith}
use Rattle.std.specs.Prelude.{flat_map, length, option_map, option_and_then}
use Rattle.ds_ast.specs.declared.name.Name.{Name}
use Rattle.ds_ast.specs.declared.ty.Ty.{Ty, Void, One, Struct, Array', more_of-Ty, end_of-Ty}
use Rattle.ds_ast.specs.declared.module.StructDef.{StructDef}
use Rattle.ds_ast.specs.Bounds.{is_name, fields_of}
use Rattle.ds_names.specs.Names.{Among}
use Rattle.ds_shape.specs.Sizes.{Extent, times, rounded, extent_by, fields_extent, struct_extent, extent_of, offset_of, field_offset, HasExtent, HasOffset}
use Rattle.ds_shape.specs.Written.{struct_in, struct_names, Holds, HoldsThrough, IsRecursive}
use Rattle.ds_shape.specs.Laws.{ExtentsAreComputed, OffsetsAreComputed}
use Rattle.ds_shape.proofs.Deeper.{keep_offset, unique_extents}
use Rattle.ds_shape.proofs.Exist.{names_decide, found_or_not, missing_type, none_missing}

-- WHAT AN EXTENT SHOWS

pub map_some : {A B : Type 0} (f : A → B) (o : Option A) (y : B) → option_map f o ≡ Some y → (x : A) × (o ≡ Some x)
map_some f None y is = absurd cc
map_some f (Some x) y is = (x, refl)

pub then_some : {A B : Type 0} (f : A → Option B) (o : Option A) (y : B) → option_and_then f o ≡ Some y → (x : A) ×
    (o ≡ Some x) × (f x ≡ Some y)
then_some f None y is = absurd cc
then_some f (Some x) y is = (x, refl, is)

-- each struct inside a type that has an extent has one
inside_type : (g : Name → Option Extent) (t : Ty) (e : Extent) (n : Name) → extent_by g t ≡ Some e →
    Among n (struct_in t) → (x : Extent) × (g n ≡ Some x)
inside_type g Void e n is a = absurd a
inside_type g (One s) e n is a = absurd a
inside_type g (Array' count _ (more_of-Ty of end_of-Ty)) e n is a = let x = map_some (times count) (extent_by g of) e
    is in inside_type g of x.0 n x.1 a
inside_type g (Struct name) e n is (inl same) = (e, subst (λ (m : Name). g m ≡ Some e) same is)
inside_type g (Struct name) e n is (inr a) = absurd a

split_among : (n : Name) (xs ys : List Name) → Among n (xs ++ ys) → Among n xs ⊎ Among n ys
split_among n [] ys a = inr a
split_among n (x ∷ xs) ys (inl e) = inl (inl e)
split_among n (x ∷ xs) ys (inr a) = elim (split_among n xs ys a) [ inl b ↦ inl (inr b) | inr b ↦ inr b ]

inside_fields : (g : Name → Option Extent) (at align : ℕ) (fields : List Ty) (e : Extent) (n : Name) →
    fields_extent (extent_by g) at align fields ≡ Some e → Among n (flat_map struct_in fields) →
    (x : Extent) × (g n ≡ Some x)
inside_fields g at align [] e n is a = absurd a
inside_fields g at align (t ∷ ts) e n is a =
    let x = then_some (λ (y : Extent). fields_extent (extent_by g) (rounded at y.align + y.size) (max align y.align)
    ts) (extent_by g t) e is in
    elim (split_among n (struct_in t) (flat_map struct_in ts) a) [
      | inl here ↦ inside_type g t x.0 n x.1 here
      | inr rest ↦ inside_fields g (rounded at x.0.align + x.0.size) (max align x.0.align) ts e n x.2 rest
    ]

-- STRUCTS THAT HAVE AN EXTENT

module _ (structs : List StructDef) where
  -- the struct has an extent at the depth
  abbrev At : ℕ → Name → Type 0
  At d name = (e : Extent) × (struct_extent structs d name ≡ Some e)

  -- what it holds has one at a smaller depth
  held_below : (d : ℕ) (name held : Name) → At d name → Holds structs name held → (c : ℕ) × (c < d) × At c held
  held_below zero name held (e, is) holds = absurd cc
  held_below (suc d) name held (e, is) (fields, of, a) =
      let rest : fields_extent (extent_by (struct_extent structs d)) 0 1 fields ≡ Some e =
      subst (λ (o : Option (List Ty)). option_and_then (fields_extent (extent_by (struct_extent structs d)) 0 1) o ≡
      Some e) of is in
      (d, omega arith, inside_fields (struct_extent structs d) 0 1 fields e held rest a)

  through_below : (names : List Name) (d : ℕ) (name last : Name) → At d name → HoldsThrough structs name names last →
      (c : ℕ) × (c < d) × At c last
  through_below [] d name last has holds = held_below d name last has holds
  through_below (n ∷ names) d name last has (first, rest) =
      let x = held_below d name n has first in
      let y = through_below names x.0 n last x.2 rest in
      let h : x.0 < d = x.1 in
      let k : y.0 < x.0 = y.1 in
      (y.0, omega (arith, h, k), y.2)

  -- so none of them holds itself
  never_recursive : (bound d : ℕ) (name : Name) → d < bound → At d name → IsRecursive structs name → ⊥
  never_recursive zero d name h has r = absurd (omega (arith, h))
  never_recursive (suc bound) d name h has (names, holds) =
      let x = through_below names d name name has holds in
      let k : x.0 < d = x.1 in
      never_recursive bound x.0 name (omega (arith, h, k)) x.2 (names, holds)

  abbrev HasSome : Name → Type 0
  HasSome name = (d : ℕ) × At d name

  lined_by : (line : StructDef) (lines : List StructDef) (name : Name) (fields : List Ty) (b : Bool) →
      (b ≡ true → line.name ≡ name) → (fields_of lines name ≡ Some fields → Among name (struct_names lines)) →
      cond b (Some line.fields) (fields_of lines name) ≡ Some fields → Among name (struct_names (line ∷ lines))
  lined_by line lines name fields true same rest is = inl (same refl)
  lined_by line lines name fields false same rest is = inr (rest is)

  lined : (lines : List StructDef) (name : Name) (fields : List Ty) → fields_of lines name ≡ Some fields →
      Among name (struct_names lines)
  lined [] name fields is = absurd cc
  lined (line ∷ lines) name fields is = lined_by line lines name fields (is_name line.name name)
      (names_decide line.name name).0 (lined lines name fields) is

  has_line : (name : Name) → HasSome name → Among name (struct_names structs)
  has_line name (zero, (e, is)) = absurd cc
  has_line name (suc d, (e, is)) =
      let x = then_some (fields_extent (extent_by (struct_extent structs d)) 0 1) (fields_of structs name) e is in
      lined structs name x.0 x.1

  pub never_missing : (name : Name) → HasSome name → struct_extent structs (length structs) name ≡ None → ⊥
  never_missing = none_missing structs HasSome has_line
      (λ name held has holds. let x = held_below has.0 name held has.1 holds in (x.0, x.2))
      (λ name has. never_recursive (suc has.0) has.0 name (omega arith) has.1)

-- THE LAWS

pub computed_extent : (structs : List StructDef) (t : Ty) (e : Extent) → HasExtent structs t e → extent_of structs t ≡
    Some e
computed_extent structs t e (d, is) = elim (found_or_not (extent_of structs t)) [
  | inl lacks ↦
      let x = missing_type (struct_extent structs (length structs)) t lacks in
      let y = inside_type (struct_extent structs d) t e x.0 is x.1 in
      absurd (never_missing structs x.0 (d, y) x.2)
  | inr found ↦
      let same : found.0 ≡ e = unique_extents structs t found.0 e (length structs, found.1) (d, is) in
      subst (λ (x : Extent). extent_of structs t ≡ Some x) same found.1
]

pub computed_extents : ExtentsAreComputed
computed_extents structs t e = (computed_extent structs t e, λ is. (length structs, is))

computed_offset : (structs : List StructDef) (name : Name) (n a : ℕ) → HasOffset structs name n a →
    offset_of structs name n ≡ Some a
computed_offset structs name n a (d, is) =
    let x = then_some (field_offset (extent_by (struct_extent structs d)) 0 n) (fields_of structs name) a is in
    rw x.1 (keep_offset (extent_by (struct_extent structs d)) (extent_of structs)
    (λ t e has. computed_extent structs t e (d, has)) 0 n x.0 a x.2)

pub computed_offsets : OffsetsAreComputed
computed_offsets structs name n a = (computed_offset structs name n a, λ is. (length structs, is))
