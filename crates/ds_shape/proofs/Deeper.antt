-- A deeper look into structs finds the same extents and offsets.
use Rattle.std.proofs.Common.{◌≡◌, ◌+◌, ℕ, zero, suc, max, List, [], ◌∷◌, Option, Some, None, refl, arith}
use Rattle.std.specs.Prelude.{option_map, option_and_then}
use Rattle.ds_ast.specs.declared.name.Name.{Name}
use Rattle.ds_ast.specs.declared.ty.Ty.{Ty, Void, One, Struct, Array', more_of-Ty, end_of-Ty}
use Rattle.ds_ast.specs.declared.module.StructDef.{StructDef}
use Rattle.ds_ast.specs.Bounds.{fields_of}
use Rattle.ds_shape.specs.Sizes.{Extent, times, rounded, extent_by, fields_extent, field_offset, struct_extent}
use Rattle.ds_shape.specs.Laws.{ExtentsAreUnique, OffsetsAreUnique}

-- what the one gives the other gives too
abbrev pub Keeps : {A B : Type 0} → (A → Option B) → (A → Option B) → Type 0
Keeps {A} {B} g h = (x : A) (y : B) → g x ≡ Some y → h x ≡ Some y

keep_map : {A B : Type 0} (f : A → B) (o p : Option A) (y : B) → ((x : A) → o ≡ Some x → p ≡ Some x) →
    option_map f o ≡ Some y → option_map f p ≡ Some y
keep_map f None p y keeps is = cc
keep_map f (Some x) p y keeps is = rw (keeps x refl) is

keep_then : {A B : Type 0} (f g : A → Option B) (o p : Option A) (y : B) → ((x : A) → o ≡ Some x → p ≡ Some x) →
    Keeps f g →
    option_and_then f o ≡ Some y → option_and_then g p ≡ Some y
keep_then f g None p y keeps on is = cc
keep_then f g (Some x) p y keeps on is = rw (keeps x refl) (on x y is)

keep_extent : (g h : Name → Option Extent) → Keeps g h → Keeps (extent_by g) (extent_by h)
keep_extent g h k Void e is = is
keep_extent g h k (One s) e is = is
keep_extent g h k (Array' count _ (more_of-Ty of end_of-Ty)) e is =
    keep_map (times count) (extent_by g of) (extent_by h of) e (keep_extent g h k of) is
keep_extent g h k (Struct name) e is = k name e is

keep_fields : (g h : Ty → Option Extent) → Keeps g h → (at align : ℕ) →
    Keeps (fields_extent g at align) (fields_extent h at align)
keep_fields g h k at align [] e is = is
keep_fields g h k at align (t ∷ ts) e is = keep_then
    (λ x. fields_extent g (rounded at x.align + x.size) (max align x.align) ts)
    (λ x. fields_extent h (rounded at x.align + x.size) (max align x.align) ts)
    (g t) (h t) e (k t) (λ x. keep_fields g h k (rounded at x.align + x.size) (max align x.align) ts) is

pub keep_offset : (g h : Ty → Option Extent) → Keeps g h → (at n : ℕ) →
    Keeps (field_offset g at n) (field_offset h at n)
keep_offset g h k at n [] a is = is
keep_offset g h k at zero (t ∷ ts) a is =
    keep_then (λ x. Some (rounded at x.align)) (λ x. Some (rounded at x.align)) (g t) (h t) a (k t) (λ x y e. e) is
keep_offset g h k at (suc n) (t ∷ ts) a is = keep_then
    (λ x. field_offset g (rounded at x.align + x.size) n ts)
    (λ x. field_offset h (rounded at x.align + x.size) n ts)
    (g t) (h t) a (k t) (λ x. keep_offset g h k (rounded at x.align + x.size) n ts) is

-- one struct deeper
keep_struct : (structs : List StructDef) (d : ℕ) → Keeps (struct_extent structs d) (struct_extent structs (suc d))
keep_struct structs zero name e is = cc
keep_struct structs (suc d) name e is = keep_then
    (fields_extent (extent_by (struct_extent structs d)) 0 1)
    (fields_extent (extent_by (struct_extent structs (suc d))) 0 1)
    (fields_of structs name) (fields_of structs name) e (λ fields same. same)
    (keep_fields (extent_by (struct_extent structs d)) (extent_by (struct_extent structs (suc d)))
    (keep_extent (struct_extent structs d) (struct_extent structs (suc d)) (keep_struct structs d)) 0 1) is

-- any number of structs deeper
pub deeper : (structs : List StructDef) (k d : ℕ) → Keeps (struct_extent structs d) (struct_extent structs (k + d))
deeper structs zero d name e is = let h : 0 + d ≡ d = omega arith in rw h is
deeper structs (suc k) d name e is =
    let h : suc k + d ≡ suc (k + d) = omega arith in
    rw h (keep_struct structs (k + d) name e (deeper structs k d name e is))

pub deeper_extent : (structs : List StructDef) (k d : ℕ) →
    Keeps (extent_by (struct_extent structs d)) (extent_by (struct_extent structs (k + d)))
deeper_extent structs k d = keep_extent (struct_extent structs d) (struct_extent structs (k + d)) (deeper structs k d)

pub unique_extents : ExtentsAreUnique
unique_extents structs t e f (d, p) (c, q) =
    let same : c + d ≡ d + c = omega arith in
    let found : extent_by (struct_extent structs (c + d)) t ≡ Some e = deeper_extent structs c d t e p in
    let other : extent_by (struct_extent structs (d + c)) t ≡ Some f = deeper_extent structs d c t f q in
    cc

-- the offset of a field of these, at a depth
abbrev pub offset_at : List StructDef → Name → ℕ → ℕ → Option ℕ
offset_at structs name n d =
    option_and_then (field_offset (extent_by (struct_extent structs d)) 0 n) (fields_of structs name)

pub deeper_offset : (structs : List StructDef) (name : Name) (n k d a : ℕ) → offset_at structs name n d ≡ Some a →
    offset_at structs name n (k + d) ≡ Some a
deeper_offset structs name n k d a is = keep_then
    (field_offset (extent_by (struct_extent structs d)) 0 n)
    (field_offset (extent_by (struct_extent structs (k + d))) 0 n)
    (fields_of structs name) (fields_of structs name) a (λ fields same. same)
    (keep_offset (extent_by (struct_extent structs d)) (extent_by (struct_extent structs (k + d)))
    (deeper_extent structs k d) 0 n) is

pub unique_offsets : OffsetsAreUnique
unique_offsets structs name n a b (d, p) (c, q) =
    let same : c + d ≡ d + c = omega arith in
    let found : offset_at structs name n (c + d) ≡ Some a = deeper_offset structs name n c d a p in
    let other : offset_at structs name n (d + c) ≡ Some b = deeper_offset structs name n d c b q in
    cc
