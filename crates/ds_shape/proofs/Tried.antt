-- The definitions of sizes and of the faults of a layout, tried on small types.
use Rattle.std.proofs.Common.{◌≡◌, ◌+◌, ◌<◌, ◌^◌, ℕ, zero, suc, List, [], ◌∷◌, Some, refl, sym, subst, inl, inr, lit<, arith}
use Rattle.ds_ast.specs.declared.name.Name.{Name}
use Rattle.ds_ast.specs.declared.name.Name.TheVariants.{Number}
use Rattle.ds_ast.specs.declared.ty.Scalar.TheVariants.{I1, I8, I16, I32, I64, Ptr}
use Rattle.ds_ast.specs.declared.ty.Ty.{Ty}
use Rattle.ds_ast.specs.declared.ty.Ty as ty
use Rattle.ds_ast.specs.declared.module.Module.{Module}
use Rattle.ds_ast.specs.declared.module.StructDef.{StructDef}
use Rattle.ds_ast.specs.declared.module.GlobalDef.{GlobalDef}
use Rattle.ds_ast.specs.declared.ty.Ty.TheBlock.{hidden-the_row-Ty-0}
use denote.Hole.Carrier.{hidden}
use Rattle.ds_ast.specs.declared.init.Init as init
use Rattle.ds_shape.specs.Sizes.{Extent, HasExtent, HasOffset, extent_by, fields_extent, rounded, struct_extent}
use Rattle.ds_names.specs.Names.{Among, IsFirstTwice}
use Rattle.ds_shape.specs.Written.{IsUnknown, Holds, HoldsThrough, IsRecursive, IsTooLarge, WritesTooLarge, AnyTooLarge, struct_in, struct_names, written_names}
use Rattle.ds_shape.proofs.Deeper.{unique_extents, unique_offsets}
use Rattle.std.specs.Prelude.{flat_map, max}
use Rattle.std.proofs.lemmas.Option.{option_and_then_some}

-- SIZES

abbrev pub line : ℕ → List Ty → StructDef
line n fields = record { name = Number n; fields = fields }

abbrev pub named : ℕ → Ty
named n = ty.Struct (Number n)

abbrev pub extent : ℕ → ℕ → Extent
extent size align = record { size = size; align = align }

-- %0 = { i8, i32 }, %1 = { i32, i8 }, %2 = { }, %3 = { i8, i16 }, %4 = { %1, ptr, [2 x %3] }, %5 = { i8, %4, i1 }, %6
-- = { i8, %2, void, [0 x i64], i1 }
abbrev pub table : List StructDef
table =
    line 0 (ty.One I8 ∷ ty.One I32 ∷ [])
    ∷ line 1 (ty.One I32 ∷ ty.One I8 ∷ [])
    ∷ line 2 []
    ∷ line 3 (ty.One I8 ∷ ty.One I16 ∷ [])
    ∷ line 4 (named 1 ∷ ty.One Ptr ∷ ty.Array 2 (named 3) ∷ [])
    ∷ line 5 (ty.One I8 ∷ named 4 ∷ ty.One I1 ∷ [])
    ∷ line 6 (ty.One I8 ∷ named 2 ∷ ty.Void ∷ ty.Array 0 (ty.One I64) ∷ ty.One I1 ∷ [])
    ∷ []

padded_front : HasExtent table (named 0) (extent 8 4)
padded_front = (1, refl)

padded_end : HasExtent table (named 1) (extent 8 4)
padded_end = (1, refl)

empty_struct : HasExtent table (named 2) (extent 0 1)
empty_struct = (1, refl)

array_of_structs : HasExtent table (ty.Array 3 (named 3)) (extent 12 2)
unfolding hidden-the_row-Ty-0 hidden
array_of_structs = (1, refl)

-- fields at 0, 8 and 16
nested : HasExtent table (named 4) (extent 24 8)
unfolding hidden-the_row-Ty-0 hidden
nested = (2, refl)

-- fields at 0, 8 and 32
nested_twice : HasExtent table (named 5) (extent 40 8)
unfolding hidden-the_row-Ty-0 hidden
nested_twice = (3, refl)

-- the array of none has the alignment of its elements: fields at 0, 1, 1, 8 and 8
no_elements : HasExtent table (named 6) (extent 16 8)
unfolding hidden-the_row-Ty-0 hidden
no_elements = (2, refl)

scalars : HasExtent table (ty.One I1) (extent 1 1) × HasExtent table (ty.One I16) (extent 2 2)
    × HasExtent table (ty.One I64) (extent 8 8) × HasExtent table (ty.One Ptr) (extent 8 8)
    × HasExtent table ty.Void (extent 0 1)
scalars = ((0, refl), (0, refl), (0, refl), (0, refl), (0, refl))

-- offsets
behind_a_byte : HasOffset table (Number 0) 1 4
behind_a_byte = (0, refl)

behind_a_word : HasOffset table (Number 1) 1 4
behind_a_word = (0, refl)

of_nested : HasOffset table (Number 4) 0 0 × HasOffset table (Number 4) 1 8 × HasOffset table (Number 4) 2 16
unfolding hidden-the_row-Ty-0 hidden
of_nested = ((1, refl), (1, refl), (1, refl))

of_nested_twice : HasOffset table (Number 5) 1 8 × HasOffset table (Number 5) 2 32
unfolding hidden-the_row-Ty-0 hidden
of_nested_twice = ((2, refl), (2, refl))

behind_no_elements : HasOffset table (Number 6) 1 1 × HasOffset table (Number 6) 2 1 × HasOffset table (Number 6) 3 8
    × HasOffset table (Number 6) 4 8
unfolding hidden-the_row-Ty-0 hidden
behind_no_elements = ((1, refl), (1, refl), (1, refl), (1, refl))

-- there is no third field, and no other offset
no_third : (offset : ℕ) → HasOffset table (Number 0) 2 offset → ⊥
no_third offset (depth, is) = cc

not_packed : HasOffset table (Number 0) 1 1 → ⊥
not_packed is = let h : 1 ≡ 4 = unique_offsets table (Number 0) 1 1 4 is behind_a_byte in omega (arith, h)

-- LAYOUT

abbrev globals_of : List StructDef → List GlobalDef → Module
globals_of structs globals = record { structs = structs; globals = globals; functions = [] }

abbrev global : ℕ → Ty → GlobalDef
global n t = record { name = Number n; ty = t; init = init.Zero }

-- %0 = { i8, %1 }, %1 = { [0 x %0] }, %2 = { %0 }: the first two hold themselves, the third only them
abbrev cycle : List StructDef
cycle = line 0 (ty.One I8 ∷ named 1 ∷ []) ∷ line 1 (ty.Array 0 (named 0) ∷ []) ∷ line 2 (named 0 ∷ []) ∷ []

holds_next : Holds cycle (Number 0) (Number 1)
unfolding hidden-the_row-Ty-0 hidden
holds_next = (ty.One I8 ∷ named 1 ∷ [], refl, inl refl)

holds_first : Holds cycle (Number 1) (Number 0)
unfolding hidden-the_row-Ty-0 hidden
holds_first = (ty.Array 0 (named 0) ∷ [], refl, inl refl)

first_is_recursive : IsRecursive cycle (Number 0)
first_is_recursive = (Number 1 ∷ [], (holds_next, holds_first))

second_is_recursive : IsRecursive cycle (Number 1)
second_is_recursive = (Number 0 ∷ [], (holds_first, holds_next))

-- a struct that holds itself at once
itself : IsRecursive (line 0 (named 0 ∷ []) ∷ []) (Number 0)
itself = ([], (named 0 ∷ [], refl, inl refl))

-- what the third holds is the first, and what that and the second hold is one of them
third_holds : (held : Name) → Holds cycle (Number 2) held → Number 0 ≡ held
unfolding hidden-the_row-Ty-0 hidden
third_holds held (fields, same, among) =
    let h : Some (named 0 ∷ []) ≡ Some fields = same in
    let f : named 0 ∷ [] ≡ fields = cc in
    elim (subst (λ (xs : List Ty). Among held (flat_map struct_in xs)) (sym f) among) [ inl e ↦ e | inr e ↦ absurd e ]

first_holds : (held : Name) → Holds cycle (Number 0) held → Number 1 ≡ held
unfolding hidden-the_row-Ty-0 hidden
first_holds held (fields, same, among) =
    let h : Some (ty.One I8 ∷ named 1 ∷ []) ≡ Some fields = same in
    let f : ty.One I8 ∷ named 1 ∷ [] ≡ fields = cc in
    elim (subst (λ (xs : List Ty). Among held (flat_map struct_in xs)) (sym f) among) [ inl e ↦ e | inr e ↦ absurd e ]

second_holds : (held : Name) → Holds cycle (Number 1) held → Number 0 ≡ held
unfolding hidden-the_row-Ty-0 hidden
second_holds held (fields, same, among) =
    let h : Some (ty.Array 0 (named 0) ∷ []) ≡ Some fields = same in
    let f : ty.Array 0 (named 0) ∷ [] ≡ fields = cc in
    elim (subst (λ (xs : List Ty). Among held (flat_map struct_in xs)) (sym f) among) [ inl e ↦ e | inr e ↦ absurd e ]

two_only : (names : List Name) (held : Name) →
    (HoldsThrough cycle (Number 0) names held → Number 2 ≡ held → ⊥)
    × (HoldsThrough cycle (Number 1) names held → Number 2 ≡ held → ⊥)
two_only [] held = (λ h e. let f = first_holds held h in cc, λ h e. let f = second_holds held h in cc)
two_only (n ∷ names) held = (
  λ h e. let f = first_holds n h.0 in (two_only names held).1
      (subst (λ (x : Name). HoldsThrough cycle x names held) (sym f) h.1) e,
  λ h e. let f = second_holds n h.0 in (two_only names held).0
      (subst (λ (x : Name). HoldsThrough cycle x names held) (sym f) h.1) e,
)

third_is_not : IsRecursive cycle (Number 2) → ⊥
third_is_not ([], h) = let f = third_holds (Number 2) h in cc
third_is_not (n ∷ names, h) =
    let f = third_holds n h.0 in (two_only names (Number 2)).0
    (subst (λ (x : Name). HoldsThrough cycle x names (Number 2)) (sym f) h.1) refl

-- a pointer to a struct holds none
through_a_pointer : (name : Name) → Holds (line 0 (ty.One Ptr ∷ []) ∷ []) (Number 0) name → ⊥
through_a_pointer name (fields, same, among) =
    let h : Some (ty.One Ptr ∷ []) ≡ Some fields = same in
    let f : ty.One Ptr ∷ [] ≡ fields = cc in
    subst (λ (xs : List Ty). Among name (flat_map struct_in xs)) (sym f) among

-- a struct that holds itself has no extent
abbrev circle : List StructDef
circle = line 0 (named 0 ∷ []) ∷ []

no_extent : (depth : ℕ) (e : Extent) → struct_extent circle depth (Number 0) ≡ Some e → ⊥
no_extent zero e is = cc
no_extent (suc depth) e is = option_and_then_some
    (λ (x : Extent). fields_extent (extent_by (struct_extent circle depth)) (rounded 0 x.align + x.size)
    (max 1 x.align) [])
    (struct_extent circle depth (Number 0)) e is (λ x has rest. no_extent depth x has)

-- sizes
two_is_the_most : IsTooLarge [] (ty.Array 2147483648 (ty.One I8)) → ⊥
unfolding hidden-the_row-Ty-0 hidden
two_is_the_most (e, has, large) =
    let same : e ≡ extent 2147483648 1 =
    unique_extents [] (ty.Array 2147483648 (ty.One I8)) e (extent 2147483648 1) has (0, refl) in
    let h : 2 ^ 31 < 2147483648 = subst (λ (x : Extent). 2 ^ 31 < x.size) same large in omega (arith, h)

four_is_too_large : IsTooLarge [] (ty.Array 2147483648 (ty.One I16))
unfolding hidden-the_row-Ty-0 hidden
four_is_too_large = (extent 4294967296 2, (0, refl), lit< tt)

-- the array of none has no size, and what it writes inside counts
none_of_too_large : WritesTooLarge [] (ty.Array 0 (ty.Array 2147483648 (ty.One I16)))
unfolding hidden-the_row-Ty-0 hidden
none_of_too_large = inr (inl four_is_too_large)

-- %0 = { [2147483648 x i8], i8 } has more bytes; its own line writes nothing too large, a global of it does, and so
-- does an array of none of it
abbrev big : List StructDef
big = line 0 (ty.Array 2147483648 (ty.One I8) ∷ ty.One I8 ∷ []) ∷ []

big_where_used : WritesTooLarge big (named 0)
unfolding hidden-the_row-Ty-0 hidden
big_where_used = (extent 2147483649 1, (1, refl), lit< tt)

big_in_an_array : WritesTooLarge big (ty.Array 0 (named 0))
unfolding hidden-the_row-Ty-0 hidden
big_in_an_array = inr big_where_used

not_in_its_line : AnyTooLarge big (ty.Array 2147483648 (ty.One I8) ∷ ty.One I8 ∷ []) → ⊥
unfolding hidden-the_row-Ty-0 hidden
not_in_its_line (inl (inl (e, has, large))) =
    let same : e ≡ extent 2147483648 1 =
    unique_extents big (ty.Array 2147483648 (ty.One I8)) e (extent 2147483648 1) has (0, refl) in
    let h : 2 ^ 31 < 2147483648 = subst (λ (x : Extent). 2 ^ 31 < x.size) same large in omega (arith, h)
not_in_its_line (inl (inr inside)) = inside
not_in_its_line (inr (inl inside)) = inside
not_in_its_line (inr (inr none)) = none

-- names: in an array of a global an unknown one is written, and the second line of a name is the first twice
unknown_in_an_array : IsUnknown (globals_of [] (global 0 (ty.Array 2 (named 7)) ∷ [])) (Number 7)
unknown_in_an_array none = none

written_in_an_array : written_names (globals_of [] (global 0 (ty.Array 2 (named 7)) ∷ [])) ≡ Number 7 ∷ []
unfolding hidden-the_row-Ty-0 hidden
written_in_an_array = refl

known : IsUnknown (globals_of table []) (Number 4) → ⊥
known unknown = unknown (inr (inr (inr (inr (inl refl)))))

second_line : IsFirstTwice (struct_names (line 0 [] ∷ line 1 [] ∷ line 0 [] ∷ line 1 [] ∷ [])) (Number 0)
second_line = record {
  before = Number 0 ∷ Number 1 ∷ [];
  after = Number 1 ∷ [];
  split = refl;
  first_time = inl refl;
  none_before = (λ among. elim among [ inl e ↦ cc | inr e ↦ absurd e ], (λ none. none, tt));
}
