-- Each step towards a layout finds the first fault of its kind, and behind all of them the module has a layout.
use Rattle.std.proofs.Common.{◌≡◌, ◌+◌, ◌^◌, ◌<◌, ◌≤◌, ◌⊎◌, ◌++◌, ℕ, suc, min, Bool, true, false, ◌||◌, List, [], ◌∷◌, Option, Some, None, refl, sym, ap, ◌∙◌, subst, inl, inr, get_or, take, drop, length, true≢false, nat_lt, arith}
use Rattle.std.specs.Prelude.{All, map, flat_map, Result, Ok, Err, IsErr, IsErrAnd, IfErr}
use Rattle.std.proofs.lemmas.List.{map-append, take_all}
use Rattle.std.proofs.lemmas.List.Elements.{All-cons}
use Rattle.std.proofs.lemmas.Bool.Decides.{nat_tests}
use Rattle.ds_ast.specs.declared.name.Name.{Name}
use Rattle.ds_ast.specs.declared.ty.Ty.{Ty, Void, One, Struct, Array', more_of-Ty, end_of-Ty}
use Rattle.ds_ast.specs.declared.ty.Ty as ty
use Rattle.ds_ast.specs.declared.ty.Ty.TheBlock.{hidden-the_row-Ty-0}
use denote.Hole.Carrier.{hidden}
use Rattle.ds_ast.specs.declared.module.Module.{Module}
use Rattle.ds_ast.specs.declared.module.StructDef.{StructDef}
use Rattle.ds_names.specs.Names.{Among, AreDistinct, place_of}
use Rattle.ds_graph.specs.Graph.{IsOrder}
use Rattle.ds_shape.specs.Sizes.{Extent, HasExtent}
use Rattle.ds_shape.specs.Types.{Stands}
use Rattle.ds_shape.specs.Written.{Line, lines_of, written_names, struct_in, struct_names, IsFirst, IsRecursive, IsTooLarge, WritesTooLarge, AnyTooLarge, Holds}
use Rattle.ds_shape.specs.Accepted.{HasLayout}
use Rattle.ds_shape.specs.Fault.{HasLines, HasDepth, HasShapeFault}
use Rattle.ds_shape.specs.Index.{first_unplaced, unless_placed, holdings, IsTwiceFault}
use Rattle.ds_shape.specs.Capped.{capped_extent, extent_in, AreRight, is_large, writes_large, any_large}
use Rattle.ds_shape.specs.Kept.{names_in, IsUnknownFault, IsCycleFault, IsLarge, IsLargeFault}
use Rattle.ds_shape.specs.declared.extents.CappedExtent.{CappedExtent}
use Rattle.ds_shape.specs.declared.fault.ShapeFault.{ShapeFault}
use Rattle.ds_shape.specs.declared.fault.ShapeFault.TheVariants.{Memory}
use Rattle.ds_shape.proofs.Exist.{among_left, among_right, among_flat, known_written, held_in_module, extent_known}
use Rattle.ds_shape.proofs.Places.{none_among, among_place}
use Rattle.ds_shape.proofs.Orders.{split_at, no_cycle}
use Rattle.ds_shape.proofs.Holding.{name_in, name_at, first_recursive, none_recursive}
use Rattle.ds_shape.proofs.Caps.{right_types}

-- FIRST ITEMS

split_map : {X Y : Type 0} (g : X → Y) (xs : List X) (i : ℕ) (x : X) → i < length xs → x ≡ get_or xs i x →
    map g xs ≡ map g (take i xs) ++ g x ∷ map g (drop (suc i) xs)
split_map g xs i x inside is =
    ap (map g) (split_at xs i x inside ∙ ap (λ (y : _). take i xs ++ y ∷ drop (suc i) xs) (sym is))
    ∙ map-append g (take i xs) (x ∷ drop (suc i) xs)

-- the item has the property, and none before it has
pub first_item : {X Y : Type 0} (P : Y → Type 0) (g : X → Y) (xs : List X) (i : ℕ) (x : X) → i < length xs →
    x ≡ get_or xs i x → All (λ (y : Y). P y → ⊥) (map g (take i xs)) → P (g x) → IsFirst P (map g xs) (g x)
first_item P g xs i x inside is none has =
    record {
      before =
          map g (take i xs);
      after =
          map g (drop (suc i) xs);
      split = split_map g xs i x inside is;
      has = has;
      none_before = none;
    }

-- none of one more
pub none_more : {X Y : Type 0} (P : Y → Type 0) (g : X → Y) (xs : List X) (i : ℕ) → length xs ≤ i →
    All (λ (y : Y). P y → ⊥) (map g (take i xs)) → All (λ (y : Y). P y → ⊥) (map g xs)
none_more P g xs i h none = subst (λ (ys : List _). All (λ (y : _). P y → ⊥) (map g ys)) (take_all i xs h) none

-- A NAME WITHOUT A PLACE

unplaced_by : (names : List Name) (x n : Name) (xs : List Name) (o : Option ℕ) → place_of names x ≡ o →
    (first_unplaced names xs ≡ Some n → IsFirst (λ (y : Name). Among y names → ⊥) xs n) →
    unless_placed o x (first_unplaced names xs) ≡ Some n → IsFirst (λ (y : Name). Among y names → ⊥) (x ∷ xs) n
unplaced_by names x n xs None p rest e =
    let same : x ≡ n = cc in
    subst (λ (y : Name). IsFirst (λ (z : Name). Among z names → ⊥) (x ∷ xs) y) same
    (record { before = []; after = xs; split = refl; has = none_among names x p; none_before = λ k d h. grind arith })
unplaced_by names x n xs (Some i) p rest e =
    let r = rest e in
    record {
      before =
          x ∷ r.before;
      after =
          r.after;
      split =
          ap (λ (ys : List Name). x ∷ ys) r.split;
      has =
          r.has;
      none_before =
          All-cons (λ (y : Name). (Among y names → ⊥) → ⊥) x r.before (λ f. f (among_place names x i p)) r.none_before;
    }

pub first_unknown : (names xs : List Name) (n : Name) → first_unplaced names xs ≡ Some n →
    IsFirst (λ (y : Name). Among y names → ⊥) xs n
first_unknown names [] n e = absurd cc
first_unknown names (x ∷ xs) n e = unplaced_by names x n xs (place_of names x) refl (first_unknown names xs n) e

placed_by : (names : List Name) (x : Name) (xs : List Name) (o : Option ℕ) → place_of names x ≡ o →
    (first_unplaced names xs ≡ None → All (λ (y : Name). (Among y names → ⊥) → ⊥) xs) →
    unless_placed o x (first_unplaced names xs) ≡ None → All (λ (y : Name). (Among y names → ⊥) → ⊥) (x ∷ xs)
placed_by names x xs None p rest e = absurd cc
placed_by names x xs (Some i) p rest e =
    All-cons (λ (y : Name). (Among y names → ⊥) → ⊥) x xs (λ f. f (among_place names x i p)) (rest e)

pub none_unknown : (names xs : List Name) → first_unplaced names xs ≡ None →
    All (λ (y : Name). (Among y names → ⊥) → ⊥) xs
none_unknown names [] e = λ k d h. grind arith
none_unknown names (x ∷ xs) e = placed_by names x xs (place_of names x) refl (none_unknown names xs) e

-- SIZES

above_exact : (n : ℕ) → nat_lt (2 ^ 31) (min n (2 ^ 31 + 1)) ≡ true → 2 ^ 31 < n
above_exact n h = grind (arith, nat_tests)

exact_above : (n : ℕ) → 2 ^ 31 < n → nat_lt (2 ^ 31) (min n (2 ^ 31 + 1)) ≡ true
exact_above n h = grind (arith, nat_tests)

or_cases : (a b : Bool) → (a || b) ≡ true → (a ≡ true) ⊎ (b ≡ true)
or_cases true b e = inl refl
or_cases false b e = inr e

or_left : (a b : Bool) → a ≡ true → (a || b) ≡ true
or_left true b e = refl
or_left false b e = absurd cc

or_right : (a b : Bool) → b ≡ true → (a || b) ≡ true
or_right true b e = refl
or_right false b e = e

module _ (structs : List StructDef) (extents : List CappedExtent) (right : AreRight structs extents) where
  abbrev kept : Name → CappedExtent
  kept = extent_in (struct_names structs) extents

  large_type : (t : Ty) → IsTooLarge structs t → is_large (capped_extent kept t) ≡ true
  large_type t (e, has, more) = ap is_large (right_types structs extents right t e has) ∙ exact_above e.size more

  type_large : (t : Ty) (e : Extent) → HasExtent structs t e → is_large (capped_extent kept t) ≡ true →
      IsTooLarge structs t
  type_large t e has large =
      (e, has, above_exact e.size (sym (ap is_large (right_types structs extents right t e has)) ∙ large))

  written_large : (t : Ty) → WritesTooLarge structs t → writes_large kept t ≡ true
  unfolding hidden-the_row-Ty-0 hidden
  written_large Void w = absurd w
  written_large (One s) w = absurd w
  written_large (Array' count _ (more_of-Ty of end_of-Ty)) (inl here) =
      or_left (is_large (capped_extent kept (ty.Array count of))) (writes_large kept of)
      (large_type (ty.Array count of) here)
  written_large (Array' count _ (more_of-Ty of end_of-Ty)) (inr inside) =
      or_right (is_large (capped_extent kept (ty.Array count of))) (writes_large kept of) (written_large of inside)
  written_large (Struct name) w = large_type (Struct name) w

  any_written : (ts : List Ty) → AnyTooLarge structs ts → any_large kept ts ≡ true
  any_written [] w = absurd w
  any_written (t ∷ ts) (inl here) = or_left (writes_large kept t) (any_large kept ts) (written_large t here)
  any_written (t ∷ ts) (inr rest) = or_right (writes_large kept t) (any_large kept ts) (any_written ts rest)

  module _ (known : Name → Type 0)
      (has : (t : Ty) → ((n : Name) → Among n (struct_in t) → known n) → (e : Extent) × HasExtent structs t e) where
    large_written : (t : Ty) → ((n : Name) → Among n (struct_in t) → known n) → writes_large kept t ≡ true →
        WritesTooLarge structs t
    unfolding hidden-the_row-Ty-0 hidden
    large_written Void k w = absurd (true≢false (sym w))
    large_written (One s) k w = absurd (true≢false (sym w))
    large_written (Array' count _ (more_of-Ty of end_of-Ty)) k w =
        elim (or_cases (is_large (capped_extent kept (ty.Array count of))) (writes_large kept of) w) [
          | inl here ↦ let x = has (ty.Array count of) k in inl (type_large (ty.Array count of) x.0 x.1 here)
          | inr inside ↦ inr (large_written of k inside)
        ]
    large_written (Struct name) k w = let x = has (Struct name) k in type_large (Struct name) x.0 x.1 w

    any_large_written : (ts : List Ty) → ((n : Name) → Among n (flat_map struct_in ts) → known n) →
        any_large kept ts ≡ true → AnyTooLarge structs ts
    any_large_written [] k w = absurd (true≢false (sym w))
    any_large_written (t ∷ ts) k w = elim (or_cases (writes_large kept t) (any_large kept ts) w) [
      | inl here ↦ inl (large_written t (λ n a. k n (among_left n (struct_in t) (flat_map struct_in ts) a)) here)
      | inr rest ↦ inr (any_large_written ts (λ n a. k n (among_right n (struct_in t) (flat_map struct_in ts) a)) rest)
    ]

-- THE MODULE

all_map : {X : Type 0} (P Q : X → Type 0) (xs : List X) → ((x : X) → P x → Q x) → All P xs → All Q xs
all_map P Q xs on all = λ k d h. on (get_or xs k d) (all k d h)

module _ (m : Module) (distinct : AreDistinct (struct_names m.structs)) (names : List Name)
    (named : names ≡ struct_names m.structs) (lines : List Line) (written : lines ≡ lines_of m) where
  unknown_fault : (f : ShapeFault) → IsUnknownFault names lines f → HasShapeFault m f
  unknown_fault f (name, is, first) =
      let exact : first_unplaced (struct_names m.structs) (written_names m) ≡ Some name =
      subst (λ (ns : List Name). first_unplaced ns (written_names m) ≡ Some name) named
      (subst (λ (ls : List Line). first_unplaced names (names_in ls) ≡ Some name) written first) in
      subst (HasShapeFault m) (sym is) (distinct, first_unknown (struct_names m.structs) (written_names m) name exact)

  has_lines : first_unplaced names (names_in lines) ≡ None → HasLines m
  has_lines none =
      let exact : first_unplaced (struct_names m.structs) (written_names m) ≡ None =
      subst (λ (ns : List Name). first_unplaced ns (written_names m) ≡ None) named
      (subst (λ (ls : List Line). first_unplaced names (names_in ls) ≡ None) written none) in
      record { no_twice_type = distinct; no_unknown = none_unknown (struct_names m.structs) (written_names m) exact }

  pub refused_unknown : (f : ShapeFault) → (f ≡ Memory) ⊎ IsUnknownFault names lines f → (f ≡ Memory)
      ⊎ HasShapeFault m f
  refused_unknown f (inl memory) = inl memory
  refused_unknown f (inr unknown) = inr (unknown_fault f unknown)

  module _ (none : first_unplaced names (names_in lines) ≡ None) where
    all_lines : HasLines m
    all_lines = has_lines none

    known : (n held : Name) → Holds m.structs n held → Among held (struct_names m.structs)
    known n held holds = known_written m all_lines held (held_in_module m all_lines n held holds)

    cycle_fault : (f : ShapeFault) → IsCycleFault m.structs f → HasShapeFault m f
    cycle_fault f (name, a, is, inside, at, first) =
        let same : name_at m.structs distinct a ≡ name = sym (name_in m.structs distinct a name inside) ∙ sym at in
        subst (HasShapeFault m) (sym is) (
          all_lines,
          subst (IsFirst (IsRecursive m.structs) (struct_names m.structs)) same
              (first_recursive m.structs distinct known a inside first),
        )

    pub refused_recursive : (f : ShapeFault) → (f ≡ Memory) ⊎ IsCycleFault m.structs f → (f ≡ Memory)
        ⊎ HasShapeFault m f
    refused_recursive f (inl memory) = inl memory
    refused_recursive f (inr cycle) = inr (cycle_fault f cycle)

    module _ (order : List ℕ) (ordered : IsOrder (holdings (struct_names m.structs) m.structs) order)
        (extents : List CappedExtent) (right : AreRight m.structs extents) where
      depth : HasDepth m
      depth = record {
        lines = all_lines;
        no_recursive_type =
            none_recursive m.structs distinct known
            (no_cycle (holdings (struct_names m.structs) m.structs) order ordered);
      }

      exact_large : (l : Line) → IsLarge names extents l →
          any_large (extent_in (struct_names m.structs) extents) l.types ≡ true
      exact_large l large = subst (λ (ns : List Name). any_large (extent_in ns extents) l.types ≡ true) named large

      large_line : (l : Line) → Stands l (lines_of m) → IsLarge names extents l → AnyTooLarge m.structs l.types
      large_line l stands large =
          any_large_written m.structs extents right (λ (n : Name). Among n (struct_names m.structs))
          (extent_known m depth) l.types
          (λ n a. known_written m all_lines n
          (among_flat (λ (x : Line). flat_map struct_in x.types) (lines_of m) n l stands a)) (exact_large l large)

      not_large : (l : Line) → (IsLarge names extents l → ⊥) → AnyTooLarge m.structs l.types → ⊥
      not_large l none w =
          none (subst (λ (ns : List Name). any_large (extent_in ns extents) l.types ≡ true) (sym named)
          (any_written m.structs extents right l.types w))

      large_fault : (f : ShapeFault) → IsLargeFault names extents lines f → HasShapeFault m f
      large_fault f (l, is, first) =
          let split : lines_of m ≡ first.before ++ l ∷ first.after = sym written ∙ first.split in
          let large : IsFirst (λ (x : Line). AnyTooLarge m.structs x.types) (lines_of m) l = record {
            before = first.before;
            after = first.after;
            split = split;
            has = large_line l (first.before, first.after, split) first.has;
            none_before = all_map (λ (x : Line). IsLarge names extents x → ⊥)
                (λ (x : Line). AnyTooLarge m.structs x.types → ⊥) first.before not_large first.none_before;
          } in
          subst (HasShapeFault m) (sym is) (depth, (l, large, refl, refl))

      pub refused_too_large : (f : ShapeFault) → (f ≡ Memory) ⊎ IsLargeFault names extents lines f → (f ≡ Memory)
          ⊎ HasShapeFault m f
      refused_too_large f (inl memory) = inl memory
      refused_too_large f (inr large) = inr (large_fault f large)

      pub has_layout : All (λ (l : Line). IsLarge names extents l → ⊥) lines → HasLayout m
      has_layout none_large = record {
        no_twice_type = distinct;
        no_unknown = all_lines.no_unknown;
        no_recursive_type = depth.no_recursive_type;
        no_too_large = all_map (λ (x : Line). IsLarge names extents x → ⊥)
            (λ (x : Line). AnyTooLarge m.structs x.types → ⊥) (lines_of m) not_large
            (subst (All (λ (l : Line). IsLarge names extents l → ⊥)) written none_large);
      }

-- the first line of a name that has one before
pub refused_twice : (m : Module) (f : ShapeFault) → (f ≡ Memory) ⊎ IsTwiceFault m.structs f → (f ≡ Memory)
    ⊎ HasShapeFault m f
refused_twice m f (inl memory) = inl memory
refused_twice m f (inr (name, is, twice)) = inr (subst (HasShapeFault m) (sym is) twice)

-- a fault that is passed on
pub passed_refused : {A : Type 0} (r : Result A ShapeFault) (P : ShapeFault → Type 0) (f : ShapeFault) → IsErr r
    × IsErrAnd r (λ g. g ≡ f) → P f → IfErr r P
passed_refused (Ok x) P f (a, b) has = absurd b
passed_refused (Err g) P f (a, b) has = subst P (sym b) has
