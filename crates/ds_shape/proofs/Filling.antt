-- One struct line more, behind those that it holds: what is kept of its extent is right.
use Rattle.std.proofs.Common.{◌≡◌, ◌+◌, ◌<◌, ◌≤◌, ◌++◌, ℕ, zero, suc, List, [], ◌∷◌, Some, refl, sym, ap, ◌∙◌, subst, inl, inr, get_or, set, take, drop, length, add-one, arith}
use Rattle.std.specs.Prelude.{Contains, flat_map}
use Rattle.std.proofs.Math.Seq.{take-suc}
use Rattle.std.proofs.lemmas.List.{get_or-set_same, get_or-set_other, take_all, length-map}
use Rattle.ds_ast.specs.declared.name.Name.{Name}
use Rattle.ds_ast.specs.declared.module.StructDef.{StructDef}
use Rattle.ds_ast.specs.Bounds.{fields_of}
use Rattle.ds_graph.specs.Graph.{IsOrder}
use Rattle.ds_names.specs.Names.{Among, AreDistinct, place_of}
use Rattle.ds_shape.specs.Written.{struct_in, struct_names}
use Rattle.ds_shape.specs.Index.{holdings, places_of}
use Rattle.ds_shape.specs.Capped.{empty, capped_extent, capped_fields, extent_at, extent_in, IsRight, AreRight}
use Rattle.ds_shape.specs.declared.extents.CappedExtent.{CappedExtent}
use Rattle.ds_shape.proofs.Exist.{found_or_not}
use Rattle.ds_shape.proofs.Orders.{contains_in, in_contains, In, in_behind, same_or_not, split_at, order_below}
use Rattle.ds_shape.proofs.Holding.{no_extent, line_at, fields_at, placed_name, holding_edge, no_line}
use Rattle.ds_shape.proofs.Caps.{right_fields}

-- the struct lines at the first places of an order are right
abbrev pub RightSoFar : List StructDef → List CappedExtent → List ℕ → Type 0
RightSoFar structs extents places =
    (name : Name) (k : ℕ) → place_of (struct_names structs) name ≡ Some k → Contains places k →
    IsRight structs extents name

pub none_so_far : (structs : List StructDef) (extents : List CappedExtent) (order : List ℕ) →
    RightSoFar structs extents (take 0 order)
none_so_far structs extents order name k p (i, inside, is) = absurd (omega (arith, inside))

pub default_apart : (structs : List StructDef) (i : ℕ) (d e : StructDef) → i < length structs →
    get_or structs i d ≡ get_or structs i e
default_apart [] i d e inside = absurd (omega (arith, inside))
default_apart (x ∷ xs) zero d e inside = refl
default_apart (x ∷ xs) (suc i) d e inside = default_apart xs i d e (omega (arith, inside))

-- what stands in an order is the place of a line
pub place_inside : (structs : List StructDef) (order : List ℕ) →
    IsOrder (holdings (struct_names structs) structs) order → (i : ℕ) → i < length order →
    get_or order i 0 < length structs
place_inside structs order ordered i inside =
    let h : get_or order i 0 < length (holdings (struct_names structs) structs) =
    order_below (holdings (struct_names structs) structs) order ordered i 0 inside in
    let l : length (holdings (struct_names structs) structs) ≡ length structs =
    length-map structs (λ (s : StructDef). places_of (struct_names structs) (flat_map struct_in s.fields)) in
    omega (arith, h, l)

module _ (structs : List StructDef) (extents : List CappedExtent) (order : List ℕ)
    (distinct : AreDistinct (struct_names structs)) (ordered : IsOrder (holdings (struct_names structs) structs) order)
    (many : length extents ≡ length structs) (i : ℕ) (inside : i < length order) (p : ℕ) (here : p ≡ get_or order i 0)
    (line : StructDef) (is : line ≡ get_or structs p line)
    (e : CappedExtent)
    (counted : e ≡ capped_fields (capped_extent (extent_in (struct_names structs) extents)) 0 1 line.fields)
    (right : RightSoFar structs extents (take i order)) where
  below : p < length structs
  below = subst (λ (k : ℕ). k < length structs) (sym here) (place_inside structs order ordered i inside)

  line_is : line ≡ line_at structs distinct p
  line_is = is ∙ default_apart structs p line no_line below

  held : (n : Name) → Among n (flat_map struct_in line.fields) → IsRight structs extents n
  held n among x h = elim (found_or_not (place_of (struct_names structs) n)) [
    | inl lacks ↦ absurd (no_extent structs n x lacks h)
    | inr found ↦
        let edge = holding_edge structs distinct p n found.0 below
        (subst (λ (s : StructDef). Among n (flat_map struct_in s.fields)) line_is among) found.1 in
        let split : order ≡ take i order ++ p ∷ drop (suc i) order = split_at order i 0 inside
        ∙ ap (λ (y : ℕ). take i order ++ y ∷ drop (suc i) order) (sym here) in
        right n found.0 found.1 (ordered.behind (take i order) (drop (suc i) order) p found.0 split edge) x h
  ]

  at_place : (name : Name) (k : ℕ) → place_of (struct_names structs) name ≡ Some k → p ≡ k →
      extent_in (struct_names structs) (set extents p e) name ≡ e
  at_place name k q same =
      ap (extent_at (set extents p e)) q ∙ ap (λ (j : ℕ). get_or (set extents p e) j empty) (sym same)
      ∙ get_or-set_same extents p e empty (omega (arith, below, many))

  at_other : (name : Name) (k : ℕ) → place_of (struct_names structs) name ≡ Some k → (p ≡ k → ⊥) →
      extent_in (struct_names structs) (set extents p e) name ≡ extent_in (struct_names structs) extents name
  at_other name k q other =
      ap (extent_at (set extents p e)) q ∙ get_or-set_other extents p k e empty (λ same. other (sym same))
      ∙ sym (ap (extent_at extents) q)

  right_here : (name : Name) (k : ℕ) → place_of (struct_names structs) name ≡ Some k → p ≡ k →
      IsRight structs (set extents p e) name
  right_here name k q same x h =
      let its : (line_at structs distinct p).name ≡ name =
      (placed_name structs distinct name p (q ∙ ap Some (sym same))).1 in
      let of : fields_of structs name ≡ Some line.fields =
      subst (λ (n : Name). fields_of structs n ≡ Some line.fields) its
      (fields_at structs distinct p below ∙ ap (λ (s : StructDef). Some s.fields) (sym line_is)) in
      let r = right_fields structs extents name line.fields of held x h in
      (at_place name k q same ∙ counted ∙ r.0, r.1)

  right_other : (name : Name) (k : ℕ) → place_of (struct_names structs) name ≡ Some k → (p ≡ k → ⊥) →
      Contains (take i order) k → IsRight structs (set extents p e) name
  right_other name k q other before x h = let r = right name k q before x h in (at_other name k q other ∙ r.0, r.1)

  pub right_step : RightSoFar structs (set extents p e) (take (i + 1) order)
  right_step name k q there = elim (same_or_not p k) [
    | inl same ↦ right_here name k q same
    | inr other ↦
        let front : take (i + 1) order ≡ take i order ++ p ∷ [] = ap (λ (n : ℕ). take n order) (add-one i)
        ∙ take-suc order i 0 inside ∙ ap (λ (y : ℕ). take i order ++ y ∷ []) (sym here) in
        elim (in_behind (take i order) p k
        (subst (λ (ys : List ℕ). In k ys) front (contains_in (take (i + 1) order) k there))) [
          | inl before ↦ right_other name k q other (in_contains (take i order) k before)
          | inr same ↦ absurd (other same)
        ]
  ]

-- all struct lines stand in the order
pub all_right : (structs : List StructDef) (extents : List CappedExtent) (order : List ℕ) (i : ℕ) →
    AreDistinct (struct_names structs) → IsOrder (holdings (struct_names structs) structs) order → length order ≤ i →
    RightSoFar structs extents (take i order) → AreRight structs extents
all_right structs extents order i distinct ordered h right name x has =
    elim (found_or_not (place_of (struct_names structs) name)) [
      | inl lacks ↦ absurd (no_extent structs name x lacks has)
      | inr found ↦
          let inside : found.0 < length structs = (placed_name structs distinct name found.0 found.1).0 in
          let l : length (holdings (struct_names structs) structs) ≡ length structs =
          length-map structs (λ (s : StructDef). places_of (struct_names structs) (flat_map struct_in s.fields)) in
          right name found.0 found.1
          (subst (λ (ys : List ℕ). Contains ys found.0) (sym (take_all i order h))
          (ordered.each found.0 (omega (arith, inside, l)))) x has
    ]
