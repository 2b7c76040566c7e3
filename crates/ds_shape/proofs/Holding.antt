-- Struct lines hold one another by their names exactly as by their places.
use Rattle.std.proofs.Common.{◌≡◌, ◌<◌, ◌⊎◌, ◌++◌, ℕ, zero, suc, min, Bool, true, false, List, [], ◌∷◌, Option, Some, None, refl, sym, ap, ◌∙◌, subst, inl, inr, get_or, take, drop, length, cond, arith}
use Rattle.std.specs.Prelude.{All, Contains, map, flat_map, option_and_then}
use Rattle.std.specs.Option.{option_to_list}
use Rattle.std.proofs.lemmas.List.{length-map, get_or-map, get_or-take, length-take}
use Rattle.ds_ast.specs.declared.name.Name.{Name}
use Rattle.ds_ast.specs.declared.name.Name.TheVariants.{Number}
use Rattle.ds_ast.specs.declared.ty.Ty.{Ty, Struct}
use Rattle.ds_ast.specs.declared.module.StructDef.{StructDef}
use Rattle.ds_ast.specs.Bounds.{is_name, fields_of}
use Rattle.ds_graph.specs.Graph.{Edges, HasEdge, IsClosed, Leads, IsOnCycle, IsFirstOnCycle}
use Rattle.ds_names.specs.Names.{Among, AreDistinct, place_of}
use Rattle.ds_shape.specs.Sizes.{Extent, HasExtent, extent_by, fields_extent, struct_extent}
use Rattle.ds_shape.specs.Written.{struct_in, struct_names, IsFirst, Holds, HoldsThrough, IsRecursive}
use Rattle.ds_shape.specs.Index.{places_of, holdings}
use Rattle.ds_shape.proofs.Exist.{names_decide, fields_of_line, found_or_not}
use Rattle.ds_shape.proofs.Places.{place_below, place_at, none_among, place_of_each}
use Rattle.ds_shape.proofs.Orders.{In, contains_in, in_contains, split_at, stands_at, edge_below, starts_below}

-- PLACES

in_option : (o : Option ℕ) (rest : List ℕ) (b : ℕ) → In b (option_to_list o ++ rest) → (o ≡ Some b) ⊎ In b rest
in_option None rest b i = inr i
in_option (Some a) rest b (inl e) = inl (ap Some e)
in_option (Some a) rest b (inr i) = inr i

behind_option : (o : Option ℕ) (rest : List ℕ) (b : ℕ) → In b rest → In b (option_to_list o ++ rest)
behind_option None rest b i = i
behind_option (Some a) rest b i = inr i

-- each place is that of one of the names
pub in_places : (names held : List Name) (b : ℕ) → In b (places_of names held) → (n : Name) × Among n held
    × (place_of names n ≡ Some b)
in_places names [] b i = absurd i
in_places names (n ∷ held) b i = elim (in_option (place_of names n) (places_of names held) b i) [
  | inl e ↦ (n, inl refl, e)
  | inr j ↦ let x = in_places names held b j in (x.0, inr x.1, x.2)
]

-- and each of them has its place there
pub places_in : (names held : List Name) (n : Name) (b : ℕ) → Among n held → place_of names n ≡ Some b →
    In b (places_of names held)
places_in names [] n b a e = absurd a
places_in names (m ∷ held) n b (inl same) e =
    let p : place_of names m ≡ Some b = ap (place_of names) same ∙ e in
    subst (λ (o : Option ℕ). In b (option_to_list o ++ places_of names held)) (sym p) (inl refl)
places_in names (m ∷ held) n b (inr a) e =
    behind_option (place_of names m) (places_of names held) b (places_in names held n b a e)

-- a name that stands there has a place
pub placed : (names : List Name) (n : Name) → Among n names → (b : ℕ) × (place_of names n ≡ Some b)
placed names n a =
    elim (found_or_not (place_of names n)) [ inl lacks ↦ absurd (none_among names n lacks a) | inr found ↦ found ]

fields_by : (line : StructDef) (lines : List StructDef) (name : Name) (fields : List Ty) (b : Bool) →
    is_name line.name name ≡ b → (fields_of lines name ≡ Some fields → Among name (struct_names lines)) →
    cond b (Some line.fields) (fields_of lines name) ≡ Some fields → Among name (struct_names (line ∷ lines))
fields_by line lines name fields true is rest e = inl ((names_decide line.name name).0 is)
fields_by line lines name fields false is rest e = inr (rest e)

-- what has fields has a line
pub fields_among : (structs : List StructDef) (name : Name) (fields : List Ty) → fields_of structs name ≡ Some fields →
    Among name (struct_names structs)
fields_among [] name fields e = absurd cc
fields_among (line ∷ lines) name fields e =
    fields_by line lines name fields (is_name line.name name) refl (fields_among lines name fields) e

-- what has no line has no extent
pub no_extent : (structs : List StructDef) (name : Name) (e : Extent) → place_of (struct_names structs) name ≡ None →
    HasExtent structs (Struct name) e → ⊥
no_extent structs name e lacks (zero, is) = absurd cc
no_extent structs name e lacks (suc d, is) = elim (found_or_not (fields_of structs name)) [
  | inl none ↦
      let never : None ≡ Some e =
      subst (λ (o : Option (List Ty)). option_and_then (fields_extent (extent_by (struct_extent structs d)) 0 1) o
      ≡ Some e) none is in
      absurd cc
  | inr found ↦ none_among (struct_names structs) name lacks (fields_among structs name found.0 found.1)
]

-- LINES

abbrev pub no_line : StructDef
no_line = record { name = Number 0; fields = [] }

module _ (structs : List StructDef) (distinct : AreDistinct (struct_names structs)) where
  abbrev pub edges_of : Edges
  edges_of = holdings (struct_names structs) structs

  abbrev pub line_at : ℕ → StructDef
  line_at a = get_or structs a no_line

  abbrev pub name_at : ℕ → Name
  name_at a = (line_at a).name

  many_edges : length edges_of ≡ length structs
  many_edges = length-map structs (λ (s : StructDef). places_of (struct_names structs) (flat_map struct_in s.fields))

  many_names : length (struct_names structs) ≡ length structs
  many_names = length-map structs (λ (s : StructDef). s.name)

  pub name_in : (a : ℕ) (d : Name) → a < length structs → get_or (struct_names structs) a d ≡ name_at a
  name_in a d inside = get_or-map (λ (s : StructDef). s.name) structs a no_line d inside

  pub row_at : (a : ℕ) → a < length structs →
      get_or edges_of a [] ≡ places_of (struct_names structs) (flat_map struct_in (line_at a).fields)
  row_at a inside =
      get_or-map (λ (s : StructDef). places_of (struct_names structs) (flat_map struct_in s.fields)) structs a no_line
      [] inside

  pub fields_at : (a : ℕ) → a < length structs → fields_of structs (name_at a) ≡ Some (line_at a).fields
  fields_at a inside = fields_of_line structs (line_at a) distinct (stands_at structs a no_line inside)

  -- the line of a name is at its place
  pub placed_name : (n : Name) (a : ℕ) → place_of (struct_names structs) n ≡ Some a → (a < length structs)
      × (name_at a ≡ n)
  placed_name n a p =
      let below : a < length (struct_names structs) = place_below (struct_names structs) n a p in
      let inside : a < length structs = omega (arith, below, many_names) in
      (inside, sym (name_in a n inside) ∙ place_at (struct_names structs) n n a p)

  edge_inside : (a b : ℕ) → HasEdge edges_of a b → a < length structs
  edge_inside a b edge = let h : a < length edges_of = edge_below edges_of a b edge in omega (arith, h, many_edges)

  edge_to : (a b : ℕ) → HasEdge edges_of a b → (n : Name) × Among n (flat_map struct_in (line_at a).fields)
      × (place_of (struct_names structs) n ≡ Some b)
  edge_to a b edge =
      in_places (struct_names structs) (flat_map struct_in (line_at a).fields) b
      (subst (In b) (row_at a (edge_inside a b edge)) (contains_in (get_or edges_of a []) b edge))

  pub are_closed : IsClosed edges_of
  are_closed a b edge =
      let x = edge_to a b edge in
      let h : b < length structs = (placed_name x.0 b x.2).0 in
      omega (arith, h, many_edges)

  pub cycle_inside : (a : ℕ) → IsOnCycle edges_of a → a < length structs
  cycle_inside a cycle = let h : a < length edges_of = starts_below edges_of a cycle in omega (arith, h, many_edges)

  edge_holds : (a b : ℕ) → HasEdge edges_of a b → Holds structs (name_at a) (name_at b)
  edge_holds a b edge =
      let x = edge_to a b edge in (
        (line_at a).fields,
        fields_at a (edge_inside a b edge),
        subst
            (λ (n : Name). Among n (flat_map struct_in (line_at a).fields)) (sym (placed_name x.0 b x.2).1) x.1,
      )

  leads_holds : (a : ℕ) (bs : List ℕ) (c : ℕ) → Leads edges_of a bs c →
      HoldsThrough structs (name_at a) (map name_at bs) (name_at c)
  leads_holds a [] c leads = edge_holds a c leads
  leads_holds a (b ∷ bs) c leads = (edge_holds a b leads.0, leads_holds b bs c leads.1)

  pub holding_edge : (a : ℕ) (n : Name) (b : ℕ) → a < length structs →
      Among n (flat_map struct_in (line_at a).fields) → place_of (struct_names structs) n ≡ Some b →
      HasEdge edges_of a b
  holding_edge a n b inside among p =
      subst (λ (row : List ℕ). Contains row b) (sym (row_at a inside))
      (in_contains (places_of (struct_names structs) (flat_map struct_in (line_at a).fields)) b
      (places_in (struct_names structs) (flat_map struct_in (line_at a).fields) n b among p))

  holds_edge : (n m : Name) (a b : ℕ) → place_of (struct_names structs) n ≡ Some a →
      place_of (struct_names structs) m ≡ Some b → Holds structs n m → HasEdge edges_of a b
  holds_edge n m a b p q (fields, of, among) =
      let x = placed_name n a p in
      let here : fields_of structs n ≡ Some (line_at a).fields =
      subst (λ (y : Name). fields_of structs y ≡ Some (line_at a).fields) x.1 (fields_at a x.0) in
      let same : fields ≡ (line_at a).fields = cc in
      holding_edge a m b x.0 (subst (λ (ts : List Ty). Among m (flat_map struct_in ts)) same among) q

  cycle_recursive : (a : ℕ) → IsOnCycle edges_of a → IsRecursive structs (name_at a)
  cycle_recursive a (bs, leads) = (map name_at bs, leads_holds a bs a leads)

module _ (structs : List StructDef) (distinct : AreDistinct (struct_names structs))
    (known : (n m : Name) → Holds structs n m → Among m (struct_names structs)) where
  holds_leads : (n : Name) (ms : List Name) (last : Name) (a c : ℕ) → place_of (struct_names structs) n ≡ Some a →
      place_of (struct_names structs) last ≡ Some c → HoldsThrough structs n ms last →
      (bs : List ℕ) × Leads (edges_of structs distinct) a bs c
  holds_leads n [] last a c p q holds = ([], holds_edge structs distinct n last a c p q holds)
  holds_leads n (m ∷ ms) last a c p q (holds, more) =
      let b = placed (struct_names structs) m (known n m holds) in
      let rest = holds_leads m ms last b.0 c b.1 q more in
      (b.0 ∷ rest.0, (holds_edge structs distinct n m a b.0 p b.1 holds, rest.1))

  pub recursive_cycle : (n : Name) (a : ℕ) → place_of (struct_names structs) n ≡ Some a → IsRecursive structs n →
      IsOnCycle (edges_of structs distinct) a
  recursive_cycle n a p (ms, holds) = holds_leads n ms n a a p p holds

  -- where no node is on a cycle no struct holds itself
  pub none_recursive : ((a : ℕ) → IsOnCycle (edges_of structs distinct) a → ⊥) →
      All (λ name. IsRecursive structs name → ⊥) (struct_names structs)
  none_recursive no_cycle k d inside recursive =
      no_cycle k (recursive_cycle (get_or (struct_names structs) k d) k
      (place_of_each (struct_names structs) d k distinct inside) recursive)

  -- the first node that is on a cycle is the first line of a struct that holds itself
  pub first_recursive : (a : ℕ) → a < length structs → IsFirstOnCycle (edges_of structs distinct) a →
      IsFirst (IsRecursive structs) (struct_names structs) (name_at structs distinct a)
  first_recursive a inside is = record {
    before = take a (struct_names structs);
    after = drop (suc a) (struct_names structs);
    split = split_at (struct_names structs) a (name_at structs distinct a)
        (omega (arith, inside, many_names structs distinct))
        ∙ ap (λ (n : Name). take a (struct_names structs) ++ n ∷ drop (suc a) (struct_names structs))
        (name_in structs distinct a (name_at structs distinct a) inside);
    has = cycle_recursive structs distinct a is.cycle;
    none_before = λ k d lt recursive. before k d lt recursive;
  }
    where
      before : (k : ℕ) (d : Name) → k < length (take a (struct_names structs)) →
          IsRecursive structs (get_or (take a (struct_names structs)) k d) → ⊥
      before k d lt recursive =
          let l : length (take a (struct_names structs)) ≡ min a (length (struct_names structs)) =
          length-take a (struct_names structs) in
          let below : k < a = omega (arith, lt, l) in
          let within : k < length (struct_names structs) = omega (arith, lt, l) in
          let same : get_or (take a (struct_names structs)) k d ≡ get_or (struct_names structs) k d =
          get_or-take a (struct_names structs) k d below in
          is.none_before k below
          (recursive_cycle (get_or (struct_names structs) k d) k
          (place_of_each (struct_names structs) d k distinct within) (subst (IsRecursive structs) same recursive))
