-- Edges turned round, one by one.
use Rattle.std.proofs.Common.{◌≡◌, ◌<◌, ◌≤◌, ◌+◌, ◌++◌, ◌↔◌, ℕ, Bool, true, false, List, [], ◌∷◌, ◌⊎◌, inl, inr}
use Rattle.std.proofs.Common.{length, map, set, take, get_or, replicate, slice_index_or, refl, sym, ap, ◌∙◌, subst}
use Rattle.std.proofs.Common.{arith}
use Rattle.std.specs.Prelude.{IsTrue, Contains}
use Rattle.std.specs.Ordering.{nat_cmp}
use Rattle.std.specs.BTreeMap.{is_at}
use Rattle.std.specs.BTreeSet.{BTreeSet, contains}
use Rattle.std.proofs.lemmas.Map.Views.{btree_set_contains_iff, tells_apart}
use Rattle.std.proofs.lemmas.Map.Lookups.{exact_unsigned}
use Rattle.std.proofs.lemmas.Cmp.{nat_cmp_total}
use Rattle.std.proofs.lemmas.Bool.{cases_eq, cases_order}
use Rattle.std.proofs.lemmas.List.{length-map, map-set, length-set, get_or-map, get_or-set_same, get_or-set_other}
use Rattle.std.proofs.lemmas.List.{get_or-replicate, get_or_past, length-replicate, take_more}
use Rattle.std.proofs.lemmas.List.Elements.{Contains-append_left, Contains-push, Contains-push_cases, Contains-get_or}
use Rattle.ds_graph.specs.Graph.{Edges, HasEdge}
use Rattle.ds_check_blocks.specs.Predecessors.{AreReversed, AddsEdge, AddsEdges}
use Rattle.ds_check_blocks.proofs.Leads.{nothing_in}

-- the numbers that a set has
pub has_iff : (s : BTreeSet ℕ) (k : ℕ) → IsTrue (contains nat_cmp s k) ↔ Contains s.keys k
has_iff = btree_set_contains_iff nat_cmp_total exact_unsigned

pub set_added : (s n : BTreeSet ℕ) (k : ℕ) → contains nat_cmp n k ≡ true
    → ((q : ℕ) → is_at (nat_cmp k) q ≡ false → contains nat_cmp n q ≡ contains nat_cmp s q) → (q : ℕ)
    → Contains n.keys q ↔ (Contains s.keys q ⊎ (q ≡ k))
set_added s n k here others q = (λ h. there (is_at (nat_cmp k) q) refl h, λ o. back (is_at (nat_cmp k) q) refl o)
  where
    there : (t : Bool) → is_at (nat_cmp k) q ≡ t → Contains n.keys q → Contains s.keys q ⊎ (q ≡ k)
    there true e h = inr (sym (tells_apart exact_unsigned k q e))
    there false e h = inl ((has_iff s q).0 (sym (others q e) ∙ (has_iff n q).1 h))

    it_is : q ≡ k → Contains n.keys q
    it_is e = subst (λ x. Contains n.keys x) (sym e) ((has_iff n k).0 here)

    back : (t : Bool) → is_at (nat_cmp k) q ≡ t → Contains s.keys q ⊎ (q ≡ k) → Contains n.keys q
    back t e (inr same) = it_is same
    back true e (inl h) = it_is (sym (tells_apart exact_unsigned k q e))
    back false e (inl h) = (has_iff n q).0 (others q e ∙ (has_iff s q).1 h)

-- one edge more in the row of a node
pub edge_added : {X : Type 0} (view : X → List ℕ) (rows : List X) (now : Edges) (from to : ℕ) (old new : X)
    → map view rows ≡ now → to < length now → old ≡ slice_index_or rows to old
    → ((q : ℕ) → Contains (view new) q ↔ (Contains (view old) q ⊎ (q ≡ from)))
    → AddsEdge from to now (map view (set rows to new))
edge_added {X} view rows now from to old new are inside is more = record {
  many = ap length stored ∙ length-set now to (view new);
  edge = λ a b. by_node a b (cases_eq b to);
}
  where
    stored : map view (set rows to new) ≡ set now to (view new)
    stored = map-set view rows to new ∙ ap (λ l. set l to (view new)) are

    before : get_or now to [] ≡ view old
    before = ap (λ l. get_or l to []) (sym are)
        ∙ get_or-map view rows to old [] (subst (λ n. to < n) (ap length (sym are) ∙ length-map rows view) inside)
        ∙ ap view (sym is)

    same : get_or (set now to (view new)) to [] ≡ view new
    same = get_or-set_same now to (view new) [] inside

    by_node : (a b : ℕ) → (b ≡ to) ⊎ (b ≡ to → ⊥)
        → HasEdge (map view (set rows to new)) b a ↔ (HasEdge now b a ⊎ ((b ≡ to) × (a ≡ from)))
    by_node a b (inl e) = (
      λ h. there ((more a).0
          (subst (λ l. Contains l a) (ap (λ l. get_or l b []) stored ∙ ap (λ i. get_or (set now to (view new)) i []) e
          ∙ same) h)),
      λ o. subst (λ l. Contains l a)
          (sym (ap (λ l. get_or l b []) stored ∙ ap (λ i. get_or (set now to (view new)) i []) e ∙ same))
          ((more a).1 (back o)),
    )
      where
        there : Contains (view old) a ⊎ (a ≡ from) → HasEdge now b a ⊎ ((b ≡ to) × (a ≡ from))
        there (inl h) = inl (subst (λ l. Contains l a) (sym (ap (λ i. get_or now i []) e ∙ before)) h)
        there (inr s) = inr (e, s)

        back : HasEdge now b a ⊎ ((b ≡ to) × (a ≡ from)) → Contains (view old) a ⊎ (a ≡ from)
        back (inl h) = inl (subst (λ l. Contains l a) (ap (λ i. get_or now i []) e ∙ before) h)
        back (inr p) = inr p.1
    by_node a b (inr other) =
        (λ h. inl (subst (λ l. Contains l a) row h), λ o. subst (λ l. Contains l a) (sym row) (back o))
      where
        row : get_or (map view (set rows to new)) b [] ≡ get_or now b []
        row = ap (λ l. get_or l b []) stored ∙ get_or-set_other now to b (view new) [] other

        back : HasEdge now b a ⊎ ((b ≡ to) × (a ≡ from)) → HasEdge now b a
        back (inl h) = h
        back (inr p) = absurd (other p.0)

-- edges to the first of these nodes
pub none_added : (from : ℕ) (targets : List ℕ) (now : Edges) → AddsEdges from (take 0 targets) now now
none_added from targets now = record { many = refl; edge = λ a b. (λ h. inl h, λ o. back a b o) }
  where
    back : (a b : ℕ) → HasEdge now b a ⊎ (Contains (take 0 targets) b × (a ≡ from)) → HasEdge now b a
    back a b (inl h) = h
    back a b (inr p) = absurd (nothing_in b p.0)

pub next_inside : (from i to : ℕ) (targets : List ℕ) (old now : Edges) → i < length targets → to ≡ get_or targets i 0
    → ((b : ℕ) → Contains targets b → b < length old)
    → AddsEdges from (take i targets) old now → to < length now
next_inside from i to targets old now h is inside added =
    subst (λ n. to < n) (sym added.many)
    (inside to (subst (λ x. Contains targets x) (sym is) (Contains-get_or targets i 0 h)))

pub one_added : (from i to : ℕ) (targets : List ℕ) (old now new : Edges) → i < length targets → to ≡ get_or targets i 0
    → AddsEdges from (take i targets) old now → AddsEdge from to now new
    → AddsEdges from (take (i + 1) targets) old new
one_added from i to targets old now new h is before more =
    record {
      many = more.many ∙ before.many;
      edge = λ a b. (λ e. there a b ((more.edge a b).0 e), λ o. (more.edge a b).1 (back a b o));
    }
  where
    next : take (i + 1) targets ≡ take i targets ++ to ∷ []
    next = take_more targets i 0 h ∙ ap (λ x. take i targets ++ x ∷ []) (sym is)

    older : (a b : ℕ) → HasEdge old b a ⊎ (Contains (take i targets) b × (a ≡ from))
        → HasEdge old b a ⊎ (Contains (take (i + 1) targets) b × (a ≡ from))
    older a b (inl e) = inl e
    older a b (inr p) = inr
        (subst (λ l. Contains l b) (sym next) (Contains-append_left (take i targets) (to ∷ []) b p.0), p.1)

    there : (a b : ℕ) → HasEdge now b a ⊎ ((b ≡ to) × (a ≡ from))
        → HasEdge old b a ⊎ (Contains (take (i + 1) targets) b × (a ≡ from))
    there a b (inl e) = older a b ((before.edge a b).0 e)
    there a b (inr p) = inr (
      subst (λ l. Contains l b) (sym next)
          (subst (λ x. Contains (take i targets ++ to ∷ []) x) (sym p.0) (Contains-push (take i targets) to)),
      p.1,
    )

    last : (a b : ℕ) → a ≡ from → Contains (take i targets) b ⊎ (to ≡ b) → HasEdge now b a ⊎ ((b ≡ to) × (a ≡ from))
    last a b e (inl c) = inl ((before.edge a b).1 (inr (c, e)))
    last a b e (inr s) = inr (sym s, e)

    back : (a b : ℕ) → HasEdge old b a ⊎ (Contains (take (i + 1) targets) b × (a ≡ from))
        → HasEdge now b a ⊎ ((b ≡ to) × (a ≡ from))
    back a b (inl e) = inl ((before.edge a b).1 (inl e))
    back a b (inr p) = last a b p.1 (Contains-push_cases (take i targets) to b (subst (λ l. Contains l b) next p.0))

-- the edges of so many nodes are turned round
pub record AreTurned (n : ℕ) (edges back : Edges) : Type 0 where
  pub many : length back ≡ length edges
  pub edge : (a b : ℕ) → HasEdge back b a ↔ ((a < n) × HasEdge edges a b)

pub none_turned : (edges back : Edges) (count : ℕ) → count ≡ length edges → back ≡ replicate count []
    → AreTurned 0 edges back
none_turned edges back count many none =
    record {
      many = ap length none ∙ length-replicate count [] ∙ many;
      edge = λ a b. (λ h. absurd (no_edge a b h), λ p. let lt = p.0 in absurd (omega (arith, lt)));
    }
  where
    no_edge : (a b : ℕ) → HasEdge back b a → ⊥
    no_edge a b h = by (cases_order b count)
      where
        inside : b < count → ⊥
        inside lt = nothing_in a
            (subst (λ l. Contains l a) (ap (λ l. get_or l b []) none ∙ get_or-replicate count b [] [] lt) h)

        past : count ≤ b → ⊥
        past far = nothing_in a
            (subst (λ l. Contains l a)
            (ap (λ l. get_or l b []) none
            ∙ get_or_past (replicate count []) b [] (subst (λ n. n ≤ b) (sym (length-replicate count [])) far)) h)

        by : (b ≡ count) ⊎ ((b < count) ⊎ (count < b)) → ⊥
        by (inl e) = past (omega (arith, e))
        by (inr (inl lt)) = inside lt
        by (inr (inr far)) = past (omega (arith, far))

pub one_turned : (n : ℕ) (edges now new : Edges) → AreTurned n edges now → AddsEdges n (get_or edges n []) now new
    → AreTurned (n + 1) edges new
one_turned n edges now new before more =
    record {
      many = more.many ∙ before.many;
      edge = λ a b. (λ h. there a b ((more.edge a b).0 h), λ p. (more.edge a b).1 (back a b p.0 p.1 (cases_eq a n)));
    }
  where
    there : (a b : ℕ) → HasEdge now b a ⊎ (HasEdge edges n b × (a ≡ n)) → (a < n + 1) × HasEdge edges a b
    there a b (inl h) = let p : (a < n) × HasEdge edges a b = (before.edge a b).0 h in let lt = p.0 in
        (omega (arith, lt), p.1)
    there a b (inr p) = let e : a ≡ n = p.1 in (omega (arith, e), subst (λ x. HasEdge edges x b) (sym e) p.0)

    back : (a b : ℕ) → a < n + 1 → HasEdge edges a b → (a ≡ n) ⊎ (a ≡ n → ⊥)
        → HasEdge now b a ⊎ (HasEdge edges n b × (a ≡ n))
    back a b lt h (inl e) = inr (subst (λ x. HasEdge edges x b) e h, e)
    back a b lt h (inr other) = inl ((before.edge a b).1 (omega (arith, lt, other), h))

pub all_turned : (n : ℕ) (edges back : Edges) → length edges ≤ n → AreTurned n edges back → AreReversed edges back
all_turned n edges back far turned =
    record {
      many = turned.many;
      edge = λ a b. (λ h. ((turned.edge a b).0 h).1, λ h. (turned.edge a b).1 (inside a b h, h));
    }
  where
    inside : (a b : ℕ) → HasEdge edges a b → a < n
    inside a b h = by (cases_order a n)
      where
        past : n ≤ a → a < n
        past over = absurd (nothing_in b
            (subst (λ l. Contains l b) (get_or_past edges a [] (omega (arith, far, over))) h))

        by : (a ≡ n) ⊎ ((a < n) ⊎ (n < a)) → a < n
        by (inl e) = past (omega (arith, e))
        by (inr (inl lt)) = lt
        by (inr (inr over)) = past (omega (arith, over))
