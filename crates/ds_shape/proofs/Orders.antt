-- In an order of nodes along their edges no node is on a cycle, and nothing stands but the nodes.
use Rattle.std.proofs.Common.{◌≡◌, ◌<◌, ◌≤◌, ◌⊎◌, ◌++◌, ℕ, zero, suc, List, [], ◌∷◌, refl, sym, ap, ◌∙◌, subst, inl, inr, get_or, take, drop, length, arith}
use Rattle.std.specs.Prelude.{Contains}
use Rattle.std.proofs.Math.Seq.{take-suc}
use Rattle.std.proofs.lemmas.List.{take_all}
use Rattle.ds_graph.specs.Graph.{Edges, HasEdge, Leads, IsOnCycle, IsOrder}
use Rattle.ds_shape.specs.Types.{Stands}

-- MEMBERS

abbrev pub In : ℕ → List ℕ → Type 0
In a [] = ⊥
In a (x ∷ xs) = (x ≡ a) ⊎ In a xs

pub contains_in : (xs : List ℕ) (a : ℕ) → Contains xs a → In a xs
contains_in [] a (k, inside, is) = absurd (omega (arith, inside))
contains_in (x ∷ xs) a (zero, inside, is) = inl is
contains_in (x ∷ xs) a (suc k, inside, is) = inr (contains_in xs a (k, omega (arith, inside), is))

pub in_contains : (xs : List ℕ) (a : ℕ) → In a xs → Contains xs a
in_contains [] a i = absurd i
in_contains (x ∷ xs) a (inl e) = (zero, omega arith, e)
in_contains (x ∷ xs) a (inr i) =
    let c = in_contains xs a i in let h : c.0 < length xs = c.1 in (suc c.0, omega (arith, h), c.2)

pub in_behind : (xs : List ℕ) (x a : ℕ) → In a (xs ++ x ∷ []) → In a xs ⊎ (x ≡ a)
in_behind [] x a (inl e) = inr e
in_behind [] x a (inr i) = absurd i
in_behind (y ∷ xs) x a (inl e) = inl (inl e)
in_behind (y ∷ xs) x a (inr i) = elim (in_behind xs x a i) [ inl j ↦ inl (inr j) | inr e ↦ inr e ]

pub same_or_not : (a b : ℕ) → (a ≡ b) ⊎ ((a ≡ b) → ⊥)
same_or_not zero zero = inl refl
same_or_not zero (suc b) = inr (λ e. absurd (omega (arith, e)))
same_or_not (suc a) zero = inr (λ e. absurd (omega (arith, e)))
same_or_not (suc a) (suc b) =
    elim (same_or_not a b) [ inl e ↦ inl (ap suc e) | inr n ↦ inr (λ e. n (omega (arith, e))) ]

pub below_or_above : (a b : ℕ) → (a < b) ⊎ (b ≤ a)
below_or_above a b = grind arith

abbrev Without : ℕ → List ℕ → Type 0
Without n xs = (ys : List ℕ) × (length xs ≡ suc (length ys)) × ((x : ℕ) → (n ≡ x → ⊥) → In x xs → In x ys)

without : (n : ℕ) (xs : List ℕ) → In n xs → Without n xs
without n [] a = absurd a
without n (y ∷ ys) (inl e) = (ys, refl, λ x other a. elim a [ inl f ↦ absurd (other (sym e ∙ f)) | inr b ↦ b ])
without n (y ∷ ys) (inr b) =
    let w = without n ys b in
    (y ∷ w.0, ap suc w.1, λ x other a. elim a [ inl f ↦ inl f | inr c ↦ inr (w.2 x other c) ])

-- a list of all numbers below n has no fewer than n
full : (n : ℕ) (xs : List ℕ) → ((a : ℕ) → a < n → In a xs) → n ≤ length xs
full zero xs all = omega arith
full (suc n) xs all =
    let w = without n xs (all n (omega arith)) in
    let h : n ≤ length w.0 =
    full n w.0 (λ a lt. w.2 a (λ e. absurd (omega (arith, e, lt))) (all a (omega (arith, lt)))) in
    let k : length xs ≡ suc (length w.0) = w.1 in
    omega (arith, h, k)

-- and where it has n, it has no others
none_outside : (n : ℕ) (xs : List ℕ) (k : ℕ) → length xs ≡ n → ((a : ℕ) → a < n → In a xs) → In k xs → k < n
none_outside n xs k many all there = elim (below_or_above k n) [
  | inl below ↦ below
  | inr above ↦
      let w = without k xs there in
      let h : n ≤ length w.0 = full n w.0 (λ a lt. w.2 a (λ e. absurd (omega (arith, e, lt, above))) (all a lt)) in
      let l : length xs ≡ suc (length w.0) = w.1 in
      absurd (omega (arith, h, l, many))
]

-- SPLITS

pub split_at : {X : Type 0} (xs : List X) (i : ℕ) (d : X) → i < length xs →
    xs ≡ take i xs ++ get_or xs i d ∷ drop (suc i) xs
split_at [] i d inside = absurd (omega (arith, inside))
split_at (x ∷ xs) zero d inside = refl
split_at (x ∷ xs) (suc i) d inside = ap (λ (ys : List _). x ∷ ys) (split_at xs i d (omega (arith, inside)))

pub stands_at : {X : Type 0} (xs : List X) (i : ℕ) (d : X) → i < length xs → Stands (get_or xs i d) xs
stands_at xs i d inside = (take i xs, drop (suc i) xs, split_at xs i d inside)

-- EDGES

pub edge_below : (edges : Edges) (a b : ℕ) → HasEdge edges a b → a < length edges
edge_below [] a b (k, inside, is) = absurd (omega (arith, inside))
edge_below (e ∷ es) zero b h = omega arith
edge_below (e ∷ es) (suc a) b h = let r : a < length es = edge_below es a b h in omega (arith, r)

leads_on : (edges : Edges) (a : ℕ) (bs : List ℕ) (x y : ℕ) → Leads edges a bs x → HasEdge edges x y →
    Leads edges a (bs ++ x ∷ []) y
leads_on edges a [] x y leads edge = (leads, edge)
leads_on edges a (b ∷ bs) x y leads edge = (leads.0, leads_on edges b bs x y leads.1 edge)

pub starts_below : (edges : Edges) (a : ℕ) → IsOnCycle edges a → a < length edges
starts_below edges a ([], edge) = edge_below edges a a edge
starts_below edges a (b ∷ bs, leads) = edge_below edges a b leads.0

module _ (edges : Edges) (order : List ℕ) (is : IsOrder edges order) where
  -- nothing stands in an order but nodes
  pub order_below : (i d : ℕ) → i < length order → get_or order i d < length edges
  order_below i d inside =
      none_outside (length edges) order (get_or order i d) is.many (λ a lt. contains_in order a (is.each a lt))
      (contains_in order (get_or order i d) (i, inside, same order i d inside))
    where
      same : (xs : List ℕ) (i d : ℕ) → i < length xs → get_or xs i (get_or xs i d) ≡ get_or xs i d
      same [] i d inside = refl
      same (x ∷ xs) zero d inside = refl
      same (x ∷ xs) (suc i) d inside = same xs i d (omega (arith, inside))

  edge_back : (n a b : ℕ) → n < length order → get_or order n 0 ≡ a → HasEdge edges a b → In b (take n order)
  edge_back n a b inside at edge =
      contains_in (take n order) b
      (is.behind (take n order) (drop (suc n) order) a b
      (split_at order n 0 inside ∙ ap (λ (x : ℕ). take n order ++ x ∷ drop (suc n) order) at) edge)

  on_cycle : (n a : ℕ) → n < length order → get_or order n 0 ≡ a →
      ((b : ℕ) → In b (take n order) → IsOnCycle edges b → ⊥) → IsOnCycle edges a → ⊥
  on_cycle n a inside at none ([], edge) = none a (edge_back n a a inside at edge) ([], edge)
  on_cycle n a inside at none (b ∷ bs, leads) =
      none b (edge_back n a b inside at leads.0) (bs ++ a ∷ [], leads_on edges b bs a b leads.1 leads.0)

  none_within : (n : ℕ) → n ≤ length order → (a : ℕ) → In a (take n order) → IsOnCycle edges a → ⊥
  none_within zero h a there cycle = there
  none_within (suc n) h a there cycle =
      let inside : n < length order = omega (arith, h) in
      elim (in_behind (take n order) (get_or order n 0) a (subst (In a) (take-suc order n 0 inside) there)) [
        | inl before ↦ none_within n (omega (arith, h)) a before cycle
        | inr here ↦ on_cycle n a inside here (λ b i c. none_within n (omega (arith, h)) b i c) cycle
      ]

  -- no node is on a cycle
  pub no_cycle : (a : ℕ) → IsOnCycle edges a → ⊥
  no_cycle a cycle =
      none_within (length order) (omega arith) a
      (subst (In a) (sym (take_all (length order) order (omega arith)))
      (contains_in order a (is.each a (starts_below edges a cycle)))) cycle
