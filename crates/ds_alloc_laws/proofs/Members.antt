-- Filters of a list of places, and what holds of each place of a class.
use Rattle.std.proofs.Common.{◌≡◌, ℕ, zero, suc, ◌+◌, ◌<◌, ◌≤◌, Bool, true, false, ◌&&◌, cond}
use Rattle.std.proofs.Common.{List, [], ◌∷◌, ◌++◌, map, ◌⊎◌, inl, inr, refl, sym, ap, ◌∙◌, subst, arith}
use Rattle.std.proofs.lemmas.Bool.{agree_below_at, leb-true, ltb-true}
use Rattle.std.specs.Prelude.{nat_le, nat_lt}
use Rattle.std.specs.List.{filter, flat_map, range_with_len, AllByRecursion as Each}
use Rattle.ds_map.specs.Bounds.{Bounds}
use Rattle.ds_map.specs.Blocks.{class_blocks, place_of, page_of, index_of, places_of_class}
use Rattle.ds_plain.specs.Reached.{IsPlace}

-- FILTERS

module _ (p : ℕ → Bool) where
  pub all_kept : (xs : List ℕ) → Each (λ x. p x ≡ true) xs → filter p xs ≡ xs
  all_kept [] each = refl
  all_kept (x ∷ xs) each = rw each.0 (ap (λ (ys : List ℕ). x ∷ ys) (all_kept xs each.1))

  pub none_kept : (xs : List ℕ) → Each (λ x. p x ≡ false) xs → filter p xs ≡ []
  none_kept [] each = refl
  none_kept (x ∷ xs) each = rw each.0 (none_kept xs each.1)

  refused_first : (x : ℕ) (xs : List ℕ) (b : Bool) → cond b (x ∷ filter p xs) (filter p xs) ≡ []
      → (b ≡ false) × (filter p xs ≡ [])
  refused_first x xs true none = absurd (cc (none))
  refused_first x xs false none = (refl, none)

  -- where a filter keeps nothing, each test fails
  pub each_refused : (xs : List ℕ) → filter p xs ≡ [] → Each (λ x. p x ≡ false) xs
  each_refused [] none = tt
  each_refused (x ∷ xs) none =
      let first = refused_first x xs (p x) none in (first.0, each_refused xs first.1)

  module _ (q : ℕ → Bool) where
    kept_first : (x : ℕ) (xs : List ℕ) (b : Bool) → filter q (filter p xs) ≡ filter (λ y. p y && q y) xs
        → filter q (cond b (x ∷ filter p xs) (filter p xs))
        ≡ cond (b && q x) (x ∷ filter (λ y. p y && q y) xs) (filter (λ y. p y && q y) xs)
    kept_first x xs true same = ap (λ (ys : List ℕ). cond (q x) (x ∷ ys) ys) same
    kept_first x xs false same = same

    -- a filter behind another one keeps what passes both
    both_kept : (xs : List ℕ) → filter q (filter p xs) ≡ filter (λ x. p x && q x) xs
    both_kept [] = refl
    both_kept (x ∷ xs) = kept_first x xs (p x) (both_kept xs)

    -- two tests that agree at each element of a list keep the same ones of it
    pub same_kept : (xs : List ℕ) → Each (λ x. p x ≡ q x) xs → filter p xs ≡ filter q xs
    same_kept [] each = refl
    same_kept (x ∷ xs) each =
        ap (λ (b : Bool). cond b (x ∷ filter p xs) (filter p xs)) each.0
        ∙ ap (λ (ys : List ℕ). cond (q x) (x ∷ ys) ys) (same_kept xs each.1)

-- what a second filter leaves of a first one, by the test that says so
pub left_kept : (p q r : ℕ → Bool) (xs : List ℕ) → Each (λ x. (p x && q x) ≡ r x) xs
    → filter q (filter p xs) ≡ filter r xs
left_kept p q r xs each = both_kept p q xs ∙ same_kept (λ x. p x && q x) r xs each

-- EACH MEMBER: lists joined, counted up and mapped

le_cases : (a k : ℕ) → a ≤ k → (a ≡ k) ⊎ (a < k)
le_cases a k le = grind arith

module _ (P : ℕ → Type 0) where
  append_each : (xs ys : List ℕ) → Each P xs → Each P ys → Each P (xs ++ ys)
  append_each [] ys each more = more
  append_each (x ∷ xs) ys each more = (each.0, append_each xs ys each.1 more)

  append_parts : (xs ys : List ℕ) → Each P (xs ++ ys) → Each P xs × Each P ys
  append_parts [] ys each = (tt, each)
  append_parts (x ∷ xs) ys each =
      let parts = append_parts xs ys each.1 in ((each.0, parts.0), parts.1)

  range_each : (a n : ℕ) → ((k : ℕ) → a ≤ k → k < a + n → P k) → Each P (range_with_len a n)
  range_each a zero each = tt
  range_each a (suc n) each = (
    each a (omega arith) (omega arith),
    range_each (a + 1) n (λ k low high. each k (omega arith) (omega arith)),
  )

  range_from : (a k : ℕ) → P a → (a < k → P k) → (a ≡ k) ⊎ (a < k) → P k
  range_from a k here more (inl same) = subst P same here
  range_from a k here more (inr lt) = more lt

  range_at : (a n : ℕ) → Each P (range_with_len a n) → (k : ℕ) → a ≤ k → k < a + n → P k
  range_at a zero each k low high = absurd (omega arith)
  range_at a (suc n) each k low high =
      range_from a k each.0 (λ lt. range_at (a + 1) n each.1 k (omega arith) (omega arith)) (le_cases a k low)

  map_each : (f : ℕ → ℕ) (ys : List ℕ) → Each (λ y. P (f y)) ys → Each P (map f ys)
  map_each f [] each = tt
  map_each f (y ∷ ys) each = (each.0, map_each f ys each.1)

  map_parts : (f : ℕ → ℕ) (ys : List ℕ) → Each P (map f ys) → Each (λ y. P (f y)) ys
  map_parts f [] each = tt
  map_parts f (y ∷ ys) each = (each.0, map_parts f ys each.1)

  flat_each : (f : ℕ → List ℕ) (xs : List ℕ) → Each (λ x. Each P (f x)) xs → Each P (flat_map f xs)
  flat_each f [] each = tt
  flat_each f (x ∷ xs) each = append_each (f x) (flat_map f xs) each.0 (flat_each f xs each.1)

  flat_parts : (f : ℕ → List ℕ) (xs : List ℕ) → Each P (flat_map f xs) → Each (λ x. Each P (f x)) xs
  flat_parts f [] each = tt
  flat_parts f (x ∷ xs) each =
      let parts = append_parts (f x) (flat_map f xs) each in (parts.0, flat_parts f xs parts.1)

-- THE PLACES OF A CLASS

-- a page has at most 256 blocks
pub few_blocks : (class : ℕ) → class < 15 → class_blocks class ≤ 256
few_blocks class lt =
    leb-true (class_blocks class) 256
    (agree_below_at (λ c. nat_le (class_blocks c) 256) (λ c. true) 15 class refl lt)

-- and at least one
pub some_block : (class : ℕ) → class < 15 → 0 < class_blocks class
some_block class lt = ltb-true 0 (class_blocks class)
    (agree_below_at (λ c. nat_lt 0 (class_blocks c)) (λ c. true) 15 class refl lt)

pub page_of_place : (page index : ℕ) → index < 256 → page_of (place_of page index) ≡ page
page_of_place page index lt = omega arith

pub index_of_place : (page index : ℕ) → index < 256 → index_of (place_of page index) ≡ index
index_of_place page index lt = omega arith

place_again : (place : ℕ) → place_of (page_of place) (index_of place) ≡ place
place_again place = omega arith

-- the block of this index in a page is at a place of the class
pub is_place : (lim : Bounds) (class page index : ℕ) → class < 15 → page < lim.pages → index < class_blocks class
    → IsPlace lim class (place_of page index)
is_place lim class page index known within lt =
    let few = few_blocks class known in
    let low : index < 256 = omega arith in
    record {
      class_is = known;
      page = subst (λ p. p < lim.pages) (sym (page_of_place page index low)) within;
      index = subst (λ i. i < class_blocks class) (sym (index_of_place page index low)) lt;
    }

module _ (P : ℕ → Type 0) (lim : Bounds) (class : ℕ) where
  -- the indices of a page of the class, and the places in such a page
  abbrev indices : List ℕ
  indices = range_with_len 0 (class_blocks class)

  abbrev places : ℕ → List ℕ
  places page = map (λ (index : ℕ). place_of page index) indices

  -- what holds of each place of the class holds of each in the list of them
  pub places_each : class < 15 → ((place : ℕ) → IsPlace lim class place → P place)
      → Each P (places_of_class lim class)
  places_each known each =
      flat_each P places (range_with_len 0 lim.pages)
      (range_each (λ (page : ℕ). Each P (places page)) 0 lim.pages (λ page low within.
      map_each P (λ (index : ℕ). place_of page index) indices
      (range_each (λ (index : ℕ). P (place_of page index)) 0 (class_blocks class) (λ index least lt.
      each (place_of page index) (is_place lim class page index known (omega arith) (omega arith))))))

  -- and what holds of each in the list holds of each place of the class
  pub places_at : Each P (places_of_class lim class) → (place : ℕ) → IsPlace lim class place → P place
  places_at each place is =
      let page = page_of place in
      let index = index_of place in
      let here = range_at (λ (page : ℕ). Each P (places page)) 0 lim.pages
      (flat_parts P places (range_with_len 0 lim.pages) each) page (omega arith) (omega (arith, is.page)) in
      let blocks = map_parts P (λ (index : ℕ). place_of page index) indices here in
      subst P (place_again place) (range_at (λ (index : ℕ). P (place_of page index)) 0 (class_blocks class) blocks
      index (omega arith) (omega (arith, is.index)))
