-- Two lists, item by item.
use Rattle.std.proofs.Common.{◌≡◌, ◌↔◌, IsTrue, Bool, true, false, true≢false, sym, ◌∙◌, subst, subst₂, ◌⊎◌, inl, inr}
use Rattle.std.proofs.Common.{ℕ, ◌<◌, ◌+◌, zero, suc, List, [], ◌∷◌, length, get_or, slice_get, Some, refl, ap, arith}
use Rattle.std.specs.List.{AllZip}
use Rattle.std.specs.Option.{unwrap_or}
use Rattle.std.proofs.lemmas.Option.{slice_get_within, slice_get-get_or}

below_or_at : (k i : ℕ) → k < i + 1 → (k < i) ⊎ (k ≡ i)
below_or_at zero zero below = inr refl
below_or_at zero (suc i) below = inl (omega arith)
below_or_at (suc k) zero below = absurd (omega (arith, below))
below_or_at (suc k) (suc i) below = next (below_or_at k i (omega (arith, below)))
  where
    next : (k < i) ⊎ (k ≡ i) → (suc k < suc i) ⊎ (suc k ≡ suc i)
    next (inl less) = inl (omega (arith, less))
    next (inr same) = inr (ap (λ n. suc n) same)

-- a place that is there has one item
get_or-any : {X : Type 0} (xs : List X) (i : ℕ) (d e : X) → i < length xs → get_or xs i d ≡ get_or xs i e
get_or-any [] i d e in_range = absurd (omega (arith, in_range))
get_or-any (x ∷ xs) zero d e in_range = refl
get_or-any (x ∷ xs) (suc i) d e in_range = get_or-any xs i d e (omega (arith, in_range))

-- the item that is got stands at the place
got : {X : Type 0} (xs : List X) (i : ℕ) (x : X) → slice_get xs i ≡ Some x → get_or xs i x ≡ x
got xs i x is = ap (λ o. unwrap_or o x) (sym (slice_get-get_or xs i x (slice_get_within xs i x is)) ∙ is)

-- both lists have as many items, and the relation holds of the two at each place
abbrev pub AreEach : {A B : Type 0} → (ℕ → A → B → Type 0) → List A → List B → Type 0
AreEach {A} {B} P xs ys =
    (length xs ≡ length ys) × ((n : ℕ) (x : A) (y : B) → slice_get xs n ≡ Some x → slice_get ys n ≡ Some y → P n x y)

module _ {A B : Type 0} (P : ℕ → A → B → Type 0) where
  -- they are pairs where each is
  pub all_pairs : (xs : List A) (ys : List B) → length xs ≡ length ys
      → ((k : ℕ) (d : A) (e : B) → k < length xs → P k (get_or xs k d) (get_or ys k e)) → AreEach P xs ys
  all_pairs xs ys same each = (
    same,
    λ n x y at there. subst₂ (P n) (got xs n x at) (got ys n y there)
        (each n x y (slice_get_within xs n x at)),
  )

  -- the one at a place is none
  pub apart_at : (xs : List A) (ys : List B) (i : ℕ) (x : A) (y : B) (b : Bool) → i < length xs → length xs ≡ length ys
      → x ≡ get_or xs i x → y ≡ get_or ys i y → (IsTrue b ↔ P i x y) → b ≡ false
      → IsTrue false ↔ AreEach P xs ys
  apart_at xs ys i x y b in_range same x_is y_is fits b_no = (
    λ t. absurd (true≢false (sym t)),
    λ each.
        let at : slice_get xs i ≡ Some x = slice_get-get_or xs i x in_range ∙ ap Some (sym x_is) in
        let there : slice_get ys i ≡ Some y = slice_get-get_or ys i y (subst (λ n. i < n) same in_range)
        ∙ ap Some (sym y_is) in
        absurd (true≢false (sym (fits.1 (each.1 i x y at there)) ∙ b_no)),
  )

  at_last : (xs : List A) (ys : List B) (i k : ℕ) (x d : A) (y e : B) → i < length xs → length xs ≡ length ys
      → x ≡ get_or xs i x → y ≡ get_or ys i y → P i x y → k ≡ i
      → P k (get_or xs k d) (get_or ys k e)
  at_last xs ys i k x d y e in_range same x_is y_is fits here =
      subst (λ j. P j (get_or xs j d) (get_or ys j e)) (sym here)
      (subst₂ (P i) (x_is ∙ get_or-any xs i x d in_range)
      (y_is ∙ get_or-any ys i y e (subst (λ n. i < n) same in_range)) fits)

  split : (xs : List A) (ys : List B) (i k : ℕ) (x d : A) (y e : B) → i < length xs → length xs ≡ length ys
      → x ≡ get_or xs i x → y ≡ get_or ys i y → P i x y
      → ((k : ℕ) (d : A) (e : B) → k < i → P k (get_or xs k d) (get_or ys k e)) → (k < i) ⊎ (k ≡ i)
      → P k (get_or xs k d) (get_or ys k e)
  split xs ys i k x d y e in_range same x_is y_is fits before (inl below) = before k d e below
  split xs ys i k x d y e in_range same x_is y_is fits before (inr here) =
      at_last xs ys i k x d y e in_range same x_is y_is fits here

  -- one pair more
  pub one_pair_more : (xs : List A) (ys : List B) (i : ℕ) (x : A) (y : B) (b : Bool) → i < length xs
      → length xs ≡ length ys → x ≡ get_or xs i x → y ≡ get_or ys i y → (IsTrue b ↔ P i x y) → b ≡ true
      → ((k : ℕ) (d : A) (e : B) → k < i → P k (get_or xs k d) (get_or ys k e)) → (k : ℕ) (d : A) (e : B) → k < i + 1
      → P k (get_or xs k d) (get_or ys k e)
  one_pair_more xs ys i x y b in_range same x_is y_is fits b_yes before k d e below =
      split xs ys i k x d y e in_range same x_is y_is (fits.0 b_yes) before (below_or_at k i below)

module _ {A B : Type 0} (R : A → B → Type 0) where
  abbrev pub AtAny : ℕ → A → B → Type 0
  AtAny n x y = R x y

  pub same_lengths : (xs : List A) (ys : List B) → AllZip R xs ys → length xs ≡ length ys
  same_lengths [] [] pairs = refl
  same_lengths [] (y ∷ ys) pairs = absurd pairs
  same_lengths (x ∷ xs) [] pairs = absurd pairs
  same_lengths (x ∷ xs) (y ∷ ys) pairs = ap (λ n. suc n) (same_lengths xs ys pairs.1)

  first_or_later : (x : A) (xs : List A) (y : B) (ys : List B) → R x y
      → ((n : ℕ) (v : A) (w : B) → slice_get xs n ≡ Some v → slice_get ys n ≡ Some w → R v w)
      → (n : ℕ) (v : A) (w : B) → slice_get (x ∷ xs) n ≡ Some v → slice_get (y ∷ ys) n ≡ Some w → R v w
  first_or_later x xs y ys first later zero v w at there =
      let e : x ≡ v = cc in let s : y ≡ w = cc in subst₂ R e s first
  first_or_later x xs y ys first later (suc n) v w at there = later n v w at there

  -- each pair of two lists that go together is one
  pub each_zipped : (xs : List A) (ys : List B) → AllZip R xs ys → AreEach AtAny xs ys
  each_zipped [] [] pairs = (refl, λ n x y at there. absurd cc)
  each_zipped [] (y ∷ ys) pairs = absurd pairs
  each_zipped (x ∷ xs) [] pairs = absurd pairs
  each_zipped (x ∷ xs) (y ∷ ys) pairs =
      (ap (λ n. suc n) (same_lengths xs ys pairs.1), first_or_later x xs y ys pairs.0 (each_zipped xs ys pairs.1).1)

  -- and they go together where each is
  pub all_zipped : (xs : List A) (ys : List B) → AreEach AtAny xs ys → AllZip R xs ys
  all_zipped [] [] each = tt
  all_zipped [] (y ∷ ys) each = let same : 0 ≡ suc (length ys) = each.0 in absurd (omega (arith, same))
  all_zipped (x ∷ xs) [] each = let same : suc (length xs) ≡ 0 = each.0 in absurd (omega (arith, same))
  all_zipped (x ∷ xs) (y ∷ ys) each =
      let same : suc (length xs) ≡ suc (length ys) = each.0 in
      (each.1 0 x y refl refl, all_zipped xs ys (omega (arith, same), λ n v w at there. each.1 (suc n) v w at there))

  pub zipped : (xs : List A) (ys : List B) (b : Bool) → (IsTrue b ↔ AreEach AtAny xs ys) → IsTrue b ↔ AllZip R xs ys
  zipped xs ys b fits = (λ t. all_zipped xs ys (fits.0 t), λ pairs. fits.1 (each_zipped xs ys pairs))
