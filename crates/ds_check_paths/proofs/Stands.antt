-- Items of lists, and their numbers.
use Rattle.std.proofs.Common.{◌≡◌, ◌<◌, ℕ, zero, suc, List, [], ◌∷◌, ◌++◌, ◌⊎◌, inl, inr, length, take, Contains, Some}
use Rattle.std.proofs.Common.{refl, sym, ap, ◌∙◌, subst, slice_get, arith}
use Rattle.std.proofs.lemmas.List.Elements.{Contains-push_cases, Contains-append_right, Contains-append_cases}
use Rattle.ds_shape.specs.Types.{Stands}

module _ {X : Type 0} where
  pub stands_first : (x : X) (xs : List X) → Stands x (x ∷ xs)
  stands_first x xs = ([], xs, refl)

  pub stands_later : (x y : X) (xs : List X) → Stands x xs → Stands x (y ∷ xs)
  stands_later x y xs s = (y ∷ s.0, s.1, ap (λ l. y ∷ l) s.2)

  first_or_later : (x y : X) (xs before after : List X) → y ∷ xs ≡ before ++ x ∷ after → (x ≡ y) ⊎ Stands x xs
  first_or_later x y xs [] after e = inl cc
  first_or_later x y xs (z ∷ before) after e = inr (before, after, cc)

  pub stands_cases : (x y : X) (xs : List X) → Stands x (y ∷ xs) → (x ≡ y) ⊎ Stands x xs
  stands_cases x y xs s = first_or_later x y xs s.0 s.1 s.2

  none_before : (x : X) (before after : List X) → [] ≡ before ++ x ∷ after → ⊥
  none_before x [] after e = cc
  none_before x (z ∷ before) after e = cc

  pub none_stands : (x : X) → Stands x [] → ⊥
  none_stands x s = none_before x s.0 s.1 s.2

  pub stands_at : (xs : List X) (i : ℕ) (x : X) → slice_get xs i ≡ Some x → Stands x xs
  stands_at [] i x e = cc
  stands_at (z ∷ xs) zero x e = ([], xs, cc)
  stands_at (z ∷ xs) (suc i) x e = stands_later x z xs (stands_at xs i x e)

  at_middle : (before after : List X) (x : X) → slice_get (before ++ x ∷ after) (length before) ≡ Some x
  at_middle [] after x = refl
  at_middle (z ∷ before) after x = at_middle before after x

  pub number_of : (xs : List X) (x : X) → Stands x xs → (i : ℕ) × (slice_get xs i ≡ Some x)
  number_of xs x s = (length s.0, subst (λ l. slice_get l (length s.0) ≡ Some x) (sym s.2) (at_middle s.0 s.1 x))

  -- below the length there is an item
  pub item_at : (xs : List X) (i : ℕ) → i < length xs → (x : X) × (slice_get xs i ≡ Some x)
  item_at [] i low = absurd (omega (arith, low))
  item_at (x ∷ xs) zero low = (x, refl)
  item_at (x ∷ xs) (suc i) low = item_at xs i (omega (arith, low))

  pub one_item : (xs : List X) (i : ℕ) (x y : X) → slice_get xs i ≡ Some x → slice_get xs i ≡ Some y → x ≡ y
  one_item xs i x y a b = let same : Some x ≡ Some y = sym a ∙ b in cc

  -- the first items
  pub in_front : (n : ℕ) (xs : List X) (k : ℕ) (x : X) → slice_get (take n xs) k ≡ Some x
      → (k < n) × (slice_get xs k ≡ Some x)
  in_front zero xs k x e = absurd cc
  in_front (suc n) [] k x e = absurd cc
  in_front (suc n) (y ∷ xs) zero x e = (omega arith, e)
  in_front (suc n) (y ∷ xs) (suc k) x e =
      let r : (k < n) × (slice_get xs k ≡ Some x) = in_front n xs k x e in (omega (arith, r.0), r.1)

  pub to_front : (n : ℕ) (xs : List X) (k : ℕ) (x : X) → k < n → slice_get xs k ≡ Some x
      → slice_get (take n xs) k ≡ Some x
  to_front zero xs k x low e = absurd (omega (arith, low))
  to_front (suc n) [] k x low e = absurd cc
  to_front (suc n) (y ∷ xs) zero x low e = e
  to_front (suc n) (y ∷ xs) (suc k) x low e = to_front n xs k x (omega (arith, low)) e

-- NUMBERS

pub contains_first : (n : ℕ) (ns : List ℕ) → Contains (n ∷ ns) n
contains_first n ns = (0, omega arith, refl)

pub contains_later : (n m : ℕ) (ns : List ℕ) → Contains ns m → Contains (n ∷ ns) m
contains_later n m ns h = Contains-append_right (n ∷ []) ns m h

pub none_contained : (m : ℕ) → Contains {X = ℕ} [] m → ⊥
none_contained m h = omega (arith, h.1)

one_contained : (n m : ℕ) → Contains (n ∷ []) m → n ≡ m
one_contained n m h =
    elim (Contains-push_cases [] n m h) [ inl none ↦ absurd (none_contained m none) | inr same ↦ same ]

pub contains_cases : (n m : ℕ) (ns : List ℕ) → Contains (n ∷ ns) m → (n ≡ m) ⊎ Contains ns m
contains_cases n m ns h = elim (Contains-append_cases (n ∷ []) ns m h) as (λ _. (n ≡ m) ⊎ Contains ns m) [
  | inl first ↦ inl (one_contained n m first)
  | inr later ↦ inr later
]
