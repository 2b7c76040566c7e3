-- Whether an item of a list has a property, item by item, and items by their numbers.
use Rattle.std.proofs.Common.{map, ◌≡◌, ◌<◌, ◌≤◌, ◌+◌, ◌++◌, ℕ, zero, suc, List, [], ◌∷◌, ◌⊎◌, inl, inr, length, take}
use Rattle.std.proofs.Common.{slice_index_or, slice_get, Option, Some, refl, sym, ap, ◌∙◌, subst, arith}
use Rattle.std.proofs.lemmas.List.{append_assoc, map-append, take_all, take_more}
use Rattle.ds_shape.specs.Types.{Stands}

-- some item of the list has the property
abbrev pub AnyIn : {X : Type 0} → (X → Type 0) → List X → Type 0
AnyIn {X} P xs = (x : X) × Stands x xs × P x

pub some_is : {X : Type 0} (x y : X) → ◌≡◌ {A = Option X} (Some x) (Some y) → x ≡ y
some_is x y e = cc

module _ {X : Type 0} where
  pub stands_at : (xs : List X) (i : ℕ) (x : X) → slice_get xs i ≡ Some x → Stands x xs
  stands_at [] i x e = cc
  stands_at (z ∷ xs) zero x e = ([], xs, cc)
  stands_at (z ∷ xs) (suc i) x e = let s : Stands x xs = stands_at xs i x e in (z ∷ s.0, s.1, ap (λ l. z ∷ l) s.2)

  at_middle : (before after : List X) (x : X) → slice_get (before ++ x ∷ after) (length before) ≡ Some x
  at_middle [] after x = refl
  at_middle (z ∷ before) after x = at_middle before after x

  pub number_of : (xs : List X) (x : X) → Stands x xs → (i : ℕ) × (slice_get xs i ≡ Some x)
  number_of xs x s = (length s.0, subst (λ l. slice_get l (length s.0) ≡ Some x) (sym s.2) (at_middle s.0 s.1 x))

  pub item_at : (xs : List X) (i : ℕ) (x : X) → slice_get xs i ≡ Some x → x ≡ slice_index_or xs i x
  item_at [] i x e = cc
  item_at (z ∷ xs) zero x e = cc
  item_at (z ∷ xs) (suc i) x e = item_at xs i x e

  pub got_at : (xs : List X) (i : ℕ) (x : X) → i < length xs → x ≡ slice_index_or xs i x → slice_get xs i ≡ Some x
  got_at [] i x h e = absurd (omega (arith, h))
  got_at (z ∷ xs) zero x h e = cc
  got_at (z ∷ xs) (suc i) x h e = got_at xs i x (omega (arith, h)) e

  pub there_is : (xs : List X) (i : ℕ) → i < length xs → (x : X) × (slice_get xs i ≡ Some x)
  there_is [] i h = absurd (omega (arith, h))
  there_is (z ∷ xs) zero h = (z, refl)
  there_is (z ∷ xs) (suc i) h = there_is xs i (omega (arith, h))

  before_or_last : (xs : List X) (x z : X) (i : ℕ) → slice_get (xs ++ x ∷ []) i ≡ Some z
      → (slice_get xs i ≡ Some z) ⊎ (x ≡ z)
  before_or_last [] x z zero e = inr cc
  before_or_last [] x z (suc i) e = cc
  before_or_last (y ∷ xs) x z zero e = inl e
  before_or_last (y ∷ xs) x z (suc i) e = before_or_last xs x z i e

  pub stands_more : (xs ys : List X) (x : X) → Stands x xs → Stands x (xs ++ ys)
  stands_more xs ys x s = (s.0, s.1 ++ ys, ap (λ l. l ++ ys) s.2 ∙ append_assoc s.0 (x ∷ s.1) ys)

  pub stands_last : (xs : List X) (x z : X) → Stands z (xs ++ x ∷ []) → Stands z xs ⊎ (x ≡ z)
  stands_last xs x z s = let n : (i : ℕ) × (slice_get (xs ++ x ∷ []) i ≡ Some z) = number_of (xs ++ x ∷ []) z s in
      either n.0 (before_or_last xs x z n.0 n.1)
    where
      either : (i : ℕ) → (slice_get xs i ≡ Some z) ⊎ (x ≡ z) → Stands z xs ⊎ (x ≡ z)
      either i (inl e) = inl (stands_at xs i z e)
      either i (inr e) = inr e

  pub none_first : (xs : List X) (x : X) → Stands x (take 0 xs) → ⊥
  none_first xs x s =
      let n : (i : ℕ) × (slice_get (take 0 xs) i ≡ Some x) = number_of (take 0 xs) x s in nothing n.0 n.1
    where
      nothing : (i : ℕ) → slice_get (take 0 xs) i ≡ Some x → ⊥
      nothing i e = cc

  module _ (P : X → Type 0) where
    pub none_yet : (xs : List X) → AnyIn P (take 0 xs) → ⊥
    none_yet xs a = none_first xs a.0 a.1

    -- one item more
    pub one_more : (xs : List X) (i : ℕ) (x : X) → i < length xs → x ≡ slice_index_or xs i x
        → (AnyIn P (take (i + 1) xs) → AnyIn P (take i xs) ⊎ P x)
        × (AnyIn P (take i xs) ⊎ P x → AnyIn P (take (i + 1) xs))
    one_more xs i x h is = (λ a. split (subst (AnyIn P) next a), λ o. subst (AnyIn P) (sym next) (joined o))
      where
        next : take (i + 1) xs ≡ take i xs ++ x ∷ []
        next = take_more xs i x h ∙ ap (λ y. take i xs ++ y ∷ []) (sym is)

        split : AnyIn P (take i xs ++ x ∷ []) → AnyIn P (take i xs) ⊎ P x
        split a =
            let n : (k : ℕ) × (slice_get (take i xs ++ x ∷ []) k ≡ Some a.0) =
            number_of (take i xs ++ x ∷ []) a.0 a.1 in
            either n.0 (before_or_last (take i xs) x a.0 n.0 n.1)
          where
            either : (k : ℕ) → (slice_get (take i xs) k ≡ Some a.0) ⊎ (x ≡ a.0) → AnyIn P (take i xs) ⊎ P x
            either k (inl e) = inl (a.0, stands_at (take i xs) k a.0 e, a.2)
            either k (inr e) = inr (subst P (sym e) a.2)

        joined : AnyIn P (take i xs) ⊎ P x → AnyIn P (take i xs ++ x ∷ [])
        joined (inl a) = (a.0, stands_more (take i xs) (x ∷ []) a.0 a.1, a.2)
        joined (inr p) = (x, (take i xs, [], refl), p)

    -- all items
    pub of_all : (xs : List X) (i : ℕ) → length xs ≤ i → (AnyIn P (take i xs) → AnyIn P xs)
        × (AnyIn P xs → AnyIn P (take i xs))
    of_all xs i h = (subst (AnyIn P) (take_all i xs h), subst (AnyIn P) (sym (take_all i xs h)))

-- MAPPED

pub stands_map : {A B : Type 0} (f : A → B) (xs : List A) (x : A) → Stands x xs → Stands (f x) (map f xs)
stands_map f xs x s = (map f s.0, map f s.1, ap (map f) s.2 ∙ map-append f s.0 (x ∷ s.1))

mapped_at : {A B : Type 0} (f : A → B) (xs : List A) (i : ℕ) (y : B) → slice_get (map f xs) i ≡ Some y
    → (x : A) × (slice_get xs i ≡ Some x) × (f x ≡ y)
mapped_at f [] i y e = cc
mapped_at f (x ∷ xs) zero y e = (x, refl, cc)
mapped_at f (x ∷ xs) (suc i) y e = mapped_at f xs i y e

pub stands_mapped : {A B : Type 0} (f : A → B) (xs : List A) (y : B) → Stands y (map f xs)
    → (x : A) × Stands x xs × (f x ≡ y)
stands_mapped f xs y s =
    let n : (i : ℕ) × (slice_get (map f xs) i ≡ Some y) = number_of (map f xs) y s in
    let m = mapped_at f xs n.0 y n.1 in
    (m.0, stands_at xs n.0 m.0 m.1, m.2)
