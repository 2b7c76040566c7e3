-- Items of lists.
use Rattle.std.proofs.Common.{◌≡◌, ℕ, zero, suc, ◌<◌, List, [], ◌∷◌, ◌++◌}
use Rattle.std.proofs.Common.{length, map, take, Some, slice_get, ◌⊎◌, inl, inr}
use Rattle.std.proofs.Common.{refl, ap, sym, ◌∙◌, subst, arith, append_assoc}
use Rattle.std.specs.Prelude.{flat_map}
use Rattle.ds_shape.specs.Types.{Stands}

-- WHERE ITEMS STAND

pub stands_head : {A : Type 0} (x : A) (xs : List A) → Stands x (x ∷ xs)
stands_head x xs = ([], xs, refl)

pub stands_tail : {A : Type 0} (x y : A) (xs : List A) → Stands x xs → Stands x (y ∷ xs)
stands_tail x y xs s = (y ∷ s.0, s.1, ap (λ zs. y ∷ zs) s.2)

pub stands_left : {A : Type 0} (x : A) (xs ys : List A) → Stands x xs → Stands x (xs ++ ys)
stands_left x xs ys s =
    (s.0, s.1 ++ ys, ap (λ zs. zs ++ ys) s.2 ∙ append_assoc s.0 (x ∷ s.1) ys)

pub stands_right : {A : Type 0} (x : A) (xs ys : List A) → Stands x ys → Stands x (xs ++ ys)
stands_right x xs ys s =
    (xs ++ s.0, s.1, ap (λ zs. xs ++ zs) s.2 ∙ sym (append_assoc xs s.0 (x ∷ s.1)))

-- what stands among others and one more
pub stands_cases : {A : Type 0} (x y : A) (xs : List A) → Stands x (y ∷ xs) → (y ≡ x) ⊎ Stands x xs
stands_cases x y xs ([], after, e) = let same : y ≡ x = cc in inl same
stands_cases x y xs (z ∷ before, after, e) = let rest : xs ≡ before ++ x ∷ after = cc in inr (before, after, rest)

pub none_stands : {A : Type 0} {B : Type 0} (x : A) → Stands x [] → B
none_stands x ([], after, e) = absurd (cc)
none_stands x (z ∷ before, after, e) = absurd (cc)

-- what stands in two lists, one behind the other, stands in one of them
pub stands_either : {A : Type 0} (x : A) (xs ys : List A) → Stands x (xs ++ ys) → Stands x xs ⊎ Stands x ys
stands_either x [] ys s = inr s
stands_either x (z ∷ xs) ys s = by_cases (λ t. stands_either x xs ys t) (stands_cases x z (xs ++ ys) s)
  where
    by_rest : Stands x xs ⊎ Stands x ys → Stands x (z ∷ xs) ⊎ Stands x ys
    by_rest (inl t) = inl (stands_tail x z xs t)
    by_rest (inr t) = inr t

    by_cases : (Stands x (xs ++ ys) → Stands x xs ⊎ Stands x ys) → (z ≡ x) ⊎ Stands x (xs ++ ys)
        → Stands x (z ∷ xs) ⊎ Stands x ys
    by_cases rec (inl same) = inl (subst (λ w. Stands w (z ∷ xs)) same (stands_head z xs))
    by_cases rec (inr t) = by_rest (rec t)

pub stands_one : {A : Type 0} (x y : A) → Stands x (y ∷ []) → y ≡ x
stands_one x y s = by_cases (stands_cases x y [] s)
  where
    by_cases : (y ≡ x) ⊎ Stands x [] → y ≡ x
    by_cases (inl e) = e
    by_cases (inr t) = none_stands x t

-- what stands in a part stands in the whole
pub stands_flat : {A B : Type 0} (go : A → List B) (x : A) (y : B) (xs : List A) → Stands x xs → Stands y (go x)
    → Stands y (flat_map go xs)
stands_flat go x y [] s t = none_stands x s
stands_flat go x y (z ∷ xs) s t = by_cases (λ u. stands_flat go x y xs u t) (stands_cases x z xs s)
  where
    by_cases : (Stands x xs → Stands y (flat_map go xs)) → (z ≡ x) ⊎ Stands x xs → Stands y (go z ++ flat_map go xs)
    by_cases rec (inl same) =
        stands_left y (go z) (flat_map go xs) (subst (λ w. Stands y (go w)) (sym same) t)
    by_cases rec (inr u) = stands_right y (go z) (flat_map go xs) (rec u)

pub stands_map : {A B : Type 0} (go : A → B) (x : A) (xs : List A) → Stands x xs → Stands (go x) (map go xs)
stands_map go x [] s = none_stands x s
stands_map go x (z ∷ xs) s = by_cases (λ t. stands_map go x xs t) (stands_cases x z xs s)
  where
    by_cases : (Stands x xs → Stands (go x) (map go xs)) → (z ≡ x) ⊎ Stands x xs → Stands (go x) (map go (z ∷ xs))
    by_cases rec (inl same) = subst (λ w. Stands (go w) (map go (z ∷ xs))) same (stands_head (go z) (map go xs))
    by_cases rec (inr t) = stands_tail (go x) (go z) (map go xs) (rec t)

-- BY NUMBERS

pub get_stands : {A : Type 0} (xs : List A) (n : ℕ) (x : A) → slice_get xs n ≡ Some x → Stands x xs
get_stands [] n x e = absurd (cc)
get_stands (y ∷ xs) zero x e = let same : y ≡ x = cc in subst (λ z. Stands z (y ∷ xs)) same (stands_head y xs)
get_stands (y ∷ xs) (suc n) x e = stands_tail x y xs (get_stands xs n x e)

get_middle : {A : Type 0} (before after : List A) (x : A) → slice_get (before ++ x ∷ after) (length before) ≡ Some x
get_middle [] after x = refl
get_middle (z ∷ before) after x = get_middle before after x

pub number_of : {A : Type 0} (xs : List A) (x : A) → Stands x xs → (n : ℕ) × (slice_get xs n ≡ Some x)
number_of xs x s = (length s.0, subst (λ l. slice_get l (length s.0) ≡ Some x) (sym s.2) (get_middle s.0 s.1 x))

-- below the length there is an item
pub item_at : {A : Type 0} (xs : List A) (n : ℕ) → n < length xs → (x : A) × (slice_get xs n ≡ Some x)
item_at [] n low = absurd (omega (arith, low))
item_at (x ∷ xs) zero low = (x, refl)
item_at (x ∷ xs) (suc n) low = item_at xs n (omega (arith, low))

-- one item more is taken
pub take_next : {A : Type 0} (xs : List A) (n : ℕ) (x : A) → slice_get xs n ≡ Some x
    → take (suc n) xs ≡ take n xs ++ x ∷ []
take_next [] n x e = absurd (cc)
take_next (y ∷ xs) zero x e = let same : y ≡ x = cc in ap (λ z. z ∷ []) same
take_next (y ∷ xs) (suc n) x e = ap (λ zs. y ∷ zs) (take_next xs n x e)

-- the list is split there
pub split_at : {A : Type 0} (xs : List A) (n : ℕ) (x : A) → slice_get xs n ≡ Some x
    → (back : List A) × (xs ≡ take n xs ++ x ∷ back)
split_at [] n x e = absurd (cc)
split_at (y ∷ xs) zero x e = let same : y ≡ x = cc in (xs, ap (λ z. z ∷ xs) same)
split_at (y ∷ xs) (suc n) x e = let r = split_at xs n x e in (r.0, ap (λ zs. y ∷ zs) r.1)
