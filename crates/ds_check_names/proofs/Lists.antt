-- Items of lists by their numbers.
use Rattle.std.proofs.Common.{◌≡◌, ◌<◌, ◌+◌, ℕ, zero, suc, List, [], ◌∷◌, ◌++◌, length, get_or, drop, map, Some, refl}
use Rattle.std.proofs.Common.{sym, ap, ◌∙◌, subst, slice_get, append_assoc, arith}
use Rattle.std.specs.Prelude.{option_map}
use Rattle.std.proofs.lemmas.Option.{slice_get-map}
use Rattle.std.proofs.lemmas.List.{drop_more, map-append}
use Rattle.ds_shape.specs.Types.{Stands}

-- what stands there now and one item more, where the items that remain are known
pub one_more : {A B : Type 0} (F : List A → List B) (now all : List B) (xs : List A) (i j : ℕ) (x : A) (y : B)
    → i < length xs → x ≡ get_or xs i x → j ≡ i + 1
    → ((rest : List A) → F (x ∷ rest) ≡ y ∷ F rest) → now ++ F (drop i xs) ≡ all
    → (now ++ y ∷ []) ++ F (drop j xs) ≡ all
one_more F now all xs i j x y inside is next step e =
    append_assoc now (y ∷ []) (F (drop j xs))
    ∙ ap (λ n. now ++ y ∷ F (drop n xs)) next
    ∙ ap (λ r. now ++ r)
    (sym (step (drop (i + 1) xs)) ∙ ap (λ z. F (z ∷ drop (i + 1) xs)) is ∙ sym (ap F (drop_more xs i x inside))) ∙ e

-- and where what an item adds depends on its number
pub one_step : {A E B : Type 0} (G : ℕ → List A → List E) (H : ℕ → A → List E) (f : E → B) (now all : List B)
    (xs : List A) (i j : ℕ) (x : A) → i < length xs
    → x ≡ get_or xs i x → j ≡ i + 1 → ((rest : List A) → G i (x ∷ rest) ≡ H i x ++ G (suc i) rest)
    → now ++ map f (G i (drop i xs)) ≡ all
    → (now ++ map f (H i x)) ++ map f (G j (drop j xs)) ≡ all
one_step G H f now all xs i j x inside is next step e =
    append_assoc now (map f (H i x)) (map f (G j (drop j xs)))
    ∙ ap (λ n. now ++ (map f (H i x) ++ map f (G n (drop n xs)))) later
    ∙ ap (λ r. now ++ r)
    (sym (map-append f (H i x) (G (suc i) (drop (suc i) xs))) ∙ ap (map f) (sym (step (drop (suc i) xs)) ∙ sym here))
    ∙ e
  where
    later : j ≡ suc i
    later = omega (arith, next)

    more : i + 1 ≡ suc i
    more = omega arith

    here : G i (drop i xs) ≡ G i (x ∷ drop (suc i) xs)
    here = ap (G i) (drop_more xs i x inside ∙ ap (λ n. get_or xs i x ∷ drop n xs) more
        ∙ ap (λ z. z ∷ drop (suc i) xs) (sym is))

-- NUMBERS

pub in_first : {A : Type 0} (xs ys : List A) (i : ℕ) (x : A) → slice_get xs i ≡ Some x
    → slice_get (xs ++ ys) i ≡ Some x
in_first [] ys i x e = cc
in_first (z ∷ xs) ys zero x e = e
in_first (z ∷ xs) ys (suc i) x e = in_first xs ys i x e

pub in_second : {A : Type 0} (xs ys : List A) (j i : ℕ) (y : A) → slice_get ys j ≡ Some y → i ≡ length xs + j
    → slice_get (xs ++ ys) i ≡ Some y
in_second [] ys j i y e at = subst (λ n. slice_get ys n ≡ Some y) (sym (omega (arith, at))) e
in_second (z ∷ xs) ys j zero y e at = absurd (omega (arith, at))
in_second (z ∷ xs) ys j (suc i) y e at = in_second xs ys j i y e (omega (arith, at))

pub from_first : {A : Type 0} (xs ys : List A) (i : ℕ) (x : A) → i < length xs → slice_get (xs ++ ys) i ≡ Some x
    → slice_get xs i ≡ Some x
from_first [] ys i x inside e = absurd (omega (arith, inside))
from_first (z ∷ xs) ys zero x inside e = e
from_first (z ∷ xs) ys (suc i) x inside e = from_first xs ys i x (omega (arith, inside)) e

pub from_second : {A : Type 0} (xs ys : List A) (i j : ℕ) (x : A) → i ≡ length xs + j → slice_get (xs ++ ys) i ≡ Some x
    → slice_get ys j ≡ Some x
from_second [] ys i j x at e = subst (λ n. slice_get ys n ≡ Some x) (omega (arith, at)) e
from_second (z ∷ xs) ys zero j x at e = absurd (omega (arith, at))
from_second (z ∷ xs) ys (suc i) j x at e = from_second xs ys i j x (omega (arith, at)) e

-- the item behind a mapped one
pub from_map : {A B : Type 0} (f : A → B) (xs : List A) (i : ℕ) (y : B) → slice_get (map f xs) i ≡ Some y
    → (x : A) × (slice_get xs i ≡ Some x) × (f x ≡ y)
from_map f [] i y e = cc
from_map f (x ∷ xs) zero y e = (x, refl, cc)
from_map f (x ∷ xs) (suc i) y e = from_map f xs i y e

pub in_map : {A B : Type 0} (f : A → B) (xs : List A) (i : ℕ) (x : A) → slice_get xs i ≡ Some x
    → slice_get (map f xs) i ≡ Some (f x)
in_map f xs i x e = slice_get-map f xs i ∙ ap (option_map f) e

-- STANDS

pub stands_at : {A : Type 0} (xs : List A) (i : ℕ) (x : A) → slice_get xs i ≡ Some x → Stands x xs
stands_at [] i x e = cc
stands_at (z ∷ xs) zero x e = ([], xs, cc)
stands_at (z ∷ xs) (suc i) x e = let s : Stands x xs = stands_at xs i x e in (z ∷ s.0, s.1, ap (λ l. z ∷ l) s.2)

at_middle : {A : Type 0} (before after : List A) (x : A) → slice_get (before ++ x ∷ after) (length before) ≡ Some x
at_middle [] after x = refl
at_middle (z ∷ before) after x = at_middle before after x

pub number_of : {A : Type 0} (xs : List A) (x : A) → Stands x xs → (i : ℕ) × (slice_get xs i ≡ Some x)
number_of xs x s = (length s.0, subst (λ l. slice_get l (length s.0) ≡ Some x) (sym s.2) (at_middle s.0 s.1 x))
