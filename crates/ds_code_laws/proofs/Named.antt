-- Names and their places.
use Rattle.std.proofs.Common.{◌≡◌, ℕ, zero, suc, ◌<◌, Bool, true, false, if◌then◌else◌, List, [], ◌∷◌, ◌++◌}
use Rattle.std.proofs.Common.{length, Option, Some, None, slice_get, refl, ap, sym, ◌∙◌, subst, arith, true≢false}
use Rattle.std.proofs.Common.{inl, inr}
use Rattle.std.specs.Prelude.{option_map}
use Rattle.std.specs.Bool.{Decides}
use Rattle.std.proofs.lemmas.Bool.Decides.{Decides-eqb}
use Rattle.std.proofs.lemmas.Slice.Eq.{bytes_eq-Decides}
use Rattle.ds_ast.specs.declared.name.Name.{Name}
use Rattle.ds_ast.specs.declared.name.Name.TheVariants.{Number, Text}
use Rattle.ds_ast.specs.Bounds.{is_name}
use Rattle.ds_names.specs.Names.{Among, AreDistinct, place_of}

abbrev number : Name → ℕ
number (Number n) = n
number (Text bytes) = 0

abbrev spelling : Name → List ℕ
spelling (Number n) = []
spelling (Text bytes) = bytes

pub names_decide : (m n : Name) → Decides (is_name m n) (m ≡ n)
names_decide (Number a) (Number b) = let d = Decides-eqb a b in (λ e. ap Number (d.0 e), λ e. d.1 (ap number e))
names_decide (Number a) (Text b) = (λ e. absurd (true≢false (sym e)), λ e. cc)
names_decide (Text a) (Number b) = (λ e. absurd (true≢false (sym e)), λ e. cc)
names_decide (Text a) (Text b) = let d = bytes_eq-Decides a b in (λ e. ap Text (d.0 e), λ e. d.1 (ap spelling e))

-- a name is itself
pub itself : (x : Name) → is_name x x ≡ true
itself x = (names_decide x x).1 refl

-- the name has a first place among these
pub record Stands (names : List Name) (x : Name) : Type 0 where
  pub place : ℕ
  pub is : place_of names x ≡ Some place

later : (o : Option ℕ) (k : ℕ) → option_map suc o ≡ Some k → (j : ℕ) × (o ≡ Some j) × (k ≡ suc j)
later None k e = absurd (cc)
later (Some j) k e = (j, refl, cc)

-- at its place stands the name
pub stands_there : (names : List Name) (x : Name) (n : ℕ) → place_of names x ≡ Some n → slice_get names n ≡ Some x
stands_there [] x n e = absurd (cc)
stands_there (y ∷ names) x n e = by_test (λ k f. stands_there names x k f) (is_name y x) refl e
  where
    by_test : ((k : ℕ) → place_of names x ≡ Some k → slice_get names k ≡ Some x) → (t : Bool) → is_name y x ≡ t
        → (if t then Some 0 else option_map suc (place_of names x)) ≡ Some n
        → slice_get (y ∷ names) n ≡ Some x
    by_test rec true is e =
        let none : 0 ≡ n = cc in
        subst (λ k. slice_get (y ∷ names) k ≡ Some x) none (ap (λ z. Some z) ((names_decide y x).0 is))
    by_test rec false is e =
        let l = later (place_of names x) n e in
        subst (λ k. slice_get (y ∷ names) k ≡ Some x) (sym l.2) (rec l.0 l.1)

pub get_within : {A : Type 0} (xs : List A) (n : ℕ) (x : A) → slice_get xs n ≡ Some x → n < length xs
get_within [] n x e = absurd (cc)
get_within (y ∷ xs) zero x e = omega arith
get_within (y ∷ xs) (suc n) x e = let lt = get_within xs n x e in omega arith

-- the place lies inside the list
pub place_within : (names : List Name) (x : Name) (n : ℕ) → place_of names x ≡ Some n → n < length names
place_within names x n e = get_within names n x (stands_there names x n e)

-- two names with one place are one
pub one_name : (names : List Name) (x y : Name) (n : ℕ) → place_of names x ≡ Some n → place_of names y ≡ Some n → x ≡ y
one_name names x y n e f =
    let both : Some x ≡ Some y = sym (stands_there names x n e) ∙ stands_there names y n f in cc

-- WHERE NAMES STAND

pub at_head : (x : Name) (names : List Name) → place_of (x ∷ names) x ≡ Some 0
at_head x names = ap (λ t. if t then Some 0 else option_map suc (place_of names x)) (itself x)

pub in_tail : (names : List Name) (x y : Name) → Stands names x → Stands (y ∷ names) x
in_tail names x y s = by_test (is_name y x) refl
  where
    by_test : (t : Bool) → is_name y x ≡ t → Stands (y ∷ names) x
    by_test true e =
        record { place = 0; is = ap (λ t. if t then Some 0 else option_map suc (place_of names x)) e }
    by_test false e = record {
      place = suc s.place;
      is = ap (λ t. if t then Some 0 else option_map suc (place_of names x)) e ∙ ap (λ o. option_map suc o) s.is;
    }

pub in_right : (xs ys : List Name) (x : Name) → Stands ys x → Stands (xs ++ ys) x
in_right [] ys x s = s
in_right (z ∷ xs) ys x s = in_tail (xs ++ ys) x z (in_right xs ys x s)

-- what stands in front keeps its place
pub place_left : (xs ys : List Name) (x : Name) (n : ℕ) → place_of xs x ≡ Some n → place_of (xs ++ ys) x ≡ Some n
place_left [] ys x n e = absurd (cc)
place_left (z ∷ xs) ys x n e = by_test (λ k f. place_left xs ys x k f) (is_name z x) e
  where
    by_test : ((k : ℕ) → place_of xs x ≡ Some k → place_of (xs ++ ys) x ≡ Some k) → (t : Bool)
        → (if t then Some 0 else option_map suc (place_of xs x)) ≡ Some n
        → (if t then Some 0 else option_map suc (place_of (xs ++ ys) x)) ≡ Some n
    by_test rec true e = e
    by_test rec false e =
        let l = later (place_of xs x) n e in
        ap (λ o. option_map suc o) (rec l.0 l.1) ∙ ap (λ k. Some k) (sym l.2)

pub in_left : (xs ys : List Name) (x : Name) → Stands xs x → Stands (xs ++ ys) x
in_left xs ys x s = record { place = s.place; is = place_left xs ys x s.place s.is }

-- what stands at a place is among the names
pub among_get : (names : List Name) (n : ℕ) (x : Name) → slice_get names n ≡ Some x → Among x names
among_get [] n x e = absurd (cc)
among_get (y ∷ names) zero x e = let same : y ≡ x = cc in inl same
among_get (y ∷ names) (suc n) x e = inr (among_get names n x e)

-- what is among names has a place
pub among_stands : (names : List Name) (x : Name) → Among x names → Stands names x
among_stands [] x a = absurd a
among_stands (y ∷ names) x (inl e) =
    record { place = 0; is = subst (λ z. place_of (z ∷ names) x ≡ Some 0) (sym e) (at_head x names) }
among_stands (y ∷ names) x (inr a) = in_tail names x y (among_stands names x a)

-- among distinct names each stands at its first place
pub distinct_place : (names : List Name) (n : ℕ) (x : Name) → AreDistinct names → slice_get names n ≡ Some x
    → place_of names x ≡ Some n
distinct_place [] n x d e = absurd (cc)
distinct_place (y ∷ names) zero x d e =
    let same : y ≡ x = cc in subst (λ z. place_of (z ∷ names) x ≡ Some 0) (sym same) (at_head x names)
distinct_place (y ∷ names) (suc n) x d e = by_test (distinct_place names n x d.1 e) (is_name y x) refl
  where
    by_test : place_of names x ≡ Some n → (t : Bool) → is_name y x ≡ t → place_of (y ∷ names) x ≡ Some (suc n)
    by_test rec true is =
        absurd (d.0 (subst (λ z. Among z names) (sym ((names_decide y x).0 is)) (among_get names n x e)))
    by_test rec false is =
        ap (λ t. if t then Some 0 else option_map suc (place_of names x)) is
        ∙ ap (λ o. option_map suc o) rec
