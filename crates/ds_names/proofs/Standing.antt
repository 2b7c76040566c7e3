-- Which names stand among others, where, and which lists of them are distinct.
use Rattle.std.proofs.Common.{◌≡◌, ◌<◌, ℕ, zero, suc, Bool, true, false, List, [], ◌∷◌, ◌++◌, length, get_or, ◌⊎◌, inl, inr, Option, Some, None, refl, sym, ap, ◌∙◌, subst, cond, true≢false, arith}
use Rattle.std.specs.Prelude.{option_map}
use Rattle.std.specs.Bool.{Decides}
use Rattle.std.proofs.lemmas.Bool.Decides.{Decides-eqb}
use Rattle.std.proofs.lemmas.Slice.Eq.{bytes_eq-Decides}
use Rattle.ds_ast.specs.declared.name.Name.{Name}
use Rattle.ds_ast.specs.declared.name.Name.TheVariants.{Number, Text}
use Rattle.ds_ast.specs.Bounds.{is_name}
use Rattle.ds_names.specs.Names.{Among, AreDistinct, place_of}
use Rattle.ds_names.specs.Laws.{PlacesAreExact, PlacesAreUnique}

-- NAMES

abbrev number : Name → ℕ
number (Number n) = n
number (Text bytes) = 0

abbrev spelling : Name → List ℕ
spelling (Number n) = []
spelling (Text bytes) = bytes

pub names_decide : (m n : Name) → Decides (is_name m n) (m ≡ n)
names_decide (Number a) (Number b) = let d = Decides-eqb a b in (λ e. ap Number (d.0 e), λ e. d.1 (ap number e))
names_decide (Number a) (Text b) = (λ e. absurd (true≢false (sym e)), λ e. cc)
names_decide (Text a) (Number b) = (λ e. absurd (true≢false (sym e)), λ e. cc)
names_decide (Text a) (Text b) = let d = bytes_eq-Decides a b in (λ e. ap Text (d.0 e), λ e. d.1 (ap spelling e))

-- AMONG

-- what stands among names and one more
among_behind : (n : Name) (xs : List Name) (last : Name) → Among n (xs ++ last ∷ []) → Among n xs ⊎ (last ≡ n)
among_behind n [] last (inl e) = inr e
among_behind n [] last (inr a) = absurd a
among_behind n (x ∷ xs) last (inl e) = inl (inl e)
among_behind n (x ∷ xs) last (inr a) = further (among_behind n xs last a)
  where
    further : Among n xs ⊎ (last ≡ n) → Among n (x ∷ xs) ⊎ (last ≡ n)
    further (inl a) = inl (inr a)
    further (inr e) = inr e

pub among_at : (names : List Name) (name d : Name) (i : ℕ) → i < length names → get_or names i d ≡ name →
    Among name names
among_at [] name d i inside e = absurd (omega arith)
among_at (n ∷ names) name d zero inside e = inl e
among_at (n ∷ names) name d (suc i) inside e = inr (among_at names name d i (omega arith) e)

-- DISTINCT

not_both : (x last : Name) (xs : List Name) → (Among x xs → ⊥) → (x ≡ last → ⊥) → Among x xs ⊎ (last ≡ x) → ⊥
not_both x last xs fresh other (inl a) = fresh a
not_both x last xs fresh other (inr e) = other (sym e)

pub one_behind : (names : List Name) (name : Name) → AreDistinct names → (Among name names → ⊥) →
    AreDistinct (names ++ name ∷ [])
one_behind [] name distinct fresh = (λ a. a, tt)
one_behind (x ∷ xs) name (first, rest) fresh = (
  λ a. not_both x name xs first (λ e. fresh (inl e)) (among_behind x xs name a),
  one_behind xs name rest
      (λ a. fresh (inr a)),
)

-- PLACES

absent_by : (b : Bool) (o : Option ℕ) → cond b (Some 0) (option_map suc o) ≡ None → (b ≡ false) × (o ≡ None)
absent_by true o e = cc
absent_by false None e = (refl, refl)
absent_by false (Some i) e = cc

none_by : (b : Bool) (o : Option ℕ) → (b ≡ true → ⊥) → o ≡ None → cond b (Some 0) (option_map suc o) ≡ None
none_by true o h e = absurd (h refl)
none_by false o h e = ap (option_map suc) e

pub none_among : (names : List Name) (name : Name) → place_of names name ≡ None → Among name names → ⊥
none_among [] name e a = a
none_among (n ∷ names) name e (inl is) =
    true≢false (sym ((names_decide n name).1 is) ∙ (absent_by (is_name n name) (place_of names name) e).0)
none_among (n ∷ names) name e (inr a) = none_among names name (absent_by (is_name n name) (place_of names name) e).1 a

pub among_none : (names : List Name) (name : Name) → (Among name names → ⊥) → place_of names name ≡ None
among_none [] name fresh = refl
among_none (n ∷ names) name fresh =
    none_by (is_name n name) (place_of names name) (λ e. fresh (inl ((names_decide n name).0 e)))
    (among_none names name (λ a. fresh (inr a)))

-- the name stands at the place
abbrev At : List Name → Name → ℕ → Type 0
At names name i = (i < length names) × ((d : Name) → get_or names i d ≡ name)

some_by : (n : Name) (names : List Name) (name : Name) (i : ℕ) (b : Bool) (o : Option ℕ) → (b ≡ true → n ≡ name) →
    ((j : ℕ) → o ≡ Some j → At names name j)
    → cond b (Some 0) (option_map suc o) ≡ Some i → At (n ∷ names) name i
some_by n names name zero true o is further e = (omega arith, λ d. is refl)
some_by n names name (suc i) true o is further e = cc
some_by n names name i false None is further e = cc
some_by n names name zero false (Some j) is further e = cc
some_by n names name (suc i) false (Some j) is further e =
    let there : At names name i = further i cc in (omega arith, λ d. there.1 d)

pub some_at : (names : List Name) (name : Name) (i : ℕ) → place_of names name ≡ Some i → At names name i
some_at [] name i e = cc
some_at (n ∷ names) name i e =
    some_by n names name i (is_name n name) (place_of names name) (names_decide n name).0 (some_at names name) e

pub exact_places : PlacesAreExact
exact_places names name = ((none_among names name, among_none names name), some_at names name)

next_by : (b : Bool) (o : Option ℕ) (i : ℕ) → (b ≡ true → ⊥) → o ≡ Some i →
    cond b (Some 0) (option_map suc o) ≡ Some (suc i)
next_by true o i h e = absurd (h refl)
next_by false o i h e = ap (option_map suc) e

among_same : (m n : Name) (names : List Name) → m ≡ n → Among n names → Among m names
among_same m n names e a = subst (λ x. Among x names) (sym e) a

pub unique_places : PlacesAreUnique
unique_places [] name d i distinct inside e = absurd (omega arith)
unique_places (n ∷ names) name d zero distinct inside e =
    ap (λ b. cond b (Some 0) (option_map suc (place_of names name))) ((names_decide n name).1 e)
unique_places (n ∷ names) name d (suc i) (first, rest) inside e =
    next_by (is_name n name) (place_of names name) i
    (λ is. first (among_same n name names ((names_decide n name).0 is) (among_at names name d i (omega arith) e)))
    (unique_places names name d i rest (omega arith) e)
