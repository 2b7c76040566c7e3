-- The numbers that are kept beside names, with one name more and at the place of a name.
use Rattle.std.proofs.Common.{◌≡◌, ℕ, zero, suc, ◌+◌, ◌<◌, ◌≤◌, List, [], ◌∷◌, ◌++◌, length, take, get_or, refl, sym}
use Rattle.std.proofs.Common.{subst}
use Rattle.std.proofs.Common.{◌∙◌, ap, inl, inr, arith}
use Rattle.std.specs.Prelude.{Option, Some, None, IfSome, slice_get, option_map, Bool, true, false}
use Rattle.std.specs.Prelude.{if◌then◌else◌}
use Rattle.std.proofs.lemmas.List.{take_more, length-append, length-map}
use denote.Ref.{Bor}
use Rattle.ds_ast.specs.declared.name.Name.{Name}
use Rattle.ds_ast.specs.Bounds.{is_name}
use Rattle.ds_names.specs.Names.{Among, place_of}
use Rattle.ds_names.specs.Places.{nows}
use Rattle.ds_lower_parts.specs.Known.{number_beside, Keeps}

-- the first, if there is one, and else the second
abbrev either : Option ℕ → Option ℕ → Option ℕ
either None other = other
either (Some n) other = Some n

past : (b : Bool) (x : ℕ) (o p r : Option ℕ) → r ≡ either o p
    → (if b then Some x else r) ≡ either (if b then Some x else o) p
past true x o p r e = refl
past false x o p r e = e

or_none : (o : Option ℕ) → either o None ≡ o
or_none None = refl
or_none (Some x) = refl

twice : (b : Bool) (x y : ℕ) (o : Option ℕ)
    → either (if b then Some x else o) (if b then Some y else None) ≡ (if b then Some x else o)
twice true x y o = refl
twice false x y o = or_none o

keep : (b : Bool) (x : ℕ) (o p : Option ℕ) → either o p ≡ o
    → either (if b then Some x else o) p ≡ (if b then Some x else o)
keep true x o p e = refl
keep false x o p e = e

-- one name more has the last place
last_place : (b c : Bool) (n : ℕ) (o r : Option ℕ) → r ≡ either o (if c then Some n else None)
    → (if b then Some 0 else option_map suc r)
    ≡ either (if b then Some 0 else option_map suc o) (if c then Some (suc n) else None)
last_place true c n o r e = refl
last_place false c n o r e = ap (λ x. option_map suc x) e ∙ inner c o
  where
    inner : (c : Bool) (o : Option ℕ)
        → option_map suc (either o (if c then Some n else None))
        ≡ either (option_map suc o) (if c then Some (suc n) else None)
    inner true None = refl
    inner true (Some k) = refl
    inner false None = refl
    inner false (Some k) = refl

place_behind : (names : List Name) (name q : Name)
    → place_of (names ++ name ∷ []) q ≡ either (place_of names q) (if is_name name q then Some (length names) else None)
place_behind [] name q = by_test (is_name name q)
  where
    by_test : (t : Bool) → (if t then Some 0 else option_map suc None) ≡ (if t then Some 0 else None)
    by_test true = refl
    by_test false = refl
place_behind (n ∷ names) name q =
    last_place (is_name n q) (is_name name q) (length names) (place_of names q) _ (place_behind names name q)

number_behind : (names : List Name) (numbers : List ℕ) (n : Name) (k : ℕ) (q : Name) → length names ≡ length numbers
    → number_beside (names ++ n ∷ []) (numbers ++ k ∷ []) q
    ≡ either (number_beside names numbers q) (if is_name n q then Some k else None)
number_behind [] [] n k q e = refl
number_behind [] (g ∷ numbers) n k q e = absurd (omega (arith, e))
number_behind (m ∷ names) [] n k q e = absurd (omega (arith, e))
number_behind (m ∷ names) (g ∷ numbers) n k q e =
    past (is_name m q) g (number_beside names numbers q) _ _ (number_behind names numbers n k q (omega (arith, e)))

-- a name that stands there has a number already
name_there : (names : List Name) (numbers : List ℕ) (n : Name) (x : ℕ) (q : Name) → length names ≡ length numbers
    → Among n names
    → either (number_beside names numbers q) (if is_name n q then Some x else None) ≡ number_beside names numbers q
name_there [] numbers n x q e a = absurd a
name_there (m ∷ names) [] n x q e a = absurd (omega (arith, e))
name_there (m ∷ names) (g ∷ numbers) n x q e (inl same) =
    let P : Name → Type 0 =
    λ k. either (number_beside (m ∷ names) (g ∷ numbers) q) (if is_name k q then Some x else None)
    ≡ number_beside (m ∷ names) (g ∷ numbers) q in
    subst P same (twice (is_name m q) g x (number_beside names numbers q))
name_there (m ∷ names) (g ∷ numbers) n x q e (inr more) =
    keep (is_name m q) g (number_beside names numbers q) _ (name_there names numbers n x q (omega (arith, e)) more)

counted : {A B : Type 0} (xs : List A) (ys : List B) (x : A) (y : B) → length xs ≡ length ys
    → length (xs ++ x ∷ []) ≡ length (ys ++ y ∷ [])
counted xs ys x y e = length-append xs (x ∷ []) ∙ ap (λ n. n + 1) e ∙ sym (length-append ys (y ∷ []))

-- one name more, that is new
pub kept_new : (name : Name) (kept more : List Name) (firsts more_firsts : List ℕ) (at : ℕ) → more ≡ kept ++ name ∷ []
    → more_firsts ≡ firsts ++ at ∷ []
    → (names : List Name) → at ≡ length names → Keeps kept firsts names → Keeps more more_firsts (names ++ name ∷ [])
kept_new name kept more firsts more_firsts at named beside names is keeps = (
  ap (λ ns. length ns) named ∙ counted kept firsts name at keeps.0 ∙ sym (ap (λ fs. length fs) beside),
  λ q. ap (λ ns. number_beside ns more_firsts q) named ∙ ap (λ fs. number_beside (kept ++ name ∷ []) fs q) beside
      ∙ number_behind kept firsts name at q keeps.0
      ∙ ap (λ o. either o (if is_name name q then Some at else None)) (keeps.1 q)
      ∙ ap (λ n. either (place_of names q) (if is_name name q then Some n else None)) is
      ∙ sym (place_behind names name q),
)

-- one name more, that stands there
pub kept_there : (name : Name) (kept more : List Name) (firsts more_firsts : List ℕ) (at : ℕ) → Among name kept
    → more ≡ kept → more_firsts ≡ firsts
    → (names : List Name) → at ≡ length names → Keeps kept firsts names → Keeps more more_firsts (names ++ name ∷ [])
kept_there name kept more firsts more_firsts at among named beside names is keeps = (
  ap (λ ns. length ns) named ∙ keeps.0 ∙ sym (ap (λ fs. length fs) beside),
  λ q. ap (λ ns. number_beside ns more_firsts q) named ∙ ap (λ fs. number_beside kept fs q) beside
      ∙ sym (name_there kept firsts name at q keeps.0 among)
      ∙ ap (λ o. either o (if is_name name q then Some at else None)) (keeps.1 q)
      ∙ ap (λ n. either (place_of names q) (if is_name name q then Some n else None)) is
      ∙ sym (place_behind names name q),
)

-- the names up to a place and the one there
pub kept_on : (names : List Name) (i : ℕ) (name d : Name) (kept : List Name) (firsts : List ℕ)
    → i < length names → name ≡ get_or names i d
    → Keeps kept firsts (take i names ++ name ∷ []) → Keeps kept firsts (take (i + 1) names)
kept_on names i name d kept firsts inside is keeps =
    let there : take i names ++ name ∷ [] ≡ take (i + 1) names =
    ap (λ (l : Name). take i names ++ l ∷ []) is ∙ sym (take_more names i d inside) in
    let P : List Name → Type 0 = λ ns. Keeps kept firsts ns in
    subst P there keeps

read_map : (items : List (Bor Name)) (n : ℕ) (x : Bor Name) → n < length items → x ≡ get_or items n x
    → x.now ≡ get_or (nows items) n x.now
read_map [] n x lt e = absurd (omega arith)
read_map (y ∷ items) zero x lt e = ap (λ (b : Bor Name). b.now) e
read_map (y ∷ items) (suc n) x lt e = read_map items n x (omega arith) e

take_long : {A : Type 0} (xs : List A) (n : ℕ) → n ≤ length xs → length (take n xs) ≡ n
take_long [] zero le = refl
take_long [] (suc n) le = absurd (omega arith)
take_long (x ∷ xs) zero le = refl
take_long (x ∷ xs) (suc n) le = ap suc (take_long xs n (omega arith))

-- one name more of those that are gone through
pub keeps_on : (items : List (Bor Name)) (n : ℕ) (x : Bor Name) (kept : List Name) (firsts : List ℕ)
    → n < length items → x ≡ get_or items n x
    → Keeps kept firsts (take n (nows items) ++ x.now ∷ []) → Keeps kept firsts (take (n + 1) (nows items))
keeps_on items n x kept firsts lt e keeps =
    let long : length (nows items) ≡ length items = length-map items (λ (b : Bor Name). b.now) in
    kept_on (nows items) n x.now x.now kept firsts (omega arith) (read_map items n x lt e) keeps

-- so many names were gone through
pub so_many : (items : List (Bor Name)) (n at : ℕ) → n < length items → at ≡ n → at ≡ length (take n (nows items))
so_many items n at lt is =
    let long : length (nows items) ≡ length items = length-map items (λ (b : Bor Name). b.now) in
    is ∙ sym (take_long (nows items) n (omega arith))

-- what stands at a place, if there is one
abbrev pub at_place : Option ℕ → List ℕ → Option ℕ
at_place None numbers = None
at_place (Some i) numbers = slice_get numbers i

next : (b : Bool) (g : ℕ) (numbers : List ℕ) (o r : Option ℕ) → r ≡ at_place o numbers
    → (if b then Some g else r) ≡ at_place (if b then Some 0 else option_map suc o) (g ∷ numbers)
next true g numbers o r e = refl
next false g numbers None r e = e
next false g numbers (Some i) r e = e

-- what is beside a name stands at its place
pub beside_at : (names : List Name) (numbers : List ℕ) (q : Name) → length names ≡ length numbers
    → number_beside names numbers q ≡ at_place (place_of names q) numbers
beside_at [] numbers q e = refl
beside_at (m ∷ names) [] q e = absurd (omega (arith, e))
beside_at (m ∷ names) (g ∷ numbers) q e =
    next (is_name m q) g numbers (place_of names q) _ (beside_at names numbers q (omega (arith, e)))

-- the first place of a name is what stands beside it
pub placed : (all names kept : List Name) (firsts items : List ℕ) (name : Name) (found : Option ℕ) (place : ℕ)
    (o : Option ℕ) → Keeps kept firsts all → all ≡ names → found ≡ place_of kept name → found ≡ Some place
    → items ≡ firsts → o ≡ slice_get items place → o ≡ place_of names name
placed all names kept firsts items name found place o keeps same is some read given =
    given ∙ ap (λ xs. slice_get xs place) read ∙ ap (λ p. at_place p firsts) (sym some ∙ is)
    ∙ sym (beside_at kept firsts name keeps.0) ∙ keeps.1 name ∙ ap (λ ns. place_of ns name) same

-- a name that is not kept has no place
pub unplaced : (all names kept : List Name) (firsts : List ℕ) (name : Name) (found : Option ℕ) → Keeps kept firsts all
    → all ≡ names → found ≡ place_of kept name → found ≡ None → None ≡ place_of names name
unplaced all names kept firsts name found keeps same is none =
    ap (λ p. at_place p firsts) (sym none ∙ is) ∙ sym (beside_at kept firsts name keeps.0) ∙ keeps.1 name
    ∙ ap (λ ns. place_of ns name) same

-- a first place lies among the names
pub inside : (names : List Name) (name : Name) (n : ℕ) → place_of names name ≡ Some n → n < length names
inside [] name n e = absurd (cc)
inside (m ∷ names) name n e = by_test (λ k f. inside names name k f) (is_name m name) (place_of names name) refl e
  where
    by_test : ((k : ℕ) → place_of names name ≡ Some k → k < length names) → (t : Bool) (o : Option ℕ)
        → place_of names name ≡ o → (if t then Some 0 else option_map suc o) ≡ Some n
        → n < suc (length names)
    by_test rec true o f e = let none : 0 ≡ n = cc in omega arith
    by_test rec false None f e = absurd (cc)
    by_test rec false (Some k) f e = let one : suc k ≡ n = cc in let lt = rec k f in omega arith

pub inside_too : (names : List Name) (name : Name) (o : Option ℕ) → o ≡ place_of names name
    → IfSome o (λ n. n < length names)
inside_too names name None e = tt
inside_too names name (Some n) e = inside names name n (sym e)
