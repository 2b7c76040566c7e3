-- One more digit behind a number.
use Rattle.std.proofs.Common.{◌≡◌, ℕ, ◌+◌, ◌-◌, ◌*◌, ◌^◌, ◌<◌, ◌≤◌, Bool, true, false, ◌&&◌, cond, ltb, List, [], ◌∷◌}
use Rattle.std.proofs.Common.{Option, Some, None, refl, ◌∙◌, ap, arith}
use Rattle.std.proofs.lemmas.Bool.Decides.{nat_tests}
use Rattle.std.specs.List.{list_all}
use Rattle.ds_lex.specs.Bytes.{is_digit}
use Rattle.ds_lex.specs.Number.{decimal, extended, is_small}

-- digits behind a number make no smaller one
grows : (n : ℕ) (bs : List ℕ) → n ≤ decimal n bs
grows n [] = omega arith
grows n (b ∷ bs) = omega (arith, grows (10 * n + (b - 48)) bs)

-- what the digit d and the bytes behind it make, where d is or is no digit and m is the number with it
abbrev judged : Bool → ℕ → List ℕ → Option ℕ
judged d m bs = cond ((d && list_all is_digit bs) && ltb (decimal m bs) (2 ^ 64)) (Some (decimal m bs)) None

taken : (d : Bool) (m : ℕ) (bs : List ℕ) (k : ℕ) → judged d m [] ≡ Some k → judged d m bs ≡ judged true k bs
taken false m bs k h = cc
taken true m bs k h = let e : m ≡ k = grind (arith, nat_tests) in ap (λ (x : ℕ). judged true x bs) e

no_more : (all : Bool) (v : ℕ) → 2 ^ 64 ≤ v → cond (all && ltb v (2 ^ 64)) (Some v) None ≡ None
no_more false v h = refl
no_more true v h = grind (arith, nat_tests)

refused : (d : Bool) (m : ℕ) (bs : List ℕ) → judged d m [] ≡ None → judged d m bs ≡ None
refused false m bs h = refl
refused true m bs h = let g = grows m bs in let l : 2 ^ 64 ≤ m = grind (arith, nat_tests) in
    no_more (list_all is_digit bs) (decimal m bs) (omega arith)

pub extended_some : (n b : ℕ) (bs : List ℕ) (k : ℕ) → extended n (b ∷ []) ≡ Some k
    → extended n (b ∷ bs) ≡ extended k bs
unfolding extended
extended_some n b bs k h = taken (is_digit b) (10 * n + (b - 48)) bs k h

pub extended_none : (n b : ℕ) (bs : List ℕ) → extended n (b ∷ []) ≡ None → extended n (b ∷ bs) ≡ None
unfolding extended
extended_none n b bs h = refused (is_digit b) (10 * n + (b - 48)) bs h

pub extended_nil : (n : ℕ) → n < 2 ^ 64 → extended n [] ≡ Some n
unfolding extended
extended_nil n h = grind (arith, nat_tests)

fits : (d : Bool) (m k : ℕ) → judged d m [] ≡ Some k → k < 2 ^ 64
fits false m k h = absurd cc
fits true m k h = grind (arith, nat_tests)

pub extended_fits : (n b k : ℕ) → extended n (b ∷ []) ≡ Some k → k < 2 ^ 64
unfolding extended
extended_fits n b k h = fits (is_digit b) (10 * n + (b - 48)) k h

small_judged : (d fits : Bool) (m v : ℕ) → cond (d && fits) (Some m) None ≡ Some v → (d ≡ true) × (m ≡ v)
small_judged true true m v h = let e : m ≡ v = cc in (refl, e)
small_judged true false m v h = absurd cc
small_judged false fits m v h = absurd cc

pub small_some : (bs : List ℕ) (v : ℕ) → extended 0 bs ≡ Some v → is_small bs ≡ ltb v (2 ^ 32)
unfolding extended is_small
small_some bs v h =
    let p = small_judged (list_all is_digit bs) (ltb (decimal 0 bs) (2 ^ 64)) (decimal 0 bs) v h in
    ap (λ t. t && ltb (decimal 0 bs) (2 ^ 32)) p.0 ∙ ap (λ (n : ℕ). ltb n (2 ^ 32)) p.1

small_refused : (d : Bool) (m : ℕ) → cond (d && ltb m (2 ^ 64)) (Some m) None ≡ None → (d && ltb m (2 ^ 32)) ≡ false
small_refused false m h = refl
small_refused true m h = grind (arith, nat_tests)

pub small_none : (bs : List ℕ) → extended 0 bs ≡ None → is_small bs ≡ false
unfolding extended is_small
small_none bs h = small_refused (list_all is_digit bs) (decimal 0 bs) h
