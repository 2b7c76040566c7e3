-- Blanks and comments at the front.
use Rattle.std.proofs.Common.{◌≡◌, ℕ, ◌≤◌, Bool, true, false, not, ◌==◌, Some, None, List, [], ◌∷◌, ◌++◌, length}
use Rattle.std.proofs.Common.{take, drop, suc, refl, ◌∙◌, ap, inl, inr, arith}
use Rattle.ds_lex.specs.declared.bytes.ByteClass.{ByteClass}
use Rattle.ds_lex.specs.declared.bytes.ByteClass.TheVariants.{Blank, Semicolon, Percent, At, Hash, Bang, Quote, Minus}
use Rattle.ds_lex.specs.declared.bytes.ByteClass.TheVariants.{Digit, Letter, Mark, Other}
use Rattle.ds_lex.specs.Bytes.{class_of}
use Rattle.ds_lex.specs.Lexed.{IsGapFrom}
use Rattle.ds_lex.specs.Scan.{gap_behind, gap_len, opens_comment, comment_behind}

-- what the first n bytes are
pub record Found (inside : Bool) (bytes : List ℕ) (n : ℕ) : Type 0 where
  pub gap : IsGapFrom inside (take n bytes) (drop n bytes)
  pub rest : gap_len false (drop n bytes) ≡ 0
  pub within : n ≤ length bytes

-- a byte that stands in no gap ends it
none_here : (b : ℕ) (bs : List ℕ) → gap_behind (class_of b) (gap_len false bs) (gap_len true bs) ≡ 0
    → Found false (b ∷ bs) 0
unfolding gap_len
none_here b bs h = record { gap = tt; rest = h; within = omega arith }

by_class : (b : ℕ) (bs : List ℕ) (k : ByteClass) → class_of b ≡ k → Found false bs (gap_len false bs)
    → Found true bs (gap_len true bs) → Found false (b ∷ bs) (gap_behind k (gap_len false bs) (gap_len true bs))
unfolding gap_len
by_class b bs Blank e f g = record { gap = inl (e, f.gap); rest = f.rest; within = omega (arith, f.within) }
by_class b bs Semicolon e f g = record { gap = inr (e, g.gap); rest = g.rest; within = omega (arith, g.within) }
by_class b bs At e f g = none_here b bs (ap (λ k. gap_behind k (gap_len false bs) (gap_len true bs)) e)
by_class b bs Percent e f g = none_here b bs (ap (λ k. gap_behind k (gap_len false bs) (gap_len true bs)) e)
by_class b bs Hash e f g = none_here b bs (ap (λ k. gap_behind k (gap_len false bs) (gap_len true bs)) e)
by_class b bs Bang e f g = none_here b bs (ap (λ k. gap_behind k (gap_len false bs) (gap_len true bs)) e)
by_class b bs Quote e f g = none_here b bs (ap (λ k. gap_behind k (gap_len false bs) (gap_len true bs)) e)
by_class b bs Minus e f g = none_here b bs (ap (λ k. gap_behind k (gap_len false bs) (gap_len true bs)) e)
by_class b bs Digit e f g = none_here b bs (ap (λ k. gap_behind k (gap_len false bs) (gap_len true bs)) e)
by_class b bs Letter e f g = none_here b bs (ap (λ k. gap_behind k (gap_len false bs) (gap_len true bs)) e)
by_class b bs Mark e f g = none_here b bs (ap (λ k. gap_behind k (gap_len false bs) (gap_len true bs)) e)
by_class b bs Other e f g = none_here b bs (ap (λ k. gap_behind k (gap_len false bs) (gap_len true bs)) e)

in_comment : (b : ℕ) (bs : List ℕ) (n : ℕ) → Found (not (b == 10)) bs n → Found true (b ∷ bs) (suc n)
in_comment b bs n f = record { gap = f.gap; rest = f.rest; within = omega (arith, f.within) }

pub gap_found : (inside : Bool) (bytes : List ℕ) → Found inside bytes (gap_len inside bytes)
unfolding gap_len
gap_found true [] = record { gap = refl; rest = refl; within = omega arith }
gap_found false [] = record { gap = tt; rest = refl; within = omega arith }
gap_found true (b ∷ bs) = in_comment b bs (gap_len (not (b == 10)) bs) (gap_found (not (b == 10)) bs)
gap_found false (b ∷ bs) = by_class b bs (class_of b) refl (gap_found false bs) (gap_found true bs)

-- a gap ends where a byte stands in none
pub gap_only : (inside : Bool) (gap rest : List ℕ) → IsGapFrom inside gap rest → gap_len false rest ≡ 0
    → gap_len inside (gap ++ rest) ≡ length gap
unfolding gap_len
gap_only true [] rest g z = ap (gap_len true) g
gap_only false [] rest g z = z
gap_only true (b ∷ gap) rest g z = ap suc (gap_only (not (b == 10)) gap rest g z)
gap_only false (b ∷ gap) rest g z =
    elim g [
      | inl p ↦ ap (λ k. gap_behind k (gap_len false (gap ++ rest)) (gap_len true (gap ++ rest))) p.0
          ∙ ap suc (gap_only false gap rest p.1 z)
      | inr p ↦ ap (λ k. gap_behind k (gap_len false (gap ++ rest)) (gap_len true (gap ++ rest))) p.0
          ∙ ap suc (gap_only true gap rest p.1 z)
    ]

some_of_class : (k : ByteClass) (bs : List ℕ) (inside : Bool) → opens_comment k ≡ Some inside
    → gap_behind k (gap_len false bs) (gap_len true bs) ≡ suc (gap_len inside bs)
some_of_class Blank bs inside h = ap (λ (o : Bool). suc (gap_len o bs)) (let e : false ≡ inside = cc in e)
some_of_class Semicolon bs inside h = ap (λ (o : Bool). suc (gap_len o bs)) (let e : true ≡ inside = cc in e)
some_of_class At bs inside h = cc
some_of_class Percent bs inside h = cc
some_of_class Hash bs inside h = cc
some_of_class Bang bs inside h = cc
some_of_class Quote bs inside h = cc
some_of_class Minus bs inside h = cc
some_of_class Digit bs inside h = cc
some_of_class Letter bs inside h = cc
some_of_class Mark bs inside h = cc
some_of_class Other bs inside h = cc

pub gap_some : (inside : Bool) (b : ℕ) (bs : List ℕ) (behind : Bool) → comment_behind inside b ≡ Some behind
    → gap_len inside (b ∷ bs) ≡ suc (gap_len behind bs)
unfolding gap_len
gap_some true b bs behind h = ap (λ (o : Bool). suc (gap_len o bs)) (let e : not (b == 10) ≡ behind = cc in e)
gap_some false b bs behind h = some_of_class (class_of b) bs behind h

none_of_class : (k : ByteClass) (x y : ℕ) → opens_comment k ≡ None → gap_behind k x y ≡ 0
none_of_class Blank x y h = cc
none_of_class Semicolon x y h = cc
none_of_class At x y h = refl
none_of_class Percent x y h = refl
none_of_class Hash x y h = refl
none_of_class Bang x y h = refl
none_of_class Quote x y h = refl
none_of_class Minus x y h = refl
none_of_class Digit x y h = refl
none_of_class Letter x y h = refl
none_of_class Mark x y h = refl
none_of_class Other x y h = refl

pub gap_none : (inside : Bool) (b : ℕ) (bs : List ℕ) → comment_behind inside b ≡ None → gap_len inside (b ∷ bs) ≡ 0
unfolding gap_len
gap_none true b bs h = cc
gap_none false b bs h = none_of_class (class_of b) (gap_len false bs) (gap_len true bs) h

pub gap_nil : (inside : Bool) → gap_len inside [] ≡ 0
unfolding gap_len
gap_nil inside = refl
