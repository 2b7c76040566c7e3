-- A name, digits or a text at the front of bytes.
use Rattle.std.proofs.Common.{◌≡◌, ℕ, ◌<◌, ◌≤◌, ◌^◌, Bool, true, false, ◌&&◌, ltb, List, [], ◌∷◌, length, take, Some}
use Rattle.std.proofs.Common.{suc, zero, refl, sym, ◌∙◌, ap, subst, arith}
use Rattle.std.proofs.lemmas.Bool.Decides.{nat_tests}
use Rattle.std.specs.List.{list_all}
use Rattle.ds_lex.specs.declared.bytes.ByteClass.{ByteClass}
use Rattle.ds_lex.specs.declared.bytes.ByteClass.TheVariants.{Blank, Semicolon, Percent, At, Hash, Bang, Quote, Minus}
use Rattle.ds_lex.specs.declared.bytes.ByteClass.TheVariants.{Digit, Letter, Mark, Other}
use Rattle.ds_lex.specs.declared.bytes.RunOf.TheVariants.{NameBytes, Digits}
use Rattle.ds_lex.specs.Bytes.{is_digit, class_of, begins_name, stands_in_name, belongs}
use Rattle.ds_lex.specs.Number.{decimal, is_small}
use Rattle.ds_lex.specs.Lexed.{IsName, IsDigits, IsText, IsNameInRange}
use Rattle.ds_lex.specs.Scan.{run_len, text_len, starts_name}
use Rattle.ds_lex.proofs.Runs.{run, run_more, run_none, run_take, and_parts}
use Rattle.ds_lex.proofs.Forms.{digit_class}
use Rattle.ds_lex.proofs.Texts.{text_only}

pub name_first : (k : ByteClass) → begins_name k ≡ true → stands_in_name k ≡ true
name_first Letter h = refl
name_first Minus h = refl
name_first Blank h = absurd cc
name_first Semicolon h = absurd cc
name_first Percent h = absurd cc
name_first At h = absurd cc
name_first Hash h = absurd cc
name_first Bang h = absurd cc
name_first Quote h = absurd cc
name_first Digit h = absurd cc
name_first Mark h = absurd cc
name_first Other h = absurd cc

-- a digit stands in a name, and begins none
pub digit_stands : (b : ℕ) → is_digit b ≡ true → belongs NameBytes b ≡ true
digit_stands b h = ap stands_in_name (digit_class b h)

digit_begins_none : (b : ℕ) → is_digit b ≡ true → begins_name (class_of b) ≡ false
digit_begins_none b h = ap begins_name (digit_class b h)

pub digits_stand : (bs : List ℕ) → list_all (belongs Digits) bs ≡ true → list_all (belongs NameBytes) bs ≡ true
digits_stand [] h = refl
digits_stand (b ∷ bs) h =
    let p = and_parts (is_digit b) (list_all (belongs Digits) bs) h in
    ap (λ t. t && list_all (belongs NameBytes) bs) (digit_stands b p.0) ∙ digits_stand bs p.1

name_stands : (bs : List ℕ) → IsName bs → list_all (belongs NameBytes) bs ≡ true
name_stands [] s = absurd s
name_stands (b ∷ bs) s = ap (λ t. t && list_all (belongs NameBytes) bs) (name_first (class_of b) s.0) ∙ s.1

digits_all : (bs : List ℕ) → IsDigits bs → list_all (belongs Digits) bs ≡ true
digits_all [] s = absurd s
digits_all (b ∷ bs) s = s

-- where bytes begin with the quote of a text, the run of bytes of names or of digits is empty
quote_no_digit : (b : ℕ) → class_of b ≡ Quote → (t : Bool) → is_digit b ≡ t → t ≡ false
quote_no_digit b c true e = absurd (let d = digit_class b e in cc)
quote_no_digit b c false e = refl

pub text_no_name : (bs : List ℕ) → IsText bs → starts_name bs ≡ false
text_no_name [] s = absurd s
text_no_name (b ∷ bs) s = ap begins_name s.0

pub text_no_name_bytes : (bs : List ℕ) → IsText bs → run_len NameBytes bs ≡ 0
text_no_name_bytes [] s = absurd s
text_no_name_bytes (b ∷ bs) s = run_none NameBytes b bs (ap stands_in_name s.0)

pub text_no_digits : (bs : List ℕ) → IsText bs → run_len Digits bs ≡ 0
text_no_digits [] s = absurd s
text_no_digits (b ∷ bs) s = run_none Digits b bs (quote_no_digit b s.0 (is_digit b) refl)

-- the first byte is the same
starts_same : (bs : List ℕ) (i : ℕ) → 0 < i → starts_name (take i bs) ≡ starts_name bs
starts_same bs zero h = absurd (omega (arith, h))
starts_same [] (suc i) h = refl
starts_same (b ∷ bs) (suc i) h = refl

name_starts : (bs : List ℕ) → IsName bs → starts_name bs ≡ true
name_starts [] s = absurd s
name_starts (b ∷ bs) s = s.0

digits_start_none : (bs : List ℕ) → IsDigits bs → starts_name bs ≡ false
digits_start_none [] s = absurd s
digits_start_none (b ∷ bs) s = digit_begins_none b (and_parts (is_digit b) (list_all (belongs Digits) bs) s).0

name_some : (bs : List ℕ) (i : ℕ) → IsName (take i bs) → 0 < i
name_some bs zero s = absurd s
name_some bs (suc i) s = omega arith

pub digits_some : (bs : List ℕ) (i : ℕ) → IsDigits (take i bs) → 0 < i
digits_some bs zero s = absurd s
digits_some bs (suc i) s = omega arith

text_some : (bs : List ℕ) (i : ℕ) → IsText (take i bs) → 0 < i
text_some bs zero s = absurd s
text_some bs (suc i) s = omega arith

-- which name stands at the front
pub name_len : (bs : List ℕ) (i : ℕ) → i ≤ length bs → IsName (take i bs) → (starts_name bs ≡ true)
    × (i ≤ run_len NameBytes bs)
name_len bs i l s = (
  sym (starts_same bs i (name_some bs i s))
      ∙ name_starts (take i bs) s,
  run_take NameBytes bs i l (name_stands (take i bs) s),
)

pub digits_len : (bs : List ℕ) (i : ℕ) → i ≤ length bs → IsDigits (take i bs) → (starts_name bs ≡ false) × (0 < i)
    × (i ≤ run_len Digits bs)
digits_len bs i l s = (
  sym (starts_same bs i (digits_some bs i s)) ∙ digits_start_none
      (take i bs) s,
  digits_some bs i s,
  run_take Digits bs i l (digits_all (take i bs) s),
)

text_first : (bs : List ℕ) (i : ℕ) → IsText (take i bs) → (run_len NameBytes bs ≡ 0) × (run_len Digits bs ≡ 0)
text_first bs zero s = absurd s
text_first [] (suc i) s = absurd s
text_first (b ∷ bs) (suc i) s =
    (run_none NameBytes b bs (ap stands_in_name s.0), run_none Digits b bs (quote_no_digit b s.0 (is_digit b) refl))

pub text_front : (bs : List ℕ) (i : ℕ) → i ≤ length bs → IsText (take i bs)
    → (starts_name bs ≡ false) × (run_len NameBytes bs ≡ 0) × (run_len Digits bs ≡ 0) × (text_len bs ≡ Some i)
text_front bs i l s =
    let p = text_first bs i s in
    (sym (starts_same bs i (text_some bs i s)) ∙ text_no_name (take i bs) s, p.0, p.1, text_only bs i l s)

-- the run of bytes is a name, where a name begins
pub name_here : (bs : List ℕ) → starts_name bs ≡ true → IsName (take (run_len NameBytes bs) bs)
name_here [] h = absurd cc
name_here (b ∷ bs) h =
    let P : ℕ → Type 0 = λ n. IsName (take n (b ∷ bs)) in
    subst P (sym (run_more NameBytes b bs (name_first (class_of b) h))) (h, (run NameBytes bs).all)

digits_are : (bs : List ℕ) (n : ℕ) → 0 < n → n ≤ length bs → list_all (belongs Digits) (take n bs) ≡ true
    → IsDigits (take n bs)
digits_are bs zero p l h = absurd (omega (arith, p))
digits_are [] (suc n) p l h = absurd (omega (arith, l))
digits_are (b ∷ bs) (suc n) p l h = h

pub digits_here : (bs : List ℕ) → 0 < run_len Digits bs → IsDigits (take (run_len Digits bs) bs)
digits_here bs h = digits_are bs (run_len Digits bs) h (run Digits bs).within (run Digits bs).all

-- a name that is not in digits has no range
pub no_digits : (b : ℕ) (bs : List ℕ) (k : ByteClass) → class_of b ≡ k → (k ≡ Digit → ⊥) → IsNameInRange (b ∷ bs)
no_digits b bs k c n d = absurd (n (sym c ∙ digit_class b (and_parts (is_digit b) (list_all (belongs Digits) bs) d).0))

small_true : (d : Bool) (m : ℕ) → (d && ltb m (2 ^ 32)) ≡ true → m < 2 ^ 32
small_true true m h = grind (arith, nat_tests)
small_true false m h = absurd cc

pub small_in_range : (name : List ℕ) → is_small name ≡ true → IsNameInRange name
unfolding is_small
small_in_range name h d = small_true (list_all is_digit name) (decimal 0 name) h

small_false : (d : Bool) (m : ℕ) → d ≡ true → (d && ltb m (2 ^ 32)) ≡ false → m < 2 ^ 32 → ⊥
small_false true m e h l = grind (arith, nat_tests)
small_false false m e h l = cc

pub small_out_of_range : (name : List ℕ) → is_small name ≡ false → IsDigits name → IsNameInRange name → ⊥
unfolding is_small
small_out_of_range name h d r = small_false (list_all is_digit name) (decimal 0 name) (digits_all name d) h (r d)
