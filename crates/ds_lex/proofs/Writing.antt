-- The digits that the library writes of a number are read as that number.
use Rattle.std.proofs.Common.{◌≡◌, ℕ, ◌+◌, ◌-◌, ◌*◌, ◌%◌, ◌^◌, ◌<◌, ◌≤◌, Bool, true, false, ◌&&◌, cond, ltb, leb, eqb}
use Rattle.std.proofs.Common.{List, [], ◌∷◌, length, Some, None, refl, ◌∙◌, ap, arith}
use Rattle.std.proofs.lemmas.Bool.Decides.{nat_tests}
use Rattle.std.specs.Prelude.{option_and_then}
use Rattle.std.specs.Fmt as fmt
use Rattle.std.specs.List.{list_all}
use Rattle.std.proofs.lemmas.Fmt.{decimal_is_IsNumeral_wide}
use Rattle.std.proofs.lemmas.Str.Parse.{IsDigitsTest, FoldsDigits, IsNumeralModel, numerals_by_fold}
use Rattle.ds_lex.specs.declared.bytes.RunOf.TheVariants.{Digits}
use Rattle.ds_lex.specs.Bytes.{is_digit, belongs}
use Rattle.ds_lex.specs.Number.{decimal, extended, magnitude_of, negated, number_of}
use Rattle.ds_lex.specs.Lexed.{IsDigits}
use Rattle.ds_lex.proofs.Runs.{and_parts}

-- these are digits alone
abbrev AllDigits : List ℕ → Type 0
AllDigits ds = list_all (belongs Digits) ds ≡ true

digit_more : (b : ℕ) (bs : List ℕ) → is_digit b ≡ true → AllDigits bs → AllDigits (b ∷ bs)
digit_more b bs d h = ap (λ t. t && list_all (belongs Digits) bs) d ∙ h

tells : IsDigitsTest AllDigits
tells = record {
  empty = refl;
  parts = λ c cs h. let p = and_parts (is_digit c) (list_all (belongs Digits) cs) h in (grind (arith, nat_tests), p.1);
  more = λ c cs k h. digit_more c cs (grind (arith, nat_tests)) h;
}

folds : FoldsDigits decimal
folds = record {
  empty = λ n. refl;
  more = λ n c cs k. let e : 10 * n + (c - 48) ≡ n * 10 + (c - 48) = omega arith in ap (λ (m : ℕ). decimal m cs) e;
}

model : IsNumeralModel AllDigits (decimal 0)
model = numerals_by_fold AllDigits tells decimal folds

digits_of_all : (ds : List ℕ) → 0 < length ds → AllDigits ds → IsDigits ds
digits_of_all [] l h = absurd (omega (arith, l))
digits_of_all (d ∷ ds) l h = h

pub decimal_digits : (n : ℕ) → n < 10 ^ 64 → IsDigits (fmt.decimal n)
decimal_digits n h =
    let p = decimal_is_IsNumeral_wide n h in
    digits_of_all (fmt.decimal n) p.0.0 (model.from (fmt.decimal n) p.0.1)

pub decimal_value : (n : ℕ) → n < 10 ^ 64 → decimal 0 (fmt.decimal n) ≡ n
decimal_value n h = let p = decimal_is_IsNumeral_wide n h in model.same (fmt.decimal n) p.0.1 ∙ p.1

extended_by : (all : Bool) (v n : ℕ) → all ≡ true → v ≡ n → n < 2 ^ 64
    → cond (all && ltb v (2 ^ 64)) (Some v) None ≡ Some n
extended_by true v n a e l = ap (λ (x : ℕ). cond (ltb x (2 ^ 64)) (Some x) None) e ∙ grind (arith, nat_tests)
extended_by false v n a e l = absurd cc

magnitude : (ds : List ℕ) (n : ℕ) → IsDigits ds → decimal 0 ds ≡ n → n < 2 ^ 64 → magnitude_of ds ≡ Some n
unfolding magnitude_of extended
magnitude [] n d e l = absurd d
magnitude (b ∷ bs) n d e l = extended_by (list_all is_digit (b ∷ bs)) (decimal 0 (b ∷ bs)) n d e l

no_sign : (b : ℕ) → is_digit b ≡ true → eqb b 45 ≡ false
no_sign b h = grind (arith, nat_tests)

unsigned : (ds : List ℕ) (n : ℕ) → IsDigits ds → magnitude_of ds ≡ Some n → number_of ds ≡ Some n
unfolding number_of
unsigned [] n d e = absurd d
unsigned (b ∷ bs) n d e =
    let s = no_sign b (and_parts (is_digit b) (list_all (belongs Digits) bs) d).0 in
    ap (λ t. cond t (option_and_then negated (magnitude_of bs)) (magnitude_of (b ∷ bs))) s ∙ e

negative : (n : ℕ) → 0 < n → n ≤ 2 ^ 63 → negated n ≡ Some (2 ^ 64 - n)
unfolding negated
negative n p l =
    let e : (2 ^ 64 - n) % 2 ^ 64 ≡ 2 ^ 64 - n = omega arith in
    let h : leb n (2 ^ 63) ≡ true = grind (arith, nat_tests) in
    ap (λ t. cond t (Some ((2 ^ 64 - n) % 2 ^ 64)) None) h ∙ ap (λ (x : ℕ). Some x) e

signed_number : (ds : List ℕ) (n : ℕ) → magnitude_of ds ≡ Some n → 0 < n → n ≤ 2 ^ 63
    → number_of (45 ∷ ds) ≡ Some (2 ^ 64 - n)
unfolding number_of
signed_number ds n e p l = ap (option_and_then negated) e ∙ negative n p l

decimal_magnitude : (n : ℕ) → n < 2 ^ 64 → magnitude_of (fmt.decimal n) ≡ Some n
decimal_magnitude n l = magnitude (fmt.decimal n) n (decimal_digits n (omega arith)) (decimal_value n (omega arith)) l

pub decimal_number : (n : ℕ) → n < 2 ^ 64 → number_of (fmt.decimal n) ≡ Some n
decimal_number n l = unsigned (fmt.decimal n) n (decimal_digits n (omega arith)) (decimal_magnitude n l)

pub decimal_negative : (n : ℕ) → 0 < n → n ≤ 2 ^ 63 → number_of (45 ∷ fmt.decimal n) ≡ Some (2 ^ 64 - n)
decimal_negative n p l = signed_number (fmt.decimal n) n (decimal_magnitude n (omega arith)) p l
