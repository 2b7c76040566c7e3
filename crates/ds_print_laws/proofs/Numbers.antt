-- Numbers that are written with a sign are read as what they are.
use Rattle.std.proofs.Common.{◌≡◌, ℕ, ◌<◌, ◌≤◌, ◌+◌, ◌-◌, ◌*◌, ◌%◌, ◌^◌, Bool, true, false, ◌&&◌, eqb, ltb, cond}
use Rattle.std.proofs.Common.{List, [], ◌∷◌, refl, ap, ◌∙◌, arith, mod-eq_of_lt, lt-ltb, ltb-false}
use Rattle.std.specs.Prelude.{Some, decimal}
use Rattle.std.proofs.lemmas.Bool.Decides.{nat_tests}
use Rattle.std.proofs.Math.Nat.{add-mul-mod_self_left}
use Rattle.ds_lex.specs.Bytes.{is_digit}
use Rattle.ds_lex.specs.Lexed.{IsDigits}
use Rattle.ds_lex.specs.Number.{number_of}
use Rattle.ds_ast.specs.declared.ty.Scalar.{Scalar}
use Rattle.ds_ast.specs.declared.ty.Scalar.TheVariants.{I1, I8, I16, I32, I64, Ptr}
use Rattle.ds_ast.specs.Bounds.{width}
use Rattle.ds_grammar.specs.Tokens.{is_negative, fits_width}
use Rattle.ds_print.specs.Names.{signed}
use Rattle.ds_print_laws.proofs.Gets.{Known}

digit_no_minus : (b : ℕ) (c : Bool) → (is_digit b && c) ≡ true → eqb b 45 ≡ false
digit_no_minus b c h = grind (arith, nat_tests)

digits_no_minus : (bs : List ℕ) → IsDigits bs → is_negative bs ≡ false
digits_no_minus [] h = refl
digits_no_minus (b ∷ bs) h = digit_no_minus b _ h

-- bytes are read as a number that is, modulo 2 to the width, this one, and in its range
pub record IsRead (w : ℕ) (bytes : List ℕ) (n : ℕ) : Type 0 where
  pub number : ℕ
  pub is : number_of bytes ≡ Some number
  pub same : number % 2 ^ w ≡ n
  pub fits : fits_width w (is_negative bytes) number ≡ true

by_sign : (w : ℕ) (n : ℕ) (small : Bool) → (small ≡ true → IsRead w (decimal n) n)
    → (small ≡ false → IsRead w (45 ∷ decimal (2 ^ w - n)) n)
    → IsRead w (cond small (decimal n) (45 ∷ decimal (2 ^ w - n))) n
by_sign w n true h k = h refl
by_sign w n false h k = k refl

fits_positive : (w n : ℕ) (negative : Bool) → negative ≡ false → n < 2 ^ w → fits_width w negative n ≡ true
unfolding fits_width
fits_positive w n true h lt = cc
fits_positive w n false h lt = lt-ltb n (2 ^ w) lt

fits_negative : (w n : ℕ) → 2 ^ 64 - 2 ^ (w - 1) ≤ n → fits_width w true n ≡ true
unfolding fits_width
fits_negative w n le = grind (arith, nat_tests)

module _ (known : Known) where
  positive : (w n : ℕ) → n < 2 ^ w → n < 2 ^ 64 → IsRead w (decimal n) n
  positive w n lt small = record {
    number = n;
    is = known.decimals n small;
    same = mod-eq_of_lt lt;
    fits = fits_positive w n (is_negative (decimal n)) (digits_no_minus (decimal n) (known.digits n small)) lt;
  }

  negative : (w q n : ℕ) → 2 ^ w * q + 2 ^ w ≡ 2 ^ 64 → 2 ^ w ≤ 2 ^ (w - 1) + 2 ^ (w - 1) → 2 ^ (w - 1) ≤ 2 ^ 63
      → n < 2 ^ w → 2 ^ (w - 1) ≤ n → IsRead w (45 ∷ decimal (2 ^ w - n)) n
  negative w q n whole half small lt le = record {
    number = 2 ^ 64 - (2 ^ w - n);
    is = known.negatives (2 ^ w - n) (omega (arith, lt)) (omega (arith, half, small, lt, le));
    same = let e : 2 ^ 64 - (2 ^ w - n) ≡ n + 2 ^ w * q = omega (arith, whole, lt) in ap (λ m. m % 2 ^ w) e
        ∙ (add-mul-mod_self_left n (2 ^ w) q ∙ mod-eq_of_lt lt);
    fits = fits_negative w (2 ^ 64 - (2 ^ w - n)) (omega (arith, half, lt, le));
  }

  -- a number of so many bits, with its sign
  signed_by : (w q n : ℕ) → 2 ^ w * q + 2 ^ w ≡ 2 ^ 64 → 2 ^ w ≤ 2 ^ (w - 1) + 2 ^ (w - 1) → 2 ^ (w - 1) ≤ 2 ^ 63
      → 2 ^ w ≤ 2 ^ 64 → n < 2 ^ w → IsRead w (signed w n) n
  unfolding signed
  signed_by w q n whole half small within lt = by_sign w n (ltb n (2 ^ (w - 1)))
      (λ h. positive w n lt (omega (arith, lt, within)))
      (λ h. negative w q n whole half small lt (ltb-false n (2 ^ (w - 1)) h))

  pub signed_is : (s : Scalar) (n : ℕ) → n < 2 ^ width s → IsRead (width s) (signed (width s) n) n
  signed_is I1 n lt = signed_by 1 (2 ^ 63 - 1) n (omega arith) (omega arith) (omega arith) (omega arith) lt
  signed_is I8 n lt = signed_by 8 (2 ^ 56 - 1) n (omega arith) (omega arith) (omega arith) (omega arith) lt
  signed_is I16 n lt = signed_by 16 (2 ^ 48 - 1) n (omega arith) (omega arith) (omega arith) (omega arith) lt
  signed_is I32 n lt = signed_by 32 (2 ^ 32 - 1) n (omega arith) (omega arith) (omega arith) (omega arith) lt
  signed_is I64 n lt = signed_by 64 0 n (omega arith) (omega arith) (omega arith) (omega arith) lt
  signed_is Ptr n lt = signed_by 64 0 n (omega arith) (omega arith) (omega arith) (omega arith) lt
