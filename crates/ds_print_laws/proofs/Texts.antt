-- What a text between quotes stands for, where it was written byte by byte.
use Rattle.std.proofs.Common.{◌≡◌, ℕ, ◌<◌, ◌+◌, ◌-◌, ◌*◌, ◌/◌, ◌%◌, ◌^◌, Bool, true, false, eqb, cond, List, [], ◌∷◌}
use Rattle.std.proofs.Common.{◌++◌, length, take, refl, ap, ◌∙◌, arith}
use Rattle.std.specs.Prelude.{flat_map, All}
use Rattle.std.proofs.Math.Nat.{div-add-mod}
use Rattle.std.proofs.Math.Seq.{take-append_seam}
use Rattle.std.proofs.Common.{length-append}
use Rattle.std.proofs.lemmas.Bool.Decides.{nat_tests}
use Rattle.ds_print_laws.proofs.Alls.{all_first, all_rest}
use Rattle.ds_grammar.specs.Texts.{is_hexadecimal, hexadecimal, text_value, text_of}
use Rattle.ds_print.specs.Names.{hexadecimal_digit, stands_for_itself, escaped, quoted}

-- a byte that is no backslash stands for itself
plain_byte : (b : ℕ) (bs : List ℕ) → eqb b 92 ≡ false → text_value (b ∷ bs) ≡ b ∷ text_value bs
unfolding text_value
plain_byte b [] h = refl
plain_byte b (c ∷ []) h = rw h refl
plain_byte b (c ∷ d ∷ ds) h = rw h refl

digit_is : (d : ℕ) → d < 16 → is_hexadecimal (hexadecimal_digit d) ≡ true
digit_is d lt = grind (arith, nat_tests)

digit_no_backslash : (d : ℕ) → d < 16 → eqb (hexadecimal_digit d) 92 ≡ false
digit_no_backslash d lt = grind (arith, nat_tests)

digit_value : (d : ℕ) → d < 16 → hexadecimal (hexadecimal_digit d) ≡ d
digit_value d lt = grind (arith, nat_tests)

coded_byte : (b h l : ℕ) (bs : List ℕ) → is_hexadecimal h ≡ true → is_hexadecimal l ≡ true → eqb h 92 ≡ false
    → 16 * hexadecimal h + hexadecimal l ≡ b
    → text_value (92 ∷ h ∷ l ∷ bs) ≡ b ∷ text_value bs
unfolding text_value
coded_byte b h l bs p q no_double e = rw (no_double, p, q, e) refl

-- a byte below 256 is written as what it is
one_escaped : (b : ℕ) (bs : List ℕ) (itself : Bool) → b < 256 → (itself ≡ true → eqb b 92 ≡ false)
    → text_value (cond itself (b ∷ []) (92 ∷ hexadecimal_digit (b / 16) ∷ hexadecimal_digit (b % 16) ∷ []) ++ bs)
    ≡ b ∷ text_value bs
one_escaped b bs true lt plain = plain_byte b bs (plain refl)
one_escaped b bs false lt plain =
    let high : b / 16 < 16 = omega (arith, div-add-mod b 16) in
    let low : b % 16 < 16 = omega (arith, div-add-mod b 16) in
    coded_byte b (hexadecimal_digit (b / 16)) (hexadecimal_digit (b % 16)) bs (digit_is (b / 16) high)
    (digit_is (b % 16) low) (digit_no_backslash (b / 16) high)
    (rw (digit_value (b / 16) high, digit_value (b % 16) low) (div-add-mod b 16))

itself_is_plain : (b : ℕ) → stands_for_itself b ≡ true → eqb b 92 ≡ false
itself_is_plain b h = grind (arith, nat_tests)

pub escaped_value : (bytes : List ℕ) → All (λ b. b < 2 ^ 8) bytes → text_value (flat_map escaped bytes) ≡ bytes
unfolding text_value
escaped_value [] h = refl
escaped_value (b ∷ bs) h = one_escaped b (flat_map escaped bs) (stands_for_itself b)
    (all_first (λ b. b < 2 ^ 8) b bs h) (itself_is_plain b)
    ∙ ap (λ xs. b ∷ xs) (escaped_value bs (all_rest (λ b. b < 2 ^ 8) b bs h))

-- all but the last byte
pub but_last : (bs : List ℕ) (c : ℕ) → take (length (bs ++ c ∷ []) - 1) (bs ++ c ∷ []) ≡ bs
but_last bs c = let e : length (bs ++ c ∷ []) - 1 ≡ length bs = omega (arith, length-append bs (c ∷ [])) in
    ap (λ n. take n (bs ++ c ∷ [])) e ∙ take-append_seam bs (c ∷ [])

pub quoted_value : (bytes : List ℕ) → All (λ b. b < 2 ^ 8) bytes → text_of (quoted bytes) ≡ bytes
unfolding quoted
quoted_value bytes h = ap text_value (but_last (flat_map escaped bytes) 34) ∙ escaped_value bytes h
