-- A token that begins with a digit or a sign is the one found, or there is none.
use Rattle.std.proofs.Common.{◌≡◌, ℕ, ◌<◌, ◌≤◌, Bool, true, false, not, ◌&&◌, ◌⊎◌, cond, eqb, List, [], ◌∷◌, ◌++◌}
use Rattle.std.proofs.Common.{length, take, drop, is_some, Ok, Err, suc, refl, sym, ◌∙◌, ap, subst, inl, inr, arith}
use Rattle.std.proofs.lemmas.Bool.Decides.{nat_tests}
use Rattle.std.specs.List.{list_all}
use Rattle.ds_lex.specs.declared.bytes.ByteClass.TheVariants.{Blank, Semicolon, Percent, At, Hash, Bang, Quote, Minus}
use Rattle.ds_lex.specs.declared.bytes.ByteClass.TheVariants.{Digit, Letter, Mark, Other}
use Rattle.ds_lex.specs.declared.bytes.RunOf.TheVariants.{Digits}
use Rattle.ds_lex.specs.declared.token.TokenKind.{TokenKind}
use Rattle.ds_lex.specs.declared.token.TokenKind.TheVariants.{Label, Number}
use Rattle.ds_lex.specs.declared.words.Flaw.TheVariants as flaw
use Rattle.ds_lex.specs.Bytes.{is_blank, is_digit, is_letter, is_mark, class_of, belongs}
use Rattle.ds_lex.specs.Number.{is_small, number_of}
use Rattle.ds_lex.specs.Lexed.{IsDigits, IsNameInRange, goes_on}
use Rattle.ds_lex.specs.Scan.{run_len, starts_colon, integer, numbered, counted_by, counted, signed}
use Rattle.ds_lex.proofs.Runs.{run, run_more, run_take, take_next, has_next}
use Rattle.ds_lex.proofs.Firsts.{is_stray}
use Rattle.ds_lex.proofs.Forms.{Forms}
use Rattle.ds_lex.proofs.Judged.{Only, Judged, only_behind, none_behind}
use Rattle.ds_lex.proofs.Names.{digits_len, digits_here, small_in_range, small_out_of_range}
use Rattle.ds_lex.proofs.Letters.{less_or_same, colon_is, digits_colon, same_before}

-- Numbers.
number_by : (bytes : List ℕ) (n : ℕ) → 0 < n → Only bytes Number n → (w r : Bool) → goes_on (drop n bytes) ≡ w
    → is_some (number_of (take n bytes)) ≡ r
    → Judged bytes (cond (not w && r) (Ok (Number, n)) (Err flaw.Number))
number_by bytes n p o false true h g = (o, h, g)
number_by bytes n p o false false h g = (Number, n, p, o, inr (λ r. cc))
number_by bytes n p o true r h g = (Number, n, p, o, inl (λ w. cc))

integer_judged : (bytes : List ℕ) (n : ℕ) → 0 < n → Only bytes Number n → Judged bytes (integer n bytes)
unfolding integer
integer_judged bytes n p o =
    number_by bytes n p o (goes_on (drop n bytes)) (is_some (number_of (take n bytes))) refl refl

-- The token that begins with a digit.
digit_tests : (blank semicolon percent at hash bang quote minus digit letter mark : Bool)
    → cond blank Blank (cond semicolon Semicolon (cond percent Percent
    (cond at At (cond hash Hash (cond bang Bang (cond quote Quote (cond minus Minus
    (cond digit Digit (cond letter Letter (cond mark Mark Other)))))))))) ≡ Digit → digit ≡ true
digit_tests blank semicolon percent at hash bang quote minus true letter mark h = refl
digit_tests true semicolon percent at hash bang quote minus false letter mark h = absurd cc
digit_tests false true percent at hash bang quote minus false letter mark h = absurd cc
digit_tests false false true at hash bang quote minus false letter mark h = absurd cc
digit_tests false false false true hash bang quote minus false letter mark h = absurd cc
digit_tests false false false false true bang quote minus false letter mark h = absurd cc
digit_tests false false false false false true quote minus false letter mark h = absurd cc
digit_tests false false false false false false true minus false letter mark h = absurd cc
digit_tests false false false false false false false true false letter mark h = absurd cc
digit_tests false false false false false false false false false true mark h = absurd cc
digit_tests false false false false false false false false false false true h = absurd cc
digit_tests false false false false false false false false false false false h = absurd cc

digit_is : (b : ℕ) → class_of b ≡ Digit → is_digit b ≡ true
unfolding class_of
digit_is b h = digit_tests (is_blank b) (eqb b 59) (eqb b 37) (eqb b 64) (eqb b 35) (eqb b 33) (eqb b 34) (eqb b 45)
    (is_digit b) (is_letter b) (is_mark b) h

counted_label : (b : ℕ) (bs : List ℕ) → class_of b ≡ Digit → is_digit b ≡ true
    → starts_colon (drop (run_len Digits bs) bs) ≡ true → Only (b ∷ bs) Label (suc (suc (run_len Digits bs)))
counted_label b bs c d h =
    let r = run_len Digits bs in
    let u = run Digits bs in
    let q = colon_is (drop r bs) h in
    let e = ap (λ (xs : List ℕ). b ∷ xs) (take_next r bs 58 q.0 q.1) in
    let all = ap (λ t. t && list_all (belongs Digits) (take r bs)) d ∙ u.all in
    let others : (other : TokenKind) (i : ℕ) → i ≤ length bs → Forms Digit b (take i bs) other → (i < suc r)
    ⊎ ((i ≡ suc r) × (other ≡ Label)) =
    λ other i l s. elim s [
      | inl w ↦ inl (omega (arith, run_take Digits bs i l w.1))
      | inr w ↦ inr ((digits_colon bs i l w.1).0, w.0)
    ] in
    only_behind b bs Digit Label (suc r) c (has_next r bs 58 q.0 q.1) (b ∷ take r bs, e, inr (inl all)) others

counted_number : (b : ℕ) (bs : List ℕ) → class_of b ≡ Digit → is_digit b ≡ true
    → starts_colon (drop (run_len Digits bs) bs) ≡ false → Only (b ∷ bs) Number (suc (run_len Digits bs))
counted_number b bs c d h =
    let r = run_len Digits bs in
    let u = run Digits bs in
    let all = ap (λ t. t && list_all (belongs Digits) (take r bs)) d ∙ u.all in
    let others : (other : TokenKind) (i : ℕ) → i ≤ length bs → Forms Digit b (take i bs) other → (i < r)
    ⊎ ((i ≡ r) × (other ≡ Number)) =
    λ other i l s. elim s [
      | inl w ↦ less_or_same i r (other ≡ Number) (run_take Digits bs i l w.1) w.0
      | inr w ↦ absurd (let e = (digits_colon bs i l w.1).1 in cc)
    ] in
    only_behind b bs Digit Number r c u.within (inl all) others

label_by : (bytes digits : List ℕ) (n : ℕ) → 0 < n → Only bytes Label n → take n bytes ≡ digits ++ 58 ∷ []
    → IsDigits digits
    → (t : Bool) → is_small digits ≡ t → Judged bytes (cond t (Ok (Label, n)) (Err flaw.Number))
label_by bytes digits n p o e d true s =
    let P : List ℕ → Type 0 = λ name. IsNameInRange name in
    (o, tt, λ name h. subst P (same_before digits name 58 (sym e ∙ h)) (small_in_range digits s))
label_by bytes digits n p o e d false s = (Label, n, p, o, inr (λ r. small_out_of_range digits s d (r digits e)))

label : (bytes digits : List ℕ) (n : ℕ) → 0 < n → Only bytes Label n → take n bytes ≡ digits ++ 58 ∷ []
    → IsDigits digits → Judged bytes (numbered Label n digits)
unfolding numbered
label bytes digits n p o e d = label_by bytes digits n p o e d (is_small digits) refl

digit_by : (b : ℕ) (bs : List ℕ) → class_of b ≡ Digit → (t : Bool) → starts_colon (drop (run_len Digits bs) bs) ≡ t
    → Judged (b ∷ bs) (cond t (numbered Label (suc (suc (run_len Digits bs))) (b ∷ take (run_len Digits bs) bs))
    (integer (suc (run_len Digits bs)) (b ∷ bs)))
digit_by b bs c true h =
    let r = run_len Digits bs in
    let d = digit_is b c in
    let q = colon_is (drop r bs) h in
    let e = ap (λ (xs : List ℕ). b ∷ xs) (take_next r bs 58 q.0 q.1) in
    let all = ap (λ t. t && list_all (belongs Digits) (take r bs)) d ∙ (run Digits bs).all in
    label (b ∷ bs) (b ∷ take r bs) (suc (suc r)) (omega arith) (counted_label b bs c d h) e all
digit_by b bs c false h =
    integer_judged (b ∷ bs) (suc (run_len Digits bs)) (omega arith) (counted_number b bs c (digit_is b c) h)

pub digit : (b : ℕ) (bs : List ℕ) → class_of b ≡ Digit → Judged (b ∷ bs) (counted (b ∷ bs))
unfolding counted
digit b bs c =
    let P : ℕ → Type 0 = λ n. Judged (b ∷ bs) (counted_by n (b ∷ bs)) in
    subst P (sym (run_more Digits b bs (digit_is b c)))
    (digit_by b bs c (starts_colon (drop (run_len Digits bs) bs)) refl)

-- The token that begins with a sign.
sign_by : (b : ℕ) (bs : List ℕ) → class_of b ≡ Minus → (t : Bool) → eqb (run_len Digits bs) 0 ≡ t
    → Judged (b ∷ bs) (cond t (Err flaw.Byte) (integer (suc (run_len Digits bs)) (b ∷ bs)))
sign_by b bs c true e =
    let z : run_len Digits bs ≡ 0 = grind (arith, nat_tests) in (
      ap is_stray c,
      none_behind b bs Minus c (λ other i l s. let p = digits_len bs i l s.1 in
          omega (arith, p.1, p.2, z)),
    )
sign_by b bs c false e =
    let n = run_len Digits bs in
    let z : 0 < n = grind (arith, nat_tests) in
    let others : (other : TokenKind) (i : ℕ) → i ≤ length bs → Forms Minus b (take i bs) other → (i < n)
    ⊎ ((i ≡ n) × (other ≡ Number)) =
    λ other i l s. less_or_same i n (other ≡ Number) (digits_len bs i l s.1).2 s.0 in
    integer_judged (b ∷ bs) (suc n) (omega arith)
    (only_behind b bs Minus Number n c (run Digits bs).within (inr (c, digits_here bs z)) others)

pub sign : (b : ℕ) (bs : List ℕ) → class_of b ≡ Minus → Judged (b ∷ bs) (signed (b ∷ bs))
unfolding signed
sign b bs c = sign_by b bs c (eqb (run_len Digits bs) 0) refl
