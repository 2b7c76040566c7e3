-- What no token goes on with.
use Rattle.std.proofs.Common.{◌≡◌, ℕ, ◌≤◌, Bool, true, false, ◌||◌, ◌⊎◌, eqb, List, [], ◌∷◌, take, drop, suc, zero}
use Rattle.std.proofs.Common.{refl, sym, ◌∙◌, ap, inl, inr, arith}
use Rattle.std.proofs.lemmas.Bool.Decides.{nat_tests}
use Rattle.std.specs.Prelude.{IsTrue}
use Rattle.ds_lex.specs.declared.bytes.ByteClass.{ByteClass}
use Rattle.ds_lex.specs.declared.bytes.ByteClass.TheVariants.{Blank, Quote, Digit, Mark, Other}
use Rattle.ds_lex.specs.declared.bytes.RunOf.{RunOf}
use Rattle.ds_lex.specs.declared.bytes.RunOf.TheVariants.{NameBytes, Digits}
use Rattle.ds_lex.specs.Bytes.{is_blank, is_digit, is_mark, class_of, stands_in_name, belongs, is_quote}
use Rattle.ds_lex.specs.Lexed.{IsText, goes_on}
use Rattle.ds_lex.specs.Scan.{run_len, starts_colon}
use Rattle.ds_lex.specs.Written.{ends_tokens}
use Rattle.ds_lex.proofs.Runs.{first_belongs, run_more, run_none, run_nil}
use Rattle.ds_lex.proofs.Forms.{digit_class}

pub blank_class : (b : ℕ) → is_blank b ≡ true → class_of b ≡ Blank
unfolding class_of
blank_class b h = grind (arith, nat_tests)

mark_class : (b : ℕ) → is_mark b ≡ true → class_of b ≡ Mark
unfolding class_of
mark_class b h = grind (arith, nat_tests)

colon_class : (b : ℕ) → eqb b 58 ≡ true → class_of b ≡ Other
unfolding class_of
colon_class b h = let e : b ≡ 58 = grind (arith, nat_tests) in ap class_of e

-- the bytes begin with a quote
abbrev pub starts_quote : List ℕ → Bool
starts_quote [] = false
starts_quote (b ∷ bs) = is_quote (class_of b)

-- these bytes go on no name, no digits and no label, and begin no text
pub record Stops (rest : List ℕ) : Type 0 where
  pub name : first_belongs NameBytes rest ≡ false
  pub digits : first_belongs Digits rest ≡ false
  pub colon : starts_colon rest ≡ false
  pub quote : starts_quote rest ≡ false

no_digit : (b : ℕ) (class : ByteClass) → class_of b ≡ class → (class ≡ Digit → ⊥) → (t : Bool) → is_digit b ≡ t
    → t ≡ false
no_digit b class c n true e = absurd (n (sym c ∙ digit_class b e))
no_digit b class c n false e = refl

no_colon : (b : ℕ) (class : ByteClass) → class_of b ≡ class → (class ≡ Other → ⊥) → (t : Bool) → eqb b 58 ≡ t
    → t ≡ false
no_colon b class c n true e = absurd (n (sym c ∙ colon_class b e))
no_colon b class c n false e = refl

-- a byte of these classes ends what stands before it
stops_at : (b : ℕ) (bs : List ℕ) (class : ByteClass) → class_of b ≡ class → stands_in_name class ≡ false
    → is_quote class ≡ false
    → (class ≡ Digit → ⊥) → (class ≡ Other → ⊥) → Stops (b ∷ bs)
stops_at b bs class c n q d o = record {
  name = ap stands_in_name c ∙ n;
  digits = no_digit b class c d (is_digit b) refl;
  colon = no_colon b class c o (eqb b 58) refl;
  quote = ap is_quote c ∙ q;
}

or_parts : (a b : Bool) → (a || b) ≡ true → (a ≡ true) ⊎ (b ≡ true)
or_parts true b h = inl refl
or_parts false b h = inr h

blank_other : (class : ByteClass) → class ≡ Blank → class ≡ Other → ⊥
blank_other class a b = cc

blank_digit : (class : ByteClass) → class ≡ Blank → class ≡ Digit → ⊥
blank_digit class a b = cc

mark_other : (class : ByteClass) → class ≡ Mark → class ≡ Other → ⊥
mark_other class a b = cc

mark_digit : (class : ByteClass) → class ≡ Mark → class ≡ Digit → ⊥
mark_digit class a b = cc

pub stops : (rest : List ℕ) → IsTrue (ends_tokens rest) → Stops rest
stops [] h = record { name = refl; digits = refl; colon = refl; quote = refl }
stops (b ∷ bs) h =
    elim (or_parts (is_blank b) (is_mark b) h) [
      | inl e ↦ stops_at b bs Blank (blank_class b e) refl refl (blank_digit Blank refl) (blank_other Blank refl)
      | inr e ↦ stops_at b bs Mark (mark_class b e) refl refl (mark_digit Mark refl) (mark_other Mark refl)
    ]

pub stops_number : (rest : List ℕ) → Stops rest → goes_on rest ≡ false
stops_number [] s = refl
stops_number (b ∷ bs) s = s.name

-- a run ends where the bytes stop
run_next : (set : RunOf) (b : ℕ) (bs : List ℕ) (t : Bool) → belongs set b ≡ t
    → run_len set (b ∷ bs) ≤ suc (run_len set bs)
run_next set b bs true h = omega (arith, run_more set b bs h)
run_next set b bs false h = omega (arith, run_none set b bs h)

pub run_stops : (set : RunOf) (bs : List ℕ) (j : ℕ) → first_belongs set (drop j bs) ≡ false → run_len set bs ≤ j
run_stops set [] j h = omega (arith, run_nil set)
run_stops set (b ∷ bs) zero h = omega (arith, run_none set b bs h)
run_stops set (b ∷ bs) (suc j) h = omega (arith, run_next set b bs (belongs set b) refl, run_stops set bs j h)

-- a text begins with a quote, and with no colon
pub text_quote : (bs : List ℕ) (i : ℕ) → IsText (take i bs) → starts_quote bs ≡ true
text_quote bs zero s = absurd s
text_quote [] (suc i) s = absurd s
text_quote (b ∷ bs) (suc i) s = ap is_quote s.0

quote_other : (class : ByteClass) → class ≡ Quote → class ≡ Other → ⊥
quote_other class a b = cc

pub text_no_colon : (bs : List ℕ) (i : ℕ) → IsText (take i bs) → starts_colon bs ≡ false
text_no_colon bs zero s = absurd s
text_no_colon [] (suc i) s = absurd s
text_no_colon (b ∷ bs) (suc i) s = no_colon b Quote s.0 (quote_other Quote refl) (eqb b 58) refl
