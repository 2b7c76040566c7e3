-- Names, numbers and values are spelled as tokens.
use Rattle.std.proofs.Common.{◌≡◌, ℕ, ◌-◌, ◌<◌, ◌/◌, ◌%◌, ◌^◌, Bool, true, false, ◌&&◌, not, ◌⊎◌, eqb, cond, List, []}
use Rattle.std.proofs.Common.{◌∷◌, ◌++◌, length, take, inl, inr, refl, ap, sym, ◌∙◌, subst, arith}
use Rattle.std.proofs.lemmas.Bool.Decides.{nat_tests}
use Rattle.std.specs.Prelude.{decimal, flat_map}
use Rattle.std.specs.List.{list_all}
use Rattle.ds_lex.specs.declared.bytes.ByteClass.{ByteClass}
use Rattle.ds_lex.specs.declared.bytes.ByteClass.TheVariants.{Blank, Semicolon, Percent, At, Hash, Bang, Quote, Minus}
use Rattle.ds_lex.specs.declared.bytes.ByteClass.TheVariants.{Digit, Letter, Mark, Other}
use Rattle.ds_lex.specs.declared.bytes.RunOf.TheVariants.{NameBytes, TextBytes}
use Rattle.ds_lex.specs.Bytes.{is_digit, class_of, begins_name, belongs}
use Rattle.ds_lex.specs.Lexed.{IsName, IsWord, IsDigits, IsText, IsAnyName, IsNameInRange}
use Rattle.ds_lex.specs.Written.{DecimalsAreDigits, DecimalsAreRead, NegativesAreRead}
use Rattle.ds_ast.specs.declared.name.Name.{Name}
use Rattle.ds_ast.specs.declared.name.Name.TheVariants.{Number, Text}
use Rattle.ds_ast.specs.Bounds as bounds
use Rattle.ds_print.specs.Names.{is_plain_name, is_plain_label, is_letter_class, hexadecimal_digit, stands_for_itself}
use Rattle.ds_print.specs.Names.{escaped, quoted, name_or_quoted, name_text, label_text, local, global, label}
use Rattle.ds_print_laws.proofs.Texts.{but_last}
use Rattle.ds_print_laws.proofs.Behind.{IsPiece}

-- what the lexer's laws say of numbers
pub record Numerals : Type 0 where
  pub digits : DecimalsAreDigits
  pub read : DecimalsAreRead
  pub negative : NegativesAreRead

both : (a b : Bool) → (a && b) ≡ true → (a ≡ true) × (b ≡ true)
both true b h = (refl, h)
both false b h = absurd cc

together : (a b : Bool) → a ≡ true → b ≡ true → (a && b) ≡ true
together true b h k = k
together false b h k = h

-- PLAIN NAMES

letter_class : (c : ByteClass) → is_letter_class c ≡ true → c ≡ Letter
letter_class Letter h = refl
letter_class Blank h = absurd cc
letter_class Semicolon h = absurd cc
letter_class Percent h = absurd cc
letter_class At h = absurd cc
letter_class Hash h = absurd cc
letter_class Bang h = absurd cc
letter_class Quote h = absurd cc
letter_class Minus h = absurd cc
letter_class Digit h = absurd cc
letter_class Mark h = absurd cc
letter_class Other h = absurd cc

pub plain_is_word : (bytes : List ℕ) → is_plain_label bytes ≡ true → IsWord bytes
plain_is_word [] h = absurd cc
plain_is_word (b ∷ bs) h = let p = both (is_letter_class (class_of b)) (list_all (belongs NameBytes) bs) h in
    (letter_class (class_of b) p.0, p.1)

plain_is_name : (bytes : List ℕ) → is_plain_name bytes ≡ true → IsName bytes
plain_is_name [] h = absurd cc
plain_is_name (b ∷ bs) h = both (begins_name (class_of b)) (list_all (belongs NameBytes) bs) h

-- a name does not begin with a digit
no_digit : (b : ℕ) (d : Bool) → begins_name (class_of b) ≡ true → (is_digit b && d) ≡ true → ⊥
unfolding class_of
no_digit b d h k = grind (arith, nat_tests)

name_no_digits : (bytes : List ℕ) → IsName bytes → IsDigits bytes → ⊥
name_no_digits [] h d = h
name_no_digits (b ∷ bs) h d = no_digit b _ h.0 d

letter_begins : (c : ByteClass) → c ≡ Letter → begins_name c ≡ true
letter_begins c h = ap begins_name h

word_no_digits : (bytes : List ℕ) → IsWord bytes → IsDigits bytes → ⊥
word_no_digits [] h d = h
word_no_digits (b ∷ bs) h d = no_digit b _ (letter_begins (class_of b) h.0) d

-- TEXTS

-- no byte is written with a quote
digit_no_quote : (d : ℕ) → not (eqb (hexadecimal_digit d) 34) ≡ true
digit_no_quote d = grind (arith, nat_tests)

itself_no_quote : (b : ℕ) → stands_for_itself b ≡ true → (not (eqb b 34) && true) ≡ true
itself_no_quote b h = grind (arith, nat_tests)

abbrev no_quotes : List ℕ → Bool
no_quotes bs = list_all (belongs TextBytes) bs

escaped_by : (b : ℕ) (itself : Bool) → stands_for_itself b ≡ itself
    → no_quotes (cond itself (b ∷ []) (92 ∷ hexadecimal_digit (b / 16) ∷ hexadecimal_digit (b % 16) ∷ [])) ≡ true
escaped_by b true h = itself_no_quote b h
escaped_by b false h = together _ _ (digit_no_quote (b / 16)) (together _ _ (digit_no_quote (b % 16)) refl)

all_behind : (xs ys : List ℕ) → no_quotes xs ≡ true → no_quotes ys ≡ true → no_quotes (xs ++ ys) ≡ true
all_behind [] ys h k = k
all_behind (x ∷ xs) ys h k = let p = both (belongs TextBytes x) (no_quotes xs) h in
    together (belongs TextBytes x) (no_quotes (xs ++ ys)) p.0 (all_behind xs ys p.1 k)

escaped_no_quotes : (bytes : List ℕ) → no_quotes (flat_map escaped bytes) ≡ true
escaped_no_quotes [] = refl
escaped_no_quotes (b ∷ bs) =
    all_behind (escaped b) (flat_map escaped bs) (escaped_by b (stands_for_itself b) refl) (escaped_no_quotes bs)

quoted_is_text : (bytes : List ℕ) → IsText (quoted bytes)
unfolding quoted class_of
quoted_is_text bytes = (refl, (flat_map escaped bytes, refl, escaped_no_quotes bytes))

quoted_no_digits : (bytes : List ℕ) → IsDigits (quoted bytes) → ⊥
unfolding quoted
quoted_no_digits bytes d = absurd cc

-- NAMES

any_by : (plain : Bool) (bytes : List ℕ) → is_plain_name bytes ≡ plain → IsAnyName (name_or_quoted plain bytes)
any_by true bytes h = inl (plain_is_name bytes h)
any_by false bytes h = inr (inr (quoted_is_text bytes))

name_by : (plain : Bool) (bytes : List ℕ) → is_plain_name bytes ≡ plain → IsDigits (name_or_quoted plain bytes) → ⊥
name_by true bytes h d = name_no_digits bytes (plain_is_name bytes h) d
name_by false bytes h d = quoted_no_digits bytes d

label_by : (plain : Bool) (bytes : List ℕ) → is_plain_label bytes ≡ plain → IsDigits (name_or_quoted plain bytes) → ⊥
label_by true bytes h d = word_no_digits bytes (plain_is_word bytes h) d
label_by false bytes h d = quoted_no_digits bytes d

-- what stands before the colon of a label
abbrev IsLabelName : List ℕ → Type 0
IsLabelName name = IsWord name ⊎ (IsDigits name ⊎ IsText name)

label_name_by : (plain : Bool) (bytes : List ℕ) → is_plain_label bytes ≡ plain
    → IsLabelName (name_or_quoted plain bytes)
label_name_by true bytes h = inl (plain_is_word bytes h)
label_name_by false bytes h = inr (inr (quoted_is_text bytes))

behind_first : (a b : ℕ) (xs ys : List ℕ) → a ∷ xs ≡ b ∷ ys → xs ≡ ys
behind_first a b xs ys e = cc

-- what stands before a last byte
before_last : (xs ys : List ℕ) (c : ℕ) → xs ++ c ∷ [] ≡ ys ++ c ∷ [] → xs ≡ ys
before_last xs ys c e = sym (but_last xs c) ∙ (ap (λ zs. take (length zs - 1) zs) e ∙ but_last ys c)

module _ (numerals : Numerals) where
  pub digits_are : (n : ℕ) → n < 2 ^ 64 → IsDigits (decimal n)
  digits_are n lt = (numerals.digits n (omega (arith, lt))).0

  decimal_in_range : (n : ℕ) → n < 2 ^ 32 → IsNameInRange (decimal n)
  decimal_in_range n lt d =
      let small : n < 10 ^ 64 = omega (arith, lt) in subst (λ m. m < 2 ^ 32) (sym (numerals.digits n small).1) lt

  any_name : (name : Name) → bounds.IsName name → IsAnyName (name_text name)
  any_name (Number n) h = inr (inl (digits_are n (omega (arith, h))))
  any_name (Text bytes) h = any_by (is_plain_name bytes) bytes refl

  name_in_range : (name : Name) → bounds.IsName name → IsNameInRange (name_text name)
  name_in_range (Number n) h = decimal_in_range n h
  name_in_range (Text bytes) h = λ d. absurd (name_by (is_plain_name bytes) bytes refl d)

  label_name : (name : Name) → bounds.IsName name → IsLabelName (label_text name)
  label_name (Number n) h = inr (inl (digits_are n (omega (arith, h))))
  label_name (Text bytes) h = label_name_by (is_plain_label bytes) bytes refl

  label_in_range : (name : Name) → bounds.IsName name → IsNameInRange (label_text name)
  label_in_range (Number n) h = decimal_in_range n h
  label_in_range (Text bytes) h = λ d. absurd (label_by (is_plain_label bytes) bytes refl d)

  pub local_is : (name : Name) → bounds.IsName name → IsPiece (local name)
  unfolding class_of
  local_is name h = record {
    before = λ ps k. record {
      are = (
        (refl, any_name name h),
        λ first bytes e. subst IsNameInRange (behind_first 37 first (name_text name) bytes e) (name_in_range name h),
        k.ends,
        k.are,
      );
    };
  }

  pub global_is : (name : Name) → bounds.IsName name → IsPiece (global name)
  unfolding class_of
  global_is name h = record {
    before = λ ps k. record {
      are = (
        (refl, any_name name h),
        λ first bytes e. subst IsNameInRange (behind_first 64 first (name_text name) bytes e) (name_in_range name h),
        k.ends,
        k.are,
      );
    };
  }

  pub label_is : (name : Name) → bounds.IsName name → IsPiece (label name)
  label_is name h = record {
    before = λ ps k. record {
      are = (
        (label_text name, refl, label_name name h),
        λ bytes e. subst IsNameInRange (before_last (label_text name) bytes 58 e) (label_in_range name h),
        k.ends,
        k.are,
      );
    };
  }
