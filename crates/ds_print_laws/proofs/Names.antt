-- The names that are written are read back.
use Rattle.std.proofs.Common.{◌≡◌, ℕ, ◌<◌, ◌^◌, Bool, true, false, ◌&&◌, eqb, List, [], ◌∷◌, ◌++◌, refl, ap, ◌∙◌}
use Rattle.std.proofs.Common.{arith, lt-ltb}
use Rattle.std.specs.Prelude.{All, Some, decimal}
use Rattle.std.specs.List.{list_all}
use Rattle.std.proofs.lemmas.Bool.Decides.{nat_tests}
use Rattle.ds_lex.specs.declared.bytes.ByteClass.{ByteClass}
use Rattle.ds_lex.specs.declared.bytes.ByteClass.TheVariants.{Blank, Semicolon, Percent, At, Hash, Bang, Quote, Minus}
use Rattle.ds_lex.specs.declared.bytes.ByteClass.TheVariants.{Digit, Letter, Mark, Other}
use Rattle.ds_lex.specs.Bytes.{is_digit, class_of, begins_name}
use Rattle.ds_lex.specs.Lexed.{IsDigits}
use Rattle.ds_lex.specs.Number.{number_of}
use Rattle.ds_ast.specs.declared.name.Name.{Name}
use Rattle.ds_ast.specs.declared.name.Name.TheVariants.{Number, Text}
use Rattle.ds_ast.specs.Bounds.{IsName}
use Rattle.ds_grammar.specs.Tokens.{name_of}
use Rattle.ds_grammar.specs.Functions.{label_name}
use Rattle.ds_print.specs.Names.{is_plain_name, is_plain_label, is_letter_class, quoted, name_or_quoted, name_text}
use Rattle.ds_print.specs.Names.{label_text}
use Rattle.ds_print_laws.proofs.Gets.{Known}
use Rattle.ds_print_laws.proofs.Texts.{but_last, quoted_value}

-- a digit begins no name
no_digit : (b : ℕ) → begins_name (class_of b) ≡ true → is_digit b ≡ false
unfolding class_of
no_digit b h = grind (arith, nat_tests)

-- nor does a quote
no_quote : (b : ℕ) → begins_name (class_of b) ≡ true → eqb b 34 ≡ false
unfolding class_of
no_quote b h = grind (arith, nat_tests)

letter_begins : (c : ByteClass) → is_letter_class c ≡ true → begins_name c ≡ true
letter_begins Letter h = refl
letter_begins Blank h = cc
letter_begins Semicolon h = cc
letter_begins Percent h = cc
letter_begins At h = cc
letter_begins Hash h = cc
letter_begins Bang h = cc
letter_begins Quote h = cc
letter_begins Minus h = cc
letter_begins Digit h = cc
letter_begins Mark h = cc
letter_begins Other h = cc

both_are : (a b : Bool) → (a && b) ≡ true → a ≡ true
both_are true b h = refl
both_are false b h = h

-- bytes that begin as a name are the name itself
itself : (b : ℕ) (bs : List ℕ) → begins_name (class_of b) ≡ true → name_of (b ∷ bs) ≡ Some (Text (b ∷ bs))
unfolding name_of
itself b bs h = rw (no_digit b h, no_quote b h) refl

plain_is_itself : (bytes : List ℕ) → is_plain_name bytes ≡ true → name_of bytes ≡ Some (Text bytes)
plain_is_itself [] h = cc
plain_is_itself (b ∷ bs) h = itself b bs (both_are (begins_name (class_of b)) _ h)

plain_label_is_itself : (bytes : List ℕ) → is_plain_label bytes ≡ true → name_of bytes ≡ Some (Text bytes)
plain_label_is_itself [] h = cc
plain_label_is_itself (b ∷ bs) h =
    itself b bs (letter_begins (class_of b) (both_are (is_letter_class (class_of b)) _ h))

quoted_is_name : (bytes : List ℕ) → All (λ b. b < 2 ^ 8) bytes → name_of (quoted bytes) ≡ Some (Text bytes)
unfolding name_of quoted
quoted_is_name bytes h = ap (λ xs. Some (Text xs)) (quoted_value bytes h)

by_plain : (plain : Bool) (bytes : List ℕ) → All (λ b. b < 2 ^ 8) bytes
    → (plain ≡ true → name_of bytes ≡ Some (Text bytes)) → name_of (name_or_quoted plain bytes) ≡ Some (Text bytes)
by_plain true bytes h is = is refl
by_plain false bytes h is = quoted_is_name bytes h

-- digits are all digits
pub all_digits : (bs : List ℕ) → IsDigits bs → list_all is_digit bs ≡ true
all_digits [] h = absurd h
all_digits (b ∷ bs) h = h

number_is : (bs : List ℕ) (n : ℕ) → list_all is_digit bs ≡ true → number_of bs ≡ Some n → n < 2 ^ 32
    → name_of bs ≡ Some (Number n)
unfolding name_of
number_is bs n d e lt = rw (d, e, lt-ltb n (2 ^ 32) lt) refl

module _ (known : Known) where
  number_name : (n : ℕ) → n < 2 ^ 32 → name_of (decimal n) ≡ Some (Number n)
  number_name n lt = let small : n < 2 ^ 64 = omega (arith, lt) in
      number_is (decimal n) n (all_digits (decimal n) (known.digits n small)) (known.decimals n small) lt

  -- the name behind % or @ is read
  pub name_is : (name : Name) → IsName name → name_of (name_text name) ≡ Some name
  name_is (Number n) h = number_name n h
  name_is (Text bytes) h = by_plain (is_plain_name bytes) bytes h (plain_is_itself bytes)

  -- the name before a colon is read
  pub label_is : (name : Name) → IsName name → label_name (label_text name ++ 58 ∷ []) ≡ Some name
  label_is (Number n) h = ap name_of (but_last (decimal n) 58) ∙ number_name n h
  label_is (Text bytes) h = ap name_of (but_last (label_text (Text bytes)) 58)
      ∙ by_plain (is_plain_label bytes) bytes h (plain_label_is_itself bytes)
