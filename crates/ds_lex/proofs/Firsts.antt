-- What the first of the bytes is.
use Rattle.std.proofs.Common.{◌≡◌, ℕ, Bool, true, false, ◌⊎◌, List, [], ◌∷◌, refl, ◌∙◌, ap, inl, inr}
use Rattle.std.specs.Prelude.{IsTrue}
use Rattle.ds_lex.specs.declared.bytes.ByteClass.{ByteClass}
use Rattle.ds_lex.specs.declared.bytes.ByteClass.TheVariants.{Blank, Semicolon, Percent, At, Hash, Bang, Quote, Minus}
use Rattle.ds_lex.specs.declared.bytes.ByteClass.TheVariants.{Digit, Letter, Mark, Other}
use Rattle.ds_lex.specs.Bytes.{class_of, is_quote}
use Rattle.ds_lex.specs.Fault.{Begins}

-- the first of the bytes has this property
abbrev pub First : (ByteClass → Bool) → List ℕ → Type 0
First property [] = ⊥
First property (b ∷ bs) = IsTrue (property (class_of b))

-- %, @ and # begin a name
abbrev pub is_sigil : ByteClass → Bool
is_sigil Percent = true
is_sigil At = true
is_sigil Hash = true
is_sigil Blank = false
is_sigil Semicolon = false
is_sigil Bang = false
is_sigil Quote = false
is_sigil Minus = false
is_sigil Digit = false
is_sigil Letter = false
is_sigil Mark = false
is_sigil Other = false

-- a byte that begins no token, where a - has no digit behind it
abbrev pub is_stray : ByteClass → Bool
is_stray Minus = true
is_stray Other = true
is_stray Blank = false
is_stray Semicolon = false
is_stray Percent = false
is_stray At = false
is_stray Hash = false
is_stray Quote = false
is_stray Bang = false
is_stray Digit = false
is_stray Letter = false
is_stray Mark = false

pub quote_is : (k : ByteClass) → is_quote k ≡ true → k ≡ Quote
quote_is Quote h = refl
quote_is Blank h = absurd cc
quote_is Semicolon h = absurd cc
quote_is Percent h = absurd cc
quote_is At h = absurd cc
quote_is Hash h = absurd cc
quote_is Bang h = absurd cc
quote_is Minus h = absurd cc
quote_is Digit h = absurd cc
quote_is Letter h = absurd cc
quote_is Mark h = absurd cc
quote_is Other h = absurd cc

sigil_is : (k : ByteClass) → is_sigil k ≡ true → (k ≡ Percent) ⊎ ((k ≡ At) ⊎ (k ≡ Hash))
sigil_is Percent h = inl refl
sigil_is At h = inr (inl refl)
sigil_is Hash h = inr (inr refl)
sigil_is Blank h = absurd cc
sigil_is Semicolon h = absurd cc
sigil_is Bang h = absurd cc
sigil_is Quote h = absurd cc
sigil_is Minus h = absurd cc
sigil_is Digit h = absurd cc
sigil_is Letter h = absurd cc
sigil_is Mark h = absurd cc
sigil_is Other h = absurd cc

stray_is : (k : ByteClass) → is_stray k ≡ true → (k ≡ Minus) ⊎ (k ≡ Other)
stray_is Minus h = inl refl
stray_is Other h = inr refl
stray_is Blank h = absurd cc
stray_is Semicolon h = absurd cc
stray_is Percent h = absurd cc
stray_is At h = absurd cc
stray_is Hash h = absurd cc
stray_is Bang h = absurd cc
stray_is Quote h = absurd cc
stray_is Digit h = absurd cc
stray_is Letter h = absurd cc
stray_is Mark h = absurd cc

pub begins_stray : (bytes : List ℕ) → First is_stray bytes → Begins Minus bytes ⊎ Begins Other bytes
begins_stray [] f = absurd f
begins_stray (b ∷ bs) f = stray_is (class_of b) f

pub begins_sigil : (bytes : List ℕ) → First is_sigil bytes → Begins Percent bytes
    ⊎ (Begins At bytes ⊎ Begins Hash bytes)
begins_sigil [] f = absurd f
begins_sigil (b ∷ bs) f = sigil_is (class_of b) f

pub begins_quote : (bytes : List ℕ) → First is_quote bytes → Begins Quote bytes
begins_quote [] f = absurd f
begins_quote (b ∷ bs) f = quote_is (class_of b) f

pub first_of : (bytes : List ℕ) (class : ByteClass) (property : ByteClass → Bool) → property class ≡ true
    → Begins class bytes → First property bytes
first_of [] class property h b = absurd b
first_of (b ∷ bs) class property h e = ap property e ∙ h
