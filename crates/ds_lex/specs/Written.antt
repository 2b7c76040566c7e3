-- Texts that are written token by token, with blanks between them.
use Rattle.std.specs.Prelude.{◌≡◌, ℕ, ◌+◌, ◌-◌, ◌<◌, ◌≤◌, ◌^◌, Bool, true, ◌||◌, List, [], ◌∷◌, ◌++◌, length, map}
use Rattle.std.specs.Prelude.{Some, IsTrue}
use Rattle.std.specs.Fmt as fmt
use Rattle.std.specs.List.{list_all}
use Rattle.ds_lex.specs.declared.token.TokenKind.{TokenKind}
use Rattle.ds_lex.specs.declared.token.TokenKind.TheVariants.{Word, Label, Local, Global, Attr, Meta, Number, Text}
use Rattle.ds_lex.specs.declared.token.TokenKind.TheVariants.{CText, Punct, End}
use Rattle.ds_lex.specs.declared.token.Token.{Token}
use Rattle.ds_lex.specs.Bytes.{is_blank, is_mark}
use Rattle.ds_lex.specs.Number.{decimal, number_of}
use Rattle.ds_lex.specs.Lexed.{IsSpelling, IsInRange, IsDigits, Lexed, spelling}

-- a piece of a text: blanks, or a token by its kind and its bytes
pub data Piece : Type 0 where
  Gap : List ℕ → Piece
  Written : TokenKind → List ℕ → Piece

-- the bytes of a piece
abbrev pub piece_bytes : Piece → List ℕ
piece_bytes (Gap bytes) = bytes
piece_bytes (Written kind bytes) = bytes

-- the text that is written piece by piece
abbrev pub written : List Piece → List ℕ
written [] = []
written (p ∷ ps) = piece_bytes p ++ written ps

-- the tokens of these pieces, which stand behind so many bytes, and the end of the text
abbrev pub tokens_of : ℕ → List Piece → List Token
tokens_of at [] = (record { kind = End; start = at; end = at }) ∷ []
tokens_of at (Gap bytes ∷ ps) = tokens_of (at + length bytes) ps
tokens_of at (Written kind bytes ∷ ps) =
    (record { kind = kind; start = at; end = at + length bytes }) ∷ tokens_of (at + length bytes) ps

-- no token goes on with these bytes: nothing stands there, or a blank, a bracket, or one of , = * < >
abbrev pub ends_tokens : List ℕ → Bool
ends_tokens [] = true
ends_tokens (b ∷ bs) = is_blank b || is_mark b

-- a token of this kind ends before these bytes; a bracket or the like ends before any
abbrev pub EndsBefore : TokenKind → List ℕ → Type 0
EndsBefore Word rest = IsTrue (ends_tokens rest)
EndsBefore Label rest = IsTrue (ends_tokens rest)
EndsBefore Local rest = IsTrue (ends_tokens rest)
EndsBefore Global rest = IsTrue (ends_tokens rest)
EndsBefore Attr rest = IsTrue (ends_tokens rest)
EndsBefore Meta rest = IsTrue (ends_tokens rest)
EndsBefore Number rest = IsTrue (ends_tokens rest)
EndsBefore Text rest = IsTrue (ends_tokens rest)
EndsBefore CText rest = IsTrue (ends_tokens rest)
EndsBefore Punct rest = Unit {0}
EndsBefore End rest = ⊥

-- the gaps are blanks, and each token is spelled, in its range, and ends before what is written behind it
abbrev pub AreApart : List Piece → Type 0
AreApart [] = Unit {0}
AreApart (Gap bytes ∷ ps) = IsTrue (list_all is_blank bytes) × AreApart ps
AreApart (Written kind bytes ∷ ps) =
    IsSpelling kind bytes × IsInRange kind bytes × EndsBefore kind (written ps) × AreApart ps

-- the kind, the bytes and the place of each token that is written behind so many bytes, and of the end of the text
abbrev pub spelled_from : ℕ → List Piece → List (TokenKind × List ℕ × ℕ)
spelled_from at [] = (End, [], at) ∷ []
spelled_from at (Gap bytes ∷ ps) = spelled_from (at + length bytes) ps
spelled_from at (Written kind bytes ∷ ps) = (kind, bytes, at) ∷ spelled_from (at + length bytes) ps

-- pieces that are apart are the tokens of their text
abbrev pub WrittenIsLexed : Type 0
WrittenIsLexed = (ps : List Piece) → AreApart ps → Lexed (written ps) (tokens_of 0 ps)

-- the spelling of each is what was written
abbrev pub WrittenIsSpelled : Type 0
WrittenIsSpelled =
    (ps : List Piece) → map (λ t. (t.kind, spelling (written ps) t, t.start)) (tokens_of 0 ps) ≡ spelled_from 0 ps

-- a number of at most 64 digits, which are as many as the library writes, is read as it is written in decimal: digits
-- alone, with this value
abbrev pub DecimalsAreDigits : Type 0
DecimalsAreDigits = (n : ℕ) → n < 10 ^ 64 → IsDigits (fmt.decimal n) × (decimal 0 (fmt.decimal n) ≡ n)

-- below 2 ^ 64 it is a number token's
abbrev pub DecimalsAreRead : Type 0
DecimalsAreRead = (n : ℕ) → n < 2 ^ 64 → number_of (fmt.decimal n) ≡ Some n

-- behind a minus sign (45) it is that modulo 2 ^ 64, where it is at most 2 ^ 63
abbrev pub NegativesAreRead : Type 0
NegativesAreRead = (n : ℕ) → 0 < n → n ≤ 2 ^ 63 → number_of (45 ∷ fmt.decimal n) ≡ Some (2 ^ 64 - n)

-- a text has one list of tokens
abbrev pub TokensAreUnique : Type 0
TokensAreUnique = (text : List ℕ) (ts us : List Token) → Lexed text ts → Lexed text us → ts ≡ us
