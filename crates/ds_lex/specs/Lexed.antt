-- The tokens of a text.
use Rattle.std.specs.Prelude.{◌≡◌, ℕ, ◌-◌, ◌<◌, ◌≤◌, ◌^◌, Bool, true, false, not, ◌==◌, ◌⊎◌, List, [], ◌∷◌, ◌++◌}
use Rattle.std.specs.Prelude.{length, take, drop, slice_range, IsTrue, IsFalse, IsSome, MatchBool}
use Rattle.std.specs.List.{list_all}
use Rattle.ds_lex.specs.declared.bytes.ByteClass.{ByteClass}
use Rattle.ds_lex.specs.declared.bytes.ByteClass.TheVariants.{Blank, Semicolon, Percent, At, Hash, Bang, Quote, Minus}
use Rattle.ds_lex.specs.declared.bytes.ByteClass.TheVariants.{Letter, Mark}
use Rattle.ds_lex.specs.declared.bytes.RunOf.TheVariants.{NameBytes, Digits, TextBytes}
use Rattle.ds_lex.specs.declared.token.TokenKind.{TokenKind}
use Rattle.ds_lex.specs.declared.token.TokenKind.TheVariants.{Word, Label, Local, Global, Attr, Meta, Number, Text}
use Rattle.ds_lex.specs.declared.token.TokenKind.TheVariants.{CText, Punct, End}
use Rattle.ds_lex.specs.declared.token.Token.{Token}
use Rattle.ds_lex.specs.Bytes.{class_of, begins_name, belongs}
use Rattle.ds_lex.specs.Number.{decimal, number_of}

-- Between tokens stand blanks and comments. A comment runs from a semicolon to a line feed (10), or to the end of the
-- text. IsGapFrom inside gap rest: the bytes of gap stand before a token, rest follows them, and a comment is open
-- before them.
abbrev pub IsGapFrom : Bool → List ℕ → List ℕ → Type 0
IsGapFrom false [] rest = Unit {0}
IsGapFrom true [] rest = rest ≡ []
IsGapFrom false (b ∷ bs) rest =
    ((class_of b ≡ Blank) × IsGapFrom false bs rest) ⊎ ((class_of b ≡ Semicolon) × IsGapFrom true bs rest)
IsGapFrom true (b ∷ bs) rest = IsGapFrom (not (b == 10)) bs rest

-- a letter or -, and then any number of letters, - and digits
abbrev pub IsName : List ℕ → Type 0
IsName [] = ⊥
IsName (b ∷ bs) = IsTrue (begins_name (class_of b)) × IsTrue (list_all (belongs NameBytes) bs)

-- a name that does not begin with -
abbrev pub IsWord : List ℕ → Type 0
IsWord [] = ⊥
IsWord (b ∷ bs) = (class_of b ≡ Letter) × IsTrue (list_all (belongs NameBytes) bs)

-- one or more digits
abbrev pub IsDigits : List ℕ → Type 0
IsDigits [] = ⊥
IsDigits (b ∷ bs) = IsTrue (list_all (belongs Digits) (b ∷ bs))

-- a byte of this class, and then what the property says
abbrev pub IsBehind : ByteClass → (List ℕ → Type 0) → List ℕ → Type 0
IsBehind class IsRest [] = ⊥
IsBehind class IsRest (b ∷ bs) = (class_of b ≡ class) × IsRest bs

-- the bytes up to and with a quote (34), of which none before it is one; no backslash hides a quote
abbrev pub IsClosed : List ℕ → Type 0
IsClosed bytes = (inside : List ℕ) × (bytes ≡ inside ++ 34 ∷ []) × IsTrue (list_all (belongs TextBytes) inside)

-- a quote, bytes other than quotes, and a quote
abbrev pub IsText : List ℕ → Type 0
IsText = IsBehind Quote IsClosed

-- c (99) and then, at once, a text
abbrev pub IsCText : List ℕ → Type 0
IsCText [] = ⊥
IsCText (b ∷ bs) = (b ≡ 99) × IsText bs

-- a name, digits or a text
abbrev pub IsAnyName : List ℕ → Type 0
IsAnyName bytes = IsName bytes ⊎ (IsDigits bytes ⊎ IsText bytes)

-- nothing, a name or digits
abbrev pub IsMetaName : List ℕ → Type 0
IsMetaName bytes = (bytes ≡ []) ⊎ (IsName bytes ⊎ IsDigits bytes)

-- a word, digits or a text, and then, at once, a colon (58)
abbrev pub IsLabel : List ℕ → Type 0
IsLabel bytes = (name : List ℕ) × (bytes ≡ name ++ 58 ∷ []) × (IsWord name ⊎ (IsDigits name ⊎ IsText name))

-- digits, maybe behind -
abbrev pub IsInteger : List ℕ → Type 0
IsInteger bytes = IsDigits bytes ⊎ IsBehind Minus IsDigits bytes

-- The spellings of each kind of token, without their ranges, which IsInRange has. Which spelling is the longest is
-- judged without ranges too: 4294967296: is a label whose name is too large, and no number.
abbrev pub IsSpelling : TokenKind → List ℕ → Type 0
IsSpelling Word bytes = IsWord bytes
IsSpelling Label bytes = IsLabel bytes
IsSpelling Local bytes = IsBehind Percent IsAnyName bytes
IsSpelling Global bytes = IsBehind At IsAnyName bytes
IsSpelling Attr bytes = IsBehind Hash IsDigits bytes
IsSpelling Meta bytes = IsBehind Bang IsMetaName bytes
IsSpelling Number bytes = IsInteger bytes
IsSpelling Text bytes = IsText bytes
IsSpelling CText bytes = IsCText bytes
IsSpelling Punct bytes = IsBehind Mark (λ more. more ≡ []) bytes
IsSpelling End bytes = bytes ≡ []

-- the first n of the bytes spell a token of this kind, and no more of them spell a token of any kind
pub record IsLongest (bytes : List ℕ) (kind : TokenKind) (n : ℕ) : Type 0 where
  pub within : n ≤ length bytes
  pub spelled : IsSpelling kind (take n bytes)
  pub longest : (other : TokenKind) (m : ℕ) → n < m → m ≤ length bytes → IsSpelling other (take m bytes) → ⊥

-- the bytes begin with one that goes on a name or a number before them
abbrev pub goes_on : List ℕ → Bool
goes_on [] = false
goes_on (b ∷ bs) = belongs NameBytes b

-- With these bytes behind it a token is whole: no byte goes on a number (12ab and 1-2 are none), and End is the end.
abbrev pub IsWhole : TokenKind → List ℕ → Type 0
IsWhole Number rest = IsFalse (goes_on rest)
IsWhole End rest = rest ≡ []
IsWhole Word rest = Unit {0}
IsWhole Label rest = Unit {0}
IsWhole Local rest = Unit {0}
IsWhole Global rest = Unit {0}
IsWhole Attr rest = Unit {0}
IsWhole Meta rest = Unit {0}
IsWhole Text rest = Unit {0}
IsWhole CText rest = Unit {0}
IsWhole Punct rest = Unit {0}

-- a name in digits is a number below 2 ^ 32
abbrev pub IsNameInRange : List ℕ → Type 0
IsNameInRange name = IsDigits name → decimal 0 name < 2 ^ 32

-- A number lies from -2 ^ 63 to 2 ^ 64 - 1; the name of a label stands before its colon, that of a local or a global
-- behind its first byte.
abbrev pub IsInRange : TokenKind → List ℕ → Type 0
IsInRange Number bytes = IsSome (number_of bytes)
IsInRange Label bytes = (name : List ℕ) → bytes ≡ name ++ 58 ∷ [] → IsNameInRange name
IsInRange Local bytes = (first : ℕ) (name : List ℕ) → bytes ≡ first ∷ name → IsNameInRange name
IsInRange Global bytes = (first : ℕ) (name : List ℕ) → bytes ≡ first ∷ name → IsNameInRange name
IsInRange Word bytes = Unit {0}
IsInRange Attr bytes = Unit {0}
IsInRange Meta bytes = Unit {0}
IsInRange Text bytes = Unit {0}
IsInRange CText bytes = Unit {0}
IsInRange Punct bytes = Unit {0}
IsInRange End bytes = Unit {0}

-- the first n of the bytes are a token of this kind
pub record IsToken (bytes : List ℕ) (kind : TokenKind) (n : ℕ) : Type 0 where
  pub longest : IsLongest bytes kind n
  pub whole : IsWhole kind (drop n bytes)
  pub in_range : IsInRange kind (take n bytes)

-- from `at` to `start` the text has blanks and comments alone
pub record IsGap (text : List ℕ) (at start : ℕ) : Type 0 where
  pub behind : at ≤ start
  pub within : start ≤ length text
  pub gap : IsGapFrom false (slice_range text at start) (drop start text)

-- the bytes of a token
abbrev pub spelling : List ℕ → Token → List ℕ
spelling text t = slice_range text t.start t.end

-- the first token behind `at` bytes of the text
pub record IsTokenAt (text : List ℕ) (at : ℕ) (t : Token) : Type 0 where
  pub gap : IsGap text at t.start
  pub ordered : t.start ≤ t.end
  pub is : IsToken (drop t.start text) t.kind (t.end - t.start)

-- the kind is that of the last token
abbrev pub is_end : TokenKind → Bool
is_end Word = false
is_end Label = false
is_end Local = false
is_end Global = false
is_end Attr = false
is_end Meta = false
is_end Number = false
is_end Text = false
is_end CText = false
is_end Punct = false
is_end End = true

-- these are the tokens behind `at` bytes of the text: one behind the other, and End is the last
abbrev pub LexedFrom : List ℕ → ℕ → List Token → Type 0
LexedFrom text at [] = ⊥
LexedFrom text at (t ∷ ts) = IsTokenAt text at t × MatchBool (is_end t.kind) (ts ≡ []) (LexedFrom text t.end ts)

-- these are the tokens of the text
abbrev pub Lexed : List ℕ → List Token → Type 0
Lexed text ts = LexedFrom text 0 ts
