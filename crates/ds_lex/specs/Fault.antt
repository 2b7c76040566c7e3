-- The lexical fault of a text.
use Rattle.std.specs.Prelude.{◌≡◌, ℕ, ◌<◌, ◌≤◌, false, List, [], ◌∷◌, length, take, drop, ◌⊎◌}
use Rattle.ds_lex.specs.declared.bytes.ByteClass.{ByteClass}
use Rattle.ds_lex.specs.declared.bytes.ByteClass.TheVariants.{Percent, At, Hash, Quote, Minus, Other}
use Rattle.ds_lex.specs.declared.token.TokenKind.{TokenKind}
use Rattle.ds_lex.specs.declared.token.Token.{Token}
use Rattle.ds_lex.specs.declared.fault.LexFault.{LexFault}
use Rattle.ds_lex.specs.declared.fault.LexFault.TheVariants.{BadByte, BadName, BadNumber, OpenText, Memory}
use Rattle.ds_lex.specs.Bytes.{class_of}
use Rattle.ds_lex.specs.Lexed.{IsSpelling, IsLongest, IsWhole, IsInRange, IsGap, IsTokenAt, is_end, Lexed}

-- no token begins the bytes, whatever its kind
abbrev pub BeginsNone : List ℕ → Type 0
BeginsNone bytes = (kind : TokenKind) (n : ℕ) → 0 < n → n ≤ length bytes → IsSpelling kind (take n bytes) → ⊥

-- the first of the bytes has this class
abbrev pub Begins : ByteClass → List ℕ → Type 0
Begins class [] = ⊥
Begins class (b ∷ bs) = class_of b ≡ class

-- a number that a byte goes on, or a number or a name that is out of its range
abbrev pub IsNoToken : List ℕ → TokenKind → ℕ → Type 0
IsNoToken bytes kind n = (IsWhole kind (drop n bytes) → ⊥) ⊎ (IsInRange kind (take n bytes) → ⊥)

-- The fault of a text at `start`, where a token should begin: a byte that begins none; a %, an @ or a # with no name
-- behind it; a quote that no other follows, whose fault is told at the length of the whole text; or what is spelled
-- there is a number or a name in digits and no token.
abbrev pub IsFaultAt : List ℕ → ℕ → LexFault → Type 0
IsFaultAt text start (BadByte at) =
    (at ≡ start) × BeginsNone (drop start text) × (Begins Minus (drop start text) ⊎ Begins Other (drop start text))
IsFaultAt text start (BadName at) =
    (at ≡ start) × BeginsNone (drop start text) ×
    (Begins Percent (drop start text) ⊎ (Begins At (drop start text) ⊎ Begins Hash (drop start text)))
IsFaultAt text start (OpenText at) = (at ≡ length text) × BeginsNone (drop start text) × Begins Quote (drop start text)
IsFaultAt text start (BadNumber at) =
    (at ≡ start) × (kind : TokenKind) × (n : ℕ) × (0 < n) × IsLongest (drop start text) kind n
    × IsNoToken (drop start text) kind n
IsFaultAt text start Memory = ⊥

-- The first fault behind `at` bytes of the text, where these tokens stand before it. There is none behind it: it ends
-- the text's tokens.
abbrev pub FaultFrom : List ℕ → ℕ → List Token → LexFault → Type 0
FaultFrom text at [] fault = (start : ℕ) × IsGap text at start × IsFaultAt text start fault
FaultFrom text at (t ∷ ts) fault = IsTokenAt text at t × (is_end t.kind ≡ false) × FaultFrom text t.end ts fault

-- the text has this fault, and has tokens up to it: the least place decides
abbrev pub HasFault : List ℕ → LexFault → Type 0
HasFault text fault = (before : List Token) × FaultFrom text 0 before fault

-- no text has both tokens and a fault
abbrev pub TokensOrFault : Type 0
TokensOrFault = (text : List ℕ) (tokens : List Token) (fault : LexFault) → Lexed text tokens → HasFault text fault → ⊥
