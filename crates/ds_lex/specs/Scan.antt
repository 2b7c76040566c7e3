-- What the scanner finds at the front of bytes, which its private functions give. What a token is says Lexed.
use Rattle.std.specs.Prelude.{ℕ, Bool, true, false, not, ◌==◌, ◌&&◌, nat_lt, if◌then◌else◌, List, [], ◌∷◌, length}
use Rattle.std.specs.Prelude.{take, drop, Option, Some, None, option_map, is_some, Result, Ok, Err}
use Rattle.ds_lex.specs.declared.bytes.ByteClass.{ByteClass}
use Rattle.ds_lex.specs.declared.bytes.ByteClass.TheVariants.{Blank, Semicolon, Percent, At, Hash, Bang, Quote, Minus}
use Rattle.ds_lex.specs.declared.bytes.ByteClass.TheVariants.{Digit, Letter, Mark, Other}
use Rattle.ds_lex.specs.declared.bytes.RunOf.{RunOf}
use Rattle.ds_lex.specs.declared.bytes.RunOf.TheVariants.{NameBytes, Digits, TextBytes}
use Rattle.ds_lex.specs.declared.token.TokenKind.{TokenKind}
use Rattle.ds_lex.specs.declared.token.TokenKind.TheVariants.{Word, Label, Local, Global, Attr, Meta, Number, Text}
use Rattle.ds_lex.specs.declared.token.TokenKind.TheVariants.{CText, Punct, End}
use Rattle.ds_lex.specs.declared.fault.LexFault.{LexFault}
use Rattle.ds_lex.specs.declared.fault.LexFault.TheVariants.{BadByte, BadName, BadNumber, OpenText}
use Rattle.ds_lex.specs.declared.words.Flaw.{Flaw}
use Rattle.ds_lex.specs.declared.words.Flaw.TheVariants as flaw
use Rattle.ds_lex.specs.Bytes.{class_of, begins_name, belongs, is_quote}
use Rattle.ds_lex.specs.Number.{is_small, number_of}
use Rattle.ds_lex.specs.Lexed.{goes_on}
use Prim.Native.Nat.{suc}

-- one byte more than blanks, than a comment, or none, by the class of that byte
abbrev pub gap_behind : ByteClass → ℕ → ℕ → ℕ
gap_behind Blank blanks comment = suc blanks
gap_behind Semicolon blanks comment = suc comment
gap_behind Percent blanks comment = 0
gap_behind At blanks comment = 0
gap_behind Hash blanks comment = 0
gap_behind Bang blanks comment = 0
gap_behind Quote blanks comment = 0
gap_behind Minus blanks comment = 0
gap_behind Digit blanks comment = 0
gap_behind Letter blanks comment = 0
gap_behind Mark blanks comment = 0
gap_behind Other blanks comment = 0

-- how many bytes of blanks and comments stand at the front, where a comment is or is not open
unfoldable pub gap_len : Bool → List ℕ → ℕ
gap_len inside [] = 0
gap_len true (b ∷ bs) = suc (gap_len (not (b == 10)) bs)
gap_len false (b ∷ bs) = gap_behind (class_of b) (gap_len false bs) (gap_len true bs)

-- whether a byte with this class leaves a comment open, where it stands between tokens
abbrev pub opens_comment : ByteClass → Option Bool
opens_comment Blank = Some false
opens_comment Semicolon = Some true
opens_comment Percent = None
opens_comment At = None
opens_comment Hash = None
opens_comment Bang = None
opens_comment Quote = None
opens_comment Minus = None
opens_comment Digit = None
opens_comment Letter = None
opens_comment Mark = None
opens_comment Other = None

-- whether a comment is open behind a byte between tokens, by whether one is open before it
abbrev pub comment_behind : Bool → ℕ → Option Bool
comment_behind true b = Some (not (b == 10))
comment_behind false b = opens_comment (class_of b)

-- how many bytes of the set stand at the front
unfoldable pub run_len : RunOf → List ℕ → ℕ
run_len set [] = 0
run_len set (b ∷ bs) = if belongs set b then suc (run_len set bs) else 0

-- the bytes begin with a colon (58)
abbrev pub starts_colon : List ℕ → Bool
starts_colon [] = false
starts_colon (b ∷ bs) = b == 58

-- the bytes begin with one that begins a name
abbrev pub starts_name : List ℕ → Bool
starts_name [] = false
starts_name (b ∷ bs) = begins_name (class_of b)

-- a token of a kind and its number of bytes, or why there is none
abbrev pub Scanned : Type 0
Scanned = Result (TokenKind × ℕ) Flaw

-- how many bytes stand up to and with the first quote
unfoldable pub closed_len : List ℕ → Option ℕ
closed_len bytes =
    if nat_lt (run_len TextBytes bytes) (length bytes) then Some (suc (run_len TextBytes bytes)) else None

-- how many bytes the text at the front has
unfoldable pub text_len : List ℕ → Option ℕ
text_len [] = None
text_len (b ∷ bs) = if is_quote (class_of b) then option_map (λ n. suc n) (closed_len bs) else None

-- how many bytes c (99) and the text behind it have
unfoldable pub ctext_len : List ℕ → Option ℕ
ctext_len [] = None
ctext_len (b ∷ bs) = if b == 99 then option_map (λ n. suc n) (text_len bs) else None

-- a token of n bytes, or the label that a colon behind it makes of it
unfoldable pub labelled : TokenKind → ℕ → List ℕ → TokenKind × ℕ
labelled kind n bytes = if starts_colon (drop n bytes) then (Label, suc n) else (kind, n)

-- the word or the label that begins with a letter, where no text stands behind a c
abbrev pub worded_by : Option ℕ → List ℕ → TokenKind × ℕ
worded_by (Some n) bytes = (CText, n)
worded_by None bytes = labelled Word (run_len NameBytes bytes) bytes

-- the token that begins with a letter
unfoldable pub worded : List ℕ → TokenKind × ℕ
worded bytes = worded_by (ctext_len bytes) bytes

-- the text or the label, where the text has or has no end
abbrev pub quoted_by : Option ℕ → List ℕ → Scanned
quoted_by (Some n) bytes = Ok (labelled Text n bytes)
quoted_by None bytes = Err flaw.Text

-- the token that begins with a quote
unfoldable pub quoted : List ℕ → Scanned
quoted bytes = quoted_by (text_len bytes) bytes

-- a number of n bytes, where no byte goes on it and it is in its range
unfoldable pub integer : ℕ → List ℕ → Scanned
integer n bytes =
    if not (goes_on (drop n bytes)) && is_some (number_of (take n bytes)) then Ok (Number, n) else Err flaw.Number

-- a token of n bytes with a name in digits, where that is below 2 ^ 32
unfoldable pub numbered : TokenKind → ℕ → List ℕ → Scanned
numbered kind n digits = if is_small digits then Ok (kind, n) else Err flaw.Number

-- the number or the label that begins with digits, which are n
abbrev pub counted_by : ℕ → List ℕ → Scanned
counted_by n bytes = if starts_colon (drop n bytes) then numbered Label (suc n) (take n bytes) else integer n bytes

-- the token that begins with a digit
unfoldable pub counted : List ℕ → Scanned
counted bytes = counted_by (run_len Digits bytes) bytes

-- the number with a sign and n digits
abbrev pub signed_by : ℕ → List ℕ → Scanned
signed_by n bytes = if n == 0 then Err flaw.Byte else integer (suc n) bytes

-- the token that begins with a sign
unfoldable pub signed : List ℕ → Scanned
signed [] = Err flaw.Byte
signed (b ∷ bs) = signed_by (run_len Digits bs) (b ∷ bs)

-- the token of this kind whose name is a text, if there is one
abbrev pub named_by : TokenKind → Option ℕ → Scanned
named_by kind (Some n) = Ok (kind, suc n)
named_by kind None = Err flaw.Name

-- the token of this kind whose name is n digits or a text
abbrev pub unplain : TokenKind → ℕ → List ℕ → Scanned
unplain kind n bytes = if n == 0 then named_by kind (text_len bytes) else numbered kind (suc n) (take n bytes)

-- the token of this kind that the bytes behind a % or an @ make with it
unfoldable pub named : TokenKind → List ℕ → Scanned
named kind bytes =
    if starts_name bytes then Ok (kind, suc (run_len NameBytes bytes)) else unplain kind (run_len Digits bytes) bytes

-- the token that n digits behind a # make with it
abbrev pub attribute_by : ℕ → Scanned
attribute_by n = if n == 0 then Err flaw.Name else Ok (Attr, suc n)

-- the token that the bytes behind a # make with it
unfoldable pub attribute : List ℕ → Scanned
attribute bytes = attribute_by (run_len Digits bytes)

-- how many bytes a ! and a name or digits behind it have
unfoldable pub metadata_len : List ℕ → ℕ
metadata_len bytes = if starts_name bytes then suc (run_len NameBytes bytes) else suc (run_len Digits bytes)

-- the token that begins with the byte b of this class, where bs stand behind it
abbrev pub token_of_class : ByteClass → ℕ → List ℕ → Scanned
token_of_class Letter b bs = Ok (worded (b ∷ bs))
token_of_class Digit b bs = counted (b ∷ bs)
token_of_class Minus b bs = signed (b ∷ bs)
token_of_class Percent b bs = named Local bs
token_of_class At b bs = named Global bs
token_of_class Hash b bs = attribute bs
token_of_class Bang b bs = Ok (Meta, metadata_len bs)
token_of_class Quote b bs = quoted (b ∷ bs)
token_of_class Mark b bs = Ok (Punct, 1)
token_of_class Blank b bs = Err flaw.Byte
token_of_class Semicolon b bs = Err flaw.Byte
token_of_class Other b bs = Err flaw.Byte

-- the kind of the token at the front and its number of bytes, or why none begins there
unfoldable pub token_at : List ℕ → Scanned
token_at [] = Ok (End, 0)
token_at (b ∷ bs) = token_of_class (class_of b) b bs

-- the fault of a text of n bytes, where a token should begin at `start`
abbrev pub fault_of : Flaw → ℕ → ℕ → LexFault
fault_of flaw.Byte start n = BadByte start
fault_of flaw.Name start n = BadName start
fault_of flaw.Number start n = BadNumber start
fault_of flaw.Text start n = OpenText n
