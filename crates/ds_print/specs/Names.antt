-- How names, numbers and single words are written in the canonical text.
use Rattle.std.specs.Prelude.{ℕ, ◌+◌, ◌-◌, ◌^◌, ◌/◌, ◌%◌, Bool, true, false, ◌==◌, nat_lt, nat_le, not, ◌&&◌}
use Rattle.std.specs.Prelude.{if◌then◌else◌, List, [], ◌∷◌, ◌++◌, flat_map, codes, decimal}
use Rattle.std.specs.List.{list_all}
use Prim.Native.String.{String}
use Rattle.ds_lex.specs.declared.bytes.ByteClass.{ByteClass}
use Rattle.ds_lex.specs.declared.bytes.ByteClass.TheVariants.{Blank, Semicolon, Percent, At, Hash, Bang, Quote, Minus}
use Rattle.ds_lex.specs.declared.bytes.ByteClass.TheVariants.{Digit, Letter, Mark, Other}
use Rattle.ds_lex.specs.declared.bytes.RunOf.TheVariants.{NameBytes}
use Rattle.ds_lex.specs.declared.token.TokenKind.TheVariants as kind
use Rattle.ds_lex.specs.Bytes.{class_of, begins_name, belongs}
use Rattle.ds_lex.specs.Written.{Piece, Gap, Written}
use Rattle.ds_ast.specs.declared.name.Name.{Name}
use Rattle.ds_ast.specs.declared.name.Name.TheVariants.{Number, Text}
use Rattle.ds_ast.specs.declared.ty.Scalar.{Scalar}
use Rattle.ds_ast.specs.declared.ty.Scalar.TheVariants.{I1, I8, I16, I32, I64, Ptr}
use Rattle.ds_ast.specs.declared.value.Value.{Value}
use Rattle.ds_ast.specs.declared.value.Value.TheVariants.{Int, Null, Undef, Local, Global}
use Rattle.ds_ast.specs.Bounds.{width}

-- a space
abbrev pub space : Piece
space = Gap (32 ∷ [])

-- the end of a line
abbrev pub line_end : Piece
line_end = Gap (10 ∷ [])

-- the two spaces in front of an instruction
abbrev pub indent : Piece
indent = Gap (32 ∷ 32 ∷ [])

-- a word by its bytes
abbrev pub spelled : List ℕ → Piece
spelled bytes = Written kind.Word bytes

abbrev pub word : String → Piece
word w = spelled (codes w)

-- a bracket, comma or =
abbrev pub punct : String → Piece
punct p = Written kind.Punct (codes p)

-- NAMES

-- the bytes are a plain name: a letter or -, and then any number of letters, - and digits
abbrev pub is_plain_name : List ℕ → Bool
is_plain_name [] = false
is_plain_name (b ∷ bs) = begins_name (class_of b) && list_all (belongs NameBytes) bs

-- a letter
abbrev pub is_letter_class : ByteClass → Bool
is_letter_class Letter = true
is_letter_class Blank = false
is_letter_class Semicolon = false
is_letter_class Percent = false
is_letter_class At = false
is_letter_class Hash = false
is_letter_class Bang = false
is_letter_class Quote = false
is_letter_class Minus = false
is_letter_class Digit = false
is_letter_class Mark = false
is_letter_class Other = false

-- the bytes are a plain name that does not begin with -, which is none in front of a label's colon
abbrev pub is_plain_label : List ℕ → Bool
is_plain_label [] = false
is_plain_label (b ∷ bs) = is_letter_class (class_of b) && list_all (belongs NameBytes) bs

-- an upper-case hexadecimal digit
abbrev pub hexadecimal_digit : ℕ → ℕ
hexadecimal_digit d = if nat_lt d 10 then 48 + d else 55 + d

-- a byte from 0x20 to 0x7e that is neither " (34) nor a backslash (92) stands for itself
abbrev pub stands_for_itself : ℕ → Bool
stands_for_itself b = nat_le 32 b && nat_le b 126 && not (b == 34) && not (b == 92)

-- a byte between quotes: itself, or a backslash and its two hexadecimal digits
abbrev pub escaped : ℕ → List ℕ
escaped b = if stands_for_itself b then b ∷ [] else 92 ∷ hexadecimal_digit (b / 16) ∷ hexadecimal_digit (b % 16) ∷ []

-- bytes between quotes
unfoldable pub quoted : List ℕ → List ℕ
quoted bytes = 34 ∷ flat_map escaped bytes ++ 34 ∷ []

-- a name that is written as it is where that is plain, and else between quotes
abbrev pub name_or_quoted : Bool → List ℕ → List ℕ
name_or_quoted true bytes = bytes
name_or_quoted false bytes = quoted bytes

-- a name behind % or @
abbrev pub name_text : Name → List ℕ
name_text (Number n) = decimal n
name_text (Text bytes) = name_or_quoted (is_plain_name bytes) bytes

-- a name before a label's colon
abbrev pub label_text : Name → List ℕ
label_text (Number n) = decimal n
label_text (Text bytes) = name_or_quoted (is_plain_label bytes) bytes

-- % and the name
abbrev pub local : Name → Piece
local name = Written kind.Local (37 ∷ name_text name)

-- @ and the name
abbrev pub global : Name → Piece
global name = Written kind.Global (64 ∷ name_text name)

-- the name and a colon
abbrev pub label : Name → Piece
label name = Written kind.Label (label_text name ++ 58 ∷ [])

-- NUMBERS AND VALUES

-- a number without a sign
abbrev pub number : ℕ → Piece
number n = Written kind.Number (decimal n)

-- A number of so many bits as a signed one: from 2 ^ (bits - 1) on it stands for itself less 2 ^ bits, and a minus
-- sign (45) comes first.
unfoldable pub signed : ℕ → ℕ → List ℕ
signed bits n = if nat_lt n (2 ^ (bits - 1)) then decimal n else 45 ∷ decimal (2 ^ bits - n)

-- an integer of a type, as a signed number
abbrev pub integer : Scalar → ℕ → Piece
integer s n = Written kind.Number (signed (width s) n)

-- the word of a type
abbrev pub scalar_word : Scalar → List ℕ
scalar_word I1 = codes "i1"
scalar_word I8 = codes "i8"
scalar_word I16 = codes "i16"
scalar_word I32 = codes "i32"
scalar_word I64 = codes "i64"
scalar_word Ptr = codes "ptr"

abbrev pub scalar : Scalar → Piece
scalar s = spelled (scalar_word s)

-- the word of a truth value
abbrev pub truth : Bool → Piece
truth true = word "true"
truth false = word "false"

-- an integer operand of a type: a truth value as a word, others as signed numbers
abbrev pub integer_operand : Scalar → ℕ → Piece
integer_operand I1 n = truth (not (n == 0))
integer_operand I8 n = integer I8 n
integer_operand I16 n = integer I16 n
integer_operand I32 n = integer I32 n
integer_operand I64 n = integer I64 n
integer_operand Ptr n = integer Ptr n

-- a value of a type
abbrev pub value : Scalar → Value → Piece
value s (Int n) = integer_operand s n
value s Null = word "null"
value s Undef = word "undef"
value s (Local name) = local name
value s (Global name) = global name
