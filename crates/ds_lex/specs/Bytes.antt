-- The bytes of a text and what they may be part of. A byte above 127 stands in no token but a text, and may stand in
-- a comment.
use Rattle.std.specs.Prelude.{ℕ, Bool, true, false, not, ◌||◌, ◌&&◌, ◌==◌, nat_le, if◌then◌else◌}
use Rattle.ds_lex.specs.declared.bytes.ByteClass.{ByteClass}
use Rattle.ds_lex.specs.declared.bytes.ByteClass.TheVariants.{Blank, Semicolon, Percent, At, Hash, Bang, Quote, Minus}
use Rattle.ds_lex.specs.declared.bytes.ByteClass.TheVariants.{Digit, Letter, Mark, Other}
use Rattle.ds_lex.specs.declared.bytes.RunOf.{RunOf}
use Rattle.ds_lex.specs.declared.bytes.RunOf.TheVariants.{NameBytes, Digits, TextBytes}

-- space, tab, carriage return, line feed
abbrev pub is_blank : ℕ → Bool
is_blank b = b == 32 || b == 9 || b == 13 || b == 10

-- 0 to 9
abbrev pub is_digit : ℕ → Bool
is_digit b = nat_le 48 b && nat_le b 57

-- A to Z, a to z, $, ., _
abbrev pub is_letter : ℕ → Bool
is_letter b = (nat_le 65 b && nat_le b 90) || (nat_le 97 b && nat_le b 122) || b == 36 || b == 46 || b == 95

-- ( ) { } [ ]
abbrev pub is_bracket : ℕ → Bool
is_bracket b = b == 40 || b == 41 || b == 123 || b == 125 || b == 91 || b == 93

-- a bracket, or one of , = * < >
abbrev pub is_mark : ℕ → Bool
is_mark b = is_bracket b || b == 44 || b == 61 || b == 42 || b == 60 || b == 62

-- the class of a byte; ; is 59, % is 37, @ is 64, # is 35, ! is 33, " is 34, - is 45
unfoldable pub class_of : ℕ → ByteClass
class_of b =
    if is_blank b then Blank
    else (if b == 59 then Semicolon
    else (if b == 37 then Percent
    else (if b == 64 then At
    else (if b == 35 then Hash
    else (if b == 33 then Bang
    else (if b == 34 then Quote
    else (if b == 45 then Minus
    else (if is_digit b then Digit
    else (if is_letter b then Letter
    else (if is_mark b then Mark
    else Other))))))))))

-- a letter or - begins a name
abbrev pub begins_name : ByteClass → Bool
begins_name Letter = true
begins_name Minus = true
begins_name Blank = false
begins_name Semicolon = false
begins_name Percent = false
begins_name At = false
begins_name Hash = false
begins_name Bang = false
begins_name Quote = false
begins_name Digit = false
begins_name Mark = false
begins_name Other = false

-- a letter, - or a digit stands in a name behind its first byte
abbrev pub stands_in_name : ByteClass → Bool
stands_in_name Letter = true
stands_in_name Minus = true
stands_in_name Digit = true
stands_in_name Blank = false
stands_in_name Semicolon = false
stands_in_name Percent = false
stands_in_name At = false
stands_in_name Hash = false
stands_in_name Bang = false
stands_in_name Quote = false
stands_in_name Mark = false
stands_in_name Other = false

-- what may stand in a name behind its first byte, digits, and what may stand in a text: all bytes but " (34)
abbrev pub belongs : RunOf → ℕ → Bool
belongs NameBytes b = stands_in_name (class_of b)
belongs Digits b = is_digit b
belongs TextBytes b = not (b == 34)

-- " begins a text
abbrev pub is_quote : ByteClass → Bool
is_quote Quote = true
is_quote Blank = false
is_quote Semicolon = false
is_quote Percent = false
is_quote At = false
is_quote Hash = false
is_quote Bang = false
is_quote Minus = false
is_quote Digit = false
is_quote Letter = false
is_quote Mark = false
is_quote Other = false
