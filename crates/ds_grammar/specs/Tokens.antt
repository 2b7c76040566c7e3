-- What single tokens are, by their kinds and their bytes.
use Rattle.std.specs.Prelude.{ℕ, ◌-◌, ◌%◌, ◌^◌, Bool, true, false, ◌==◌, nat_lt, nat_le, not, ◌&&◌, ◌||◌}
use Rattle.std.specs.Prelude.{if◌then◌else◌, List, [], ◌∷◌, Option, Some, None, option_and_then, option_map, codes}
use Rattle.std.specs.List.{list_all}
use Rattle.std.specs.Str.{bytes_eq}
use Rattle.ds_lex.specs.declared.token.TokenKind.{TokenKind}
use Rattle.ds_lex.specs.declared.token.TokenKind.TheVariants as kind
use Rattle.ds_lex.specs.Number.{number_of}
use Rattle.ds_lex.specs.Bytes.{is_digit}
use Rattle.ds_ast.specs.declared.name.Name.{Name}
use Rattle.ds_ast.specs.declared.name.Name.TheVariants as name
use Rattle.ds_ast.specs.declared.ty.Scalar.{Scalar}
use Rattle.ds_ast.specs.declared.ty.Scalar.TheVariants.{I1, I8, I16, I32, I64, Ptr}
use Rattle.ds_ast.specs.declared.value.Value.{Value}
use Rattle.ds_ast.specs.declared.value.Value.TheVariants as value
use Rattle.ds_ast.specs.declared.words.BinOp.{BinOp}
use Rattle.ds_ast.specs.declared.words.BinOp.TheVariants.{Add, Sub, Mul, And, Or, Xor, Shl, Lshr, Ashr, Udiv, Sdiv}
use Rattle.ds_ast.specs.declared.words.BinOp.TheVariants.{Urem, Srem}
use Rattle.ds_grammar.specs.declared.fault.Bound.TheVariants.{Range}
use Rattle.ds_grammar.specs.declared.fault.Mark.{Mark}
use Rattle.ds_grammar.specs.Texts.{text_of}
use Rattle.ds_grammar.specs.Words.{is_word_kind, is_one_of, spelled, is_refused_word}

-- the token is this bracket, comma or =
abbrev pub is_punct_kind : TokenKind → Bool
is_punct_kind kind.Punct = true
is_punct_kind other = false

-- what a table has for these bytes
abbrev pub lookup : {A : Type 0} → List (List ℕ × A) → List ℕ → Option A
lookup [] bytes = None
lookup (row ∷ rows) bytes = if bytes_eq bytes row.0 then Some row.1 else lookup rows bytes

-- what a table has for a word
abbrev pub word_in : {A : Type 0} → List (List ℕ × A) → TokenKind → List ℕ → Option A
word_in table k bytes = if is_word_kind k then lookup table bytes else None

-- the types that one register holds
abbrev pub scalar_words : List (List ℕ × Scalar)
scalar_words = (codes "i1", I1) ∷ (codes "i8", I8) ∷ (codes "i16", I16) ∷ (codes "i32", I32) ∷ (codes "i64", I64) ∷
    (codes "ptr", Ptr) ∷ []

-- the operations on two integers
abbrev pub bin_op_words : List (List ℕ × BinOp)
bin_op_words =
    (codes "add", Add) ∷ (codes "sub", Sub) ∷ (codes "mul", Mul) ∷ (codes "and", And) ∷ (codes "or", Or) ∷
    (codes "xor", Xor) ∷ (codes "shl", Shl) ∷
    (codes "lshr", Lshr) ∷ (codes "ashr", Ashr) ∷ (codes "udiv", Udiv) ∷ (codes "sdiv", Sdiv) ∷ (codes "urem", Urem) ∷
    (codes "srem", Srem) ∷ []

-- the words that the forms of a module spell, which are never ignored
unfoldable pub text_words : List (List ℕ)
text_words = spelled (
    "source_filename" ∷ "target" ∷ "datalayout" ∷ "triple" ∷ "type" ∷ "global" ∷ "constant" ∷ "declare" ∷ "define" ∷
    "attributes" ∷ "distinct" ∷ "void" ∷ "x" ∷
    "i1" ∷ "i8" ∷ "i16" ∷ "i32" ∷ "i64" ∷ "ptr" ∷ "true" ∷ "false" ∷ "null" ∷ "undef" ∷ "label" ∷ "zeroinitializer" ∷
    "align" ∷ "atomic" ∷ "to" ∷
    "unordered" ∷ "monotonic" ∷ "acquire" ∷ "release" ∷ "acq_rel" ∷ "seq_cst" ∷
    "icmp" ∷ "select" ∷ "alloca" ∷ "load" ∷ "store" ∷ "getelementptr" ∷ "call" ∷ "phi" ∷ "atomicrmw" ∷ "cmpxchg" ∷
    "extractvalue" ∷ "fence" ∷
    "ret" ∷ "br" ∷ "switch" ∷ "unreachable" ∷
    "add" ∷ "sub" ∷ "mul" ∷ "and" ∷ "or" ∷ "xor" ∷ "shl" ∷ "lshr" ∷ "ashr" ∷ "udiv" ∷ "sdiv" ∷ "urem" ∷ "srem" ∷
    "zext" ∷ "sext" ∷ "trunc" ∷ "ptrtoint" ∷ "inttoptr" ∷
    "eq" ∷ "ne" ∷ "ugt" ∷ "uge" ∷ "ult" ∷ "ule" ∷ "sgt" ∷ "sge" ∷ "slt" ∷ "sle" ∷ "xchg" ∷ "umax" ∷ "umin" ∷ [])

-- a word that means nothing here: neither one of the forms nor a refused one
unfoldable pub is_ignored_word : List ℕ → Bool
is_ignored_word bytes = not (is_one_of text_words bytes) && not (is_refused_word bytes)

-- the bytes are a text
abbrev pub is_text : List ℕ → Bool
is_text [] = false
is_text (b ∷ bs) = b == 34

-- the name that stands behind % or @: digits are a number below 2 ^ 32, a text is what it stands for, and other bytes
-- are the name itself
unfoldable pub name_of : List ℕ → Option Name
name_of bytes =
    if list_all is_digit bytes then option_and_then (λ n. if nat_lt n (2 ^ 32) then Some (name.Number n) else None)
    (number_of bytes)
    else (if is_text bytes then Some (name.Text (text_of bytes)) else Some (name.Text bytes))

-- the name of a token, whose first byte is % or @
abbrev pub token_name : List ℕ → Option Name
token_name [] = None
token_name (b ∷ bs) = name_of bs

-- how many bits a type has; addresses have 64
abbrev pub width_of : Scalar → ℕ
width_of I1 = 1
width_of I8 = 8
width_of I16 = 16
width_of I32 = 32
width_of I64 = 64
width_of Ptr = 64

-- the type is that of truth values
abbrev pub is_truth : Scalar → Bool
is_truth I1 = true
is_truth other = false

-- the type is that of addresses
abbrev pub is_address : Scalar → Bool
is_address Ptr = true
is_address other = false

-- bytes begin with a minus sign (45)
abbrev pub is_negative : List ℕ → Bool
is_negative [] = false
is_negative (b ∷ bs) = b == 45

-- a number, given modulo 2 ^ 64, lies from -2 ^ (w - 1) to 2 ^ w - 1; behind a minus sign it is 0 or at least 2 ^ 64
-- - 2 ^ (w - 1)
unfoldable pub fits_width : ℕ → Bool → ℕ → Bool
fits_width w true n = n == 0 || nat_le (2 ^ 64 - 2 ^ (w - 1)) n
fits_width w false n = nat_lt n (2 ^ w)

-- a literal of a type is in its range; where an address is wanted any number may stand
abbrev pub fits_type : Scalar → List ℕ → ℕ → Bool
fits_type s bytes n = is_address s || fits_width (width_of s) (is_negative bytes) n

-- a mark of a range at a place
abbrev pub range_mark : ℕ → Bool → Mark
range_mark at within = record { breach = record { bound = Range; at = at }; within = within }

-- a literal as a value of its type
abbrev pub literal : Scalar → List ℕ → ℕ → ℕ → Value × Mark
literal s bytes at n = (value.Int (n % 2 ^ width_of s), range_mark at (fits_type s bytes n))

-- the words that are values, where true and false are for truth values alone
abbrev pub value_words : Scalar → List (List ℕ × (Value × Bool))
value_words s =
    (codes "true", (value.Int 1, is_truth s)) ∷ (codes "false", (value.Int 0, is_truth s)) ∷
    (codes "null", (value.Null, true)) ∷ (codes "undef", (value.Undef, true)) ∷ []

-- a value and whether it is in its range, at a place
abbrev pub with_range : ℕ → Value × Bool → Value × Mark
with_range at found = (found.0, range_mark at found.1)

-- the value of a type that a token is, with the mark of its range
abbrev pub value_of : Scalar → TokenKind → List ℕ → ℕ → Option (Value × Mark)
value_of s kind.Number bytes at = option_map (literal s bytes at) (number_of bytes)
value_of s kind.Word bytes at = option_map (with_range at) (lookup (value_words s) bytes)
value_of s kind.Local bytes at = option_map (λ n. (value.Local n, range_mark at true)) (token_name bytes)
value_of s kind.Global bytes at = option_map (λ n. (value.Global n, range_mark at true)) (token_name bytes)
value_of s other bytes at = None
