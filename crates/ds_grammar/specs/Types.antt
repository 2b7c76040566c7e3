-- The form of a type.
use Rattle.std.specs.Prelude.{ℕ, Bool, true, false, not, ◌&&◌, ◌||◌, ◌^◌, ◌%◌, nat_lt, nat_le, if◌then◌else◌, List}
use Rattle.std.specs.Prelude.{[], ◌∷◌, length, Option, Some, None, option_map, codes}
use Rattle.std.specs.Str.{bytes_eq}
use Rattle.ds_lex.specs.declared.token.TokenKind.{TokenKind}
use Rattle.ds_lex.specs.declared.token.TokenKind.TheVariants as kind
use Rattle.ds_lex.specs.Number.{number_of}
use Rattle.ds_ast.specs.declared.ty.Ty.{Ty}
use Rattle.ds_ast.specs.declared.ty.Ty.TheVariants as ty
use Rattle.ds_ast.specs.Bounds.{has_values}
use Rattle.ds_grammar.specs.declared.fault.Bound.TheVariants.{Depth}
use Rattle.ds_grammar.specs.declared.fault.Mark.{Mark}
use Rattle.ds_grammar.specs.Sort.{no_value, a_number, a_mark, a_ty, both_of, list_of}
use Rattle.ds_grammar.specs.Grammar.{Grammar, Done, One, Marked, Loop, ◌>>=◌, marked_by}
use Rattle.ds_grammar.specs.Tokens.{lookup, scalar_words, token_name, range_mark}
use Rattle.ds_grammar.specs.Rows.{fact, is_punct, word}

-- the arrays that are open in a type, each by its count and the innermost first, and the place where the type begins
abbrev pub Arrays : Type 0
Arrays = ℕ × List ℕ

-- the place where a type begins, whose next array begins at `at`
abbrev pub type_place : Arrays → ℕ → ℕ
type_place (place, []) at = at
type_place (place, n ∷ ns) at = place

-- a type that begins there nests at most 32 arrays, of which these stand around this one
abbrev pub depth_mark : ℕ → List ℕ → Mark
depth_mark place counts = record { breach = record { bound = Depth; at = place }; within = nat_lt (length counts) 32 }

-- how many elements an array has: at most 2 ^ 31
abbrev pub count_of : TokenKind → List ℕ → ℕ → Option (ℕ × Mark)
count_of kind.Number bytes at = option_map (λ n. (n % 2 ^ 32, range_mark at (nat_le n (2 ^ 31)))) (number_of bytes)
count_of other bytes at = None

unfoldable pub array_count : Grammar a_number
array_count = do
  found ← One {a = both_of a_number a_mark} (λ t. count_of t.kind t.bytes t.at)
  Marked found.1 (Done found.0)

-- behind the [ of an array, which stands at `at`: N x
unfoldable pub array_front : Arrays → ℕ → Grammar (both_of a_number (list_of a_number))
array_front opened at = Marked (depth_mark (type_place opened at) opened.1) (do
  n ← array_count
  _ ← word "x"
  Done (type_place opened at, n ∷ opened.1))

-- where a token is the [ of an array, its place
abbrev pub array_place : TokenKind → List ℕ → ℕ → Option ℕ
array_place k bytes at = if is_punct (codes "[") k bytes then Some at else None

-- no array is open
abbrev pub is_flat : List ℕ → Bool
is_flat [] = true
is_flat (n ∷ ns) = false

-- the marks of a number that is taken, where it is
abbrev pub taken_by : List Mark → Bool → List Mark
taken_by [] taken = []
taken_by (m ∷ ms) taken = if taken then m ∷ ms else []

-- what stands behind the [ of an array; at the first token of its type a number is taken, with these marks
abbrev pub marked_front : List Mark → Arrays → ℕ → Grammar (both_of a_number (list_of a_number))
marked_front marks opened at = marked_by (taken_by marks (is_flat opened.1)) (array_front opened at)

-- any number of [ N x, inside these arrays
unfoldable pub arrays_from : List Mark → Arrays → Grammar (both_of a_number (list_of a_number))
arrays_from marks opened = Loop a_number (λ s t. array_place t.kind t.bytes t.at) (marked_front marks) opened

-- the type that a word is, where void may or may not stand
abbrev pub word_type : Bool → List ℕ → Option Ty
word_type may_be_void bytes =
    if bytes_eq bytes (codes "void") then (if may_be_void then Some ty.Void else None) else option_map (λ s. ty.One s)
    (lookup scalar_words bytes)

-- the type inside all arrays
abbrev pub base_type : Bool → TokenKind → List ℕ → Option Ty
base_type may_be_void kind.Word bytes = word_type may_be_void bytes
base_type may_be_void kind.Local bytes = option_map (λ n. ty.Struct n) (token_name bytes)
base_type may_be_void other bytes = None

-- a type, and the counts of the arrays around it that are not closed yet, the innermost first
abbrev pub Closing : Type 0
Closing = List ℕ × Ty

-- the token closes the innermost of these arrays, if one is open
abbrev pub closes : List ℕ → TokenKind → List ℕ → Option (Unit {0})
closes [] k bytes = None
closes (n ∷ ns) k bytes = fact (is_punct (codes "]") k bytes)

-- the type with an array around it; a type that nests more arrays than it may is refused, and is not built
abbrev pub around : Bool → ℕ → Ty → Ty
around too_deep n t = if too_deep then t else ty.Array n t

-- one array closed
abbrev pub closed : Bool → Closing → Closing
closed too_deep ([], t) = ([], t)
closed too_deep (n ∷ ns, t) = (ns, around too_deep n t)

-- every array is closed
abbrev pub all_arrays_closed : Closing → Grammar a_ty
all_arrays_closed ([], t) = Done t
all_arrays_closed (n ∷ ns, t) = One (λ t. None)

-- any number of ], each for one of the arrays around the type
unfoldable pub array_ends : Bool → Closing → Grammar (both_of (list_of a_number) a_ty)
array_ends too_deep closing =
    Loop no_value (λ s t. closes s.0 t.kind t.bytes) (λ s u. Done (closed too_deep s)) closing

-- a ] for each of these arrays around the type
unfoldable pub closed_type : Arrays → Ty → Grammar a_ty
closed_type opened base = do
  closing ← array_ends (nat_lt 32 (length opened.1)) (opened.1, base)
  all_arrays_closed closing

-- void, a type of a register, [ N x T ], or the name of a struct; void alone may be forbidden. Where it is not void
-- its first token takes a number, with these marks: those of a call's result that has no name. Else there are none.
unfoldable pub type_of : Bool → List Mark → Grammar a_ty
type_of may_be_void marks = do
  opened ← arrays_from marks (0, [])
  base ← One {a = a_ty} (λ t. base_type (may_be_void || not (is_flat opened.1)) t.kind t.bytes)
  marked_by (taken_by marks (is_flat opened.1 && has_values base)) (closed_type opened base)
