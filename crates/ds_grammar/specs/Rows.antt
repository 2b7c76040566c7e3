-- The forms of the parts of a module, one definition for each.
use Rattle.std.specs.Prelude.{ℕ, Bool, true, false, not, ◌&&◌, if◌then◌else◌, List, [], ◌∷◌, Option, Some, None, codes}
use Rattle.std.specs.Str.{bytes_eq}
use Prim.Native.String.{String}
use Rattle.ds_lex.specs.declared.token.TokenKind.{TokenKind}
use Rattle.ds_lex.specs.declared.token.TokenKind.TheVariants as kind
use Rattle.ds_ast.specs.declared.ty.Scalar.{Scalar}
use Rattle.ds_grammar.specs.declared.item.RunItem.{RunItem}
use Rattle.ds_grammar.specs.declared.item.RunItem.TheVariants as item
use Rattle.ds_grammar.specs.declared.item.Ending.{Ending}
use Rattle.ds_grammar.specs.declared.item.Ending.TheVariants as ending
use Rattle.ds_grammar.specs.Words.{is_one_of, is_word_kind}
use Rattle.ds_grammar.specs.Sort.{TypeOf, no_value, a_flag, a_number, a_mark, a_name, a_scalar, a_value, a_run_item}
use Rattle.ds_grammar.specs.Sort.{an_ending, both_of, list_of, maybe}
use Rattle.ds_grammar.specs.Grammar.{Grammar, Done, One, Then, Marked, Loop, ◌>>=◌, optional}
use Rattle.ds_grammar.specs.Tokens.{is_punct_kind, lookup, word_in, scalar_words, is_ignored_word, token_name}
use Rattle.ds_grammar.specs.Tokens.{value_of}

-- nothing but a fact of a token
abbrev pub fact : Bool → Option (Unit {0})
fact true = Some tt
fact false = None

-- the token is this bracket, comma or =
abbrev pub is_punct : List ℕ → TokenKind → List ℕ → Bool
is_punct spelled k bytes = is_punct_kind k && bytes_eq bytes spelled

-- this bracket, comma or =, by its byte
abbrev pub punct_of : List ℕ → Grammar no_value
punct_of spelled = One (λ t. fact (is_punct spelled t.kind t.bytes))

abbrev pub punct : String → Grammar no_value
punct p = punct_of (codes p)

-- the token is this word
abbrev pub is_word : List ℕ → TokenKind → List ℕ → Bool
is_word spelled k bytes = is_word_kind k && bytes_eq bytes spelled

-- this word, by its bytes
abbrev pub word_spelled : List ℕ → Grammar no_value
word_spelled spelled = One (λ t. fact (is_word spelled t.kind t.bytes))

abbrev pub word : String → Grammar no_value
word w = word_spelled (codes w)

-- the type of a register
unfoldable pub scalar : Grammar a_scalar
scalar = One (λ t. word_in scalar_words t.kind t.bytes)

-- the name of a local value
abbrev pub local_name : TokenKind → List ℕ → Option (TypeOf a_name)
local_name kind.Local bytes = token_name bytes
local_name other bytes = None

-- a value of this type, with its range
unfoldable pub value : Scalar → Grammar a_value
value s = do
  found ← One {a = both_of a_value a_mark} (λ t. value_of s t.kind t.bytes t.at)
  Marked found.1 (Done found.0)

-- the result of an instruction, which need not be written: L =
unfoldable pub result_name : Grammar (maybe a_name)
result_name = optional a_name (λ t. local_name t.kind t.bytes) (λ n. Then (punct "=") (λ e. Done n))

-- a number, whose value means nothing here
abbrev pub is_number_kind : TokenKind → Bool
is_number_kind kind.Number = true
is_number_kind other = false

abbrev pub any_number : Grammar no_value
any_number = One (λ t. fact (is_number_kind t.kind))

-- the brackets that open, each with the one that closes it
abbrev pub closing_words : List (List ℕ × ℕ)
closing_words = (codes "(", 41) ∷ (codes "[", 93) ∷ (codes "{", 125) ∷ []

-- the bracket that closes what a token opens
abbrev pub opened_by : TokenKind → List ℕ → Option ℕ
opened_by k bytes = if is_punct_kind k then lookup closing_words bytes else None

-- where a token is a bracket that closes, whether it is this one
abbrev pub closed_by : TokenKind → List ℕ → ℕ → Option Bool
closed_by k bytes c = if is_punct_kind k && is_one_of (codes ")" ∷ codes "]" ∷ codes "}" ∷ []) bytes then Some
    (bytes_eq bytes (c ∷ [])) else None

-- the brackets that are open behind a token, by what it closes and opens, where the innermost is to be closed by c
abbrev pub stepped : Option Bool → Option ℕ → ℕ → List ℕ → Option (List ℕ)
stepped (Some true) opens c opened = Some opened
stepped (Some false) opens c opened = None
stepped None (Some d) c opened = Some (d ∷ c ∷ opened)
stepped None None c opened = Some (c ∷ opened)

-- the brackets that are open behind a token, each as the one that closes it and the innermost first
abbrev pub open_behind : List ℕ → TokenKind → List ℕ → Option (List ℕ)
open_behind [] k bytes = None
open_behind (c ∷ opened) k bytes = stepped (closed_by k bytes c) (opened_by k bytes) c opened

-- no bracket is open
abbrev pub all_closed : List ℕ → Grammar no_value
all_closed [] = Done tt
all_closed (c ∷ opened) = One (λ t. None)

-- any tokens whose brackets match, where these brackets are open, up to the last of them
unfoldable pub group_from : List ℕ → Grammar (list_of a_number)
group_from opened = Loop (list_of a_number) (λ s t. open_behind s t.kind t.bytes) (λ s v. Done v) opened

-- any tokens whose brackets match, up to this bracket
unfoldable pub balanced : ℕ → Grammar no_value
balanced closer = do
  opened ← group_from (closer ∷ [])
  all_closed opened

-- what begins an item of a run of ignored words: a group in round brackets only behind a word
abbrev pub run_item : Bool → TokenKind → List ℕ → Option RunItem
run_item after_word kind.Word bytes =
    if bytes_eq bytes (codes "align") then Some item.Align else if is_ignored_word bytes then Some item.Word else None
run_item after_word kind.Attr bytes = Some item.Attr
run_item after_word kind.Punct bytes = if after_word && bytes_eq bytes (codes "(") then Some item.Group else None
run_item after_word other bytes = None

-- the rest of an item, and whether a group may follow
abbrev pub run_rest : RunItem → Grammar a_flag
run_rest item.Word = Done true
run_rest item.Align = Then any_number (λ u. Done false)
run_rest item.Attr = Done false
run_rest item.Group = Then (balanced 41) (λ u. Done false)

-- a run of ignored words, each with a group behind it or without, of align with a number and of #N
unfoldable pub ignored_from : Bool → Grammar a_flag
ignored_from after_word = Loop a_run_item (λ s t. run_item s t.kind t.bytes) (λ s i. run_rest i) after_word

abbrev pub ignored_run : Grammar a_flag
ignored_run = ignored_from false

-- what begins an ending: a comma only before the first #N
abbrev pub ending_item : Bool → TokenKind → List ℕ → Option Ending
ending_item in_attrs kind.Punct bytes = if not in_attrs && bytes_eq bytes (codes ",") then Some ending.Comma else None
ending_item in_attrs kind.Attr bytes = Some ending.Attr
ending_item in_attrs other bytes = None

-- behind the comma of an ending: metadata, or align
abbrev pub is_metadata : TokenKind → List ℕ → Option Bool
is_metadata kind.Meta bytes = Some true
is_metadata kind.Word bytes = if bytes_eq bytes (codes "align") then Some false else None
is_metadata other bytes = None

-- a second piece of metadata, or the number of an align
abbrev pub is_last_of : Bool → TokenKind → Bool
is_last_of true kind.Meta = true
is_last_of true other = false
is_last_of false kind.Number = true
is_last_of false other = false

abbrev pub ending_last : Bool → Grammar no_value
ending_last metadata = One (λ t. fact (is_last_of metadata t.kind))

-- the rest of an ending, and whether it was #N
abbrev pub ending_rest : Ending → Grammar a_flag
ending_rest ending.Attr = Done true
ending_rest ending.Comma = do
  metadata ← One {a = a_flag} (λ t. is_metadata t.kind t.bytes)
  _ ← ending_last metadata
  Done false

-- any run of commas with align N or with two pieces of metadata, and then of #N
unfoldable pub endings_from : Bool → Grammar a_flag
endings_from in_attrs = Loop an_ending (λ s t. ending_item s t.kind t.bytes) (λ s e. ending_rest e) in_attrs

abbrev pub endings : Grammar a_flag
endings = endings_from false
