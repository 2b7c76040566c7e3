-- The forms of struct types, of globals and of what these begin with.
use Rattle.std.specs.Prelude.{ℕ, zero, suc, Bool, true, false, ◌&&◌, ◌==◌, if◌then◌else◌, List, [], ◌∷◌, ◌++◌, drop}
use Rattle.std.specs.Prelude.{length, map, Option, Some, None, option_map, codes}
use Rattle.std.specs.Str.{bytes_eq}
use Rattle.ds_lex.specs.declared.token.TokenKind.{TokenKind}
use Rattle.ds_lex.specs.declared.token.TokenKind.TheVariants as kind
use Rattle.ds_lex.specs.Number.{number_of}
use Rattle.ds_ast.specs.declared.name.Name.{Name}
use Rattle.ds_ast.specs.declared.ty.Scalar.{Scalar}
use Rattle.ds_ast.specs.declared.ty.Scalar.TheVariants.{I8, Ptr}
use Rattle.ds_ast.specs.declared.ty.Ty.{Ty}
use Rattle.ds_ast.specs.declared.ty.Ty as ty
use Rattle.ds_ast.specs.declared.value.Value.{Value}
use Rattle.ds_ast.specs.declared.value.Value.TheVariants as value
use Rattle.ds_ast.specs.declared.init.Init.{Init}
use Rattle.ds_ast.specs.declared.init.Init as init
use Rattle.ds_ast.specs.declared.module.StructDef.{StructDef}
use Rattle.ds_ast.specs.Bounds.{is_name, element_type, field_types}
use Rattle.ds_grammar.specs.declared.fault.Bound.TheVariants.{Depth}
use Rattle.ds_grammar.specs.declared.fault.Mark.{Mark}
use Rattle.ds_grammar.specs.declared.item.InitHead.{InitHead}
use Rattle.ds_grammar.specs.declared.item.InitHead.TheVariants as head
use Rattle.ds_grammar.specs.Sort.{no_value, a_flag, a_number, a_mark, a_ty, an_init, a_struct, a_global, an_init_head}
use Rattle.ds_grammar.specs.Sort.{both_of, list_of, maybe}
use Rattle.ds_grammar.specs.Grammar.{Grammar, Done, One, Then, Marked, Loop, ◌>>=◌}
use Rattle.ds_grammar.specs.Tokens.{value_of, range_mark}
use Rattle.ds_grammar.specs.Texts.{text_of}
use Rattle.ds_grammar.specs.Rows.{fact, is_punct, punct, is_word, word, local_name, ignored_run, endings}
use Rattle.ds_grammar.specs.Instructions.{if_none, scalar_word}
use Rattle.ds_grammar.specs.Types.{array_place, array_front, arrays_from, base_type, closed_type, type_of}

-- LISTS OF TYPES

-- what a type begins with, at a place: a type with no others in it, or else the [ of an array
abbrev pub type_begin : TokenKind → List ℕ → ℕ → Option (Option Ty × ℕ)
type_begin k bytes at = if_none (option_map (λ place. (None, place)) (array_place k bytes at))
    (option_map (λ t. (Some t, at)) (base_type true k bytes))

-- the rest of a type
unfoldable pub type_rest : Option Ty × ℕ → Grammar a_ty
type_rest (Some t, at) = Done t
type_rest (None, at) = do
  first ← array_front (0, []) at
  opened ← arrays_from [] first
  base ← One {a = a_ty} (λ t. base_type true t.kind t.bytes)
  closed_type opened base

-- what the next type of a list begins with: a comma stands before each but the first
abbrev pub next_type : List Ty → TokenKind → List ℕ → ℕ → Option (Option (Option Ty × ℕ))
next_type [] k bytes at = option_map (λ b. Some b) (type_begin k bytes at)
next_type (t ∷ ts) k bytes at = if is_punct (codes ",") k bytes then Some None else None

-- one type more
abbrev pub types_more : List Ty → Option (Option Ty × ℕ) → Grammar (list_of a_ty)
types_more ts (Some b) = Then (type_rest b) (λ t. Done (ts ++ t ∷ []))
types_more ts None = Then (type_of true []) (λ t. Done (ts ++ t ∷ []))

-- T,*
unfoldable pub types : Grammar (list_of a_ty)
types = Loop (maybe (both_of (maybe a_ty) a_number)) (λ ts t. next_type ts t.kind t.bytes t.at) types_more []

-- = type { T,* } behind L
unfoldable pub struct_line : Name → Grammar a_struct
struct_line name = do
  _ ← punct "="
  _ ← word "type"
  _ ← punct "{"
  fields ← types
  _ ← punct "}"
  Done (record { name = name; fields = fields })

-- A TYPE WRITTEN AGAIN

-- the name is there, and it is this one
abbrev pub is_this : Option Name → Name → Bool
is_this None name = false
is_this (Some found) name = is_name found name

-- the token is this local name
abbrev pub is_local : Name → TokenKind → List ℕ → Bool
is_local name k bytes = is_this (local_name k bytes) name

-- the token is the first of this type
abbrev pub is_type_front : Ty → TokenKind → List ℕ → Bool
is_type_front ty.Void k bytes = is_word (codes "void") k bytes
is_type_front (ty.One s) k bytes = is_word (scalar_word s) k bytes
is_type_front (ty.Array' n _ of) k bytes = is_punct (codes "[") k bytes
is_type_front (ty.Struct name) k bytes = is_local name k bytes

-- the number is there, and it is n
abbrev pub is_number : ℕ → Option ℕ → Bool
is_number n None = false
is_number n (Some m) = m == n

-- the token is this count
abbrev pub is_count : ℕ → TokenKind → List ℕ → Option (Unit {0})
is_count n kind.Number bytes = fact (is_number n (number_of bytes))
is_count n other bytes = None

-- the rest of this type
abbrev pub same_rest : Ty → Grammar no_value
same_rest ty.Void = Done tt
same_rest (ty.One s) = Done tt
same_rest (ty.Struct name) = Done tt
same_rest (ty.Array' n _ (ty.more_of-Ty of ty.end_of-Ty)) = do
  _ ← One {a = no_value} (λ t. is_count n t.kind t.bytes)
  _ ← word "x"
  _ ← One {a = no_value} (λ t. fact (is_type_front of t.kind t.bytes))
  _ ← same_rest of
  punct "]"

-- the same type again
abbrev pub same_type : Ty → Grammar no_value
same_type t = do
  _ ← One {a = no_value} (λ u. fact (is_type_front t u.kind u.bytes))
  same_rest t

-- INITIALISERS

-- the type that literals are read as: a number behind another type than a register's may be any
abbrev pub literal_type : Ty → Scalar
literal_type ty.Void = Ptr
literal_type (ty.One s) = s
literal_type (ty.Array' n _ of) = Ptr
literal_type (ty.Struct name) = Ptr

-- a value that is no local one, with its range
abbrev pub constant : Ty → TokenKind → List ℕ → ℕ → Option (Value × Mark)
constant t kind.Local bytes at = None
constant t other bytes at = value_of (literal_type t) other bytes at

-- the type is i8
abbrev pub is_byte : Ty → Bool
is_byte (ty.One I8) = true
is_byte other = false

-- the elements are bytes, as those of [ N x i8 ] are
abbrev pub is_bytes : Option Ty → Bool
is_bytes None = false
is_bytes (Some t) = is_byte t

-- there are types for fields
abbrev pub has_fields : Option (List Ty) → Bool
has_fields None = false
has_fields (Some ts) = true

-- what an initialiser of this type begins with, and the mark of a literal's range
abbrev pub init_head : List StructDef → Ty → TokenKind → List ℕ → ℕ → Option (InitHead × Mark)
init_head structs t kind.CText bytes at =
    if is_bytes (element_type t) then Some (head.Bytes (text_of (drop 1 bytes)), range_mark at true) else None
init_head structs t kind.Punct bytes at =
    if is_punct (codes "[") kind.Punct bytes then Some (head.Array, range_mark at true)
    else (if is_punct (codes "{") kind.Punct bytes
    && has_fields (field_types structs t) then Some (head.Fields, range_mark at true) else None)
init_head structs t kind.Word bytes at =
    if bytes_eq bytes (codes "zeroinitializer") then Some (head.Zero, range_mark at true)
    else option_map (λ found. (head.Word found.0, found.1)) (constant t kind.Word bytes at)
init_head structs t other bytes at = option_map (λ found. (head.Word found.0, found.1)) (constant t other bytes at)

-- too many brackets are open at a place; nothing more is read
abbrev pub too_deep : ℕ → Grammar an_init
too_deep at = Marked (record { breach = record { bound = Depth; at = at }; within = false }) (One (λ t. None))

-- whether the next element of a list is the first one, where it begins: the type of the first, a comma before each
-- other
abbrev pub next_element : List Init → Option Ty → TokenKind → List ℕ → Option Bool
next_element [] None k bytes = None
next_element [] (Some t) k bytes = if is_type_front t k bytes then Some true else None
next_element (i ∷ is) t k bytes = if is_punct (codes ",") k bytes then Some false else None

-- the type of an element, of which the first token was read where it is the first one
abbrev pub element_type_rest : Bool → Ty → Grammar no_value
element_type_rest true t = same_rest t
element_type_rest false t = same_type t

-- one element more of a type; behind a comma where no type is left nothing fits
abbrev pub one_element : (Ty → Grammar an_init) → List Init → Bool → Option Ty → Grammar (list_of an_init)
one_element inner parts is_first None = One (λ t. None)
one_element inner parts is_first (Some t) = do
  _ ← element_type_rest is_first t
  i ← inner t
  Done (parts ++ i ∷ [])

-- (T INIT),* in square brackets, each of the one type
unfoldable pub elements : (Ty → Grammar an_init) → Option Ty → Grammar (list_of an_init)
elements inner t = Loop a_flag (λ parts u. next_element parts t u.kind u.bytes)
    (λ parts is_first. one_element inner parts is_first t) []

-- the type of the field behind so many
abbrev pub field_at : List Ty → ℕ → Option Ty
field_at [] n = None
field_at (t ∷ ts) zero = Some t
field_at (t ∷ ts) (suc n) = field_at ts n

-- (T INIT),* in curly brackets, each of the type at its place
unfoldable pub fields : (Ty → Grammar an_init) → List Ty → Grammar (list_of an_init)
fields inner ts =
    Loop a_flag (λ parts u. next_element parts (field_at ts (length parts)) u.kind u.bytes)
    (λ parts is_first. one_element inner parts is_first (field_at ts (length parts))) []

-- the types of fields, where there are some
abbrev pub or_none : Option (List Ty) → List Ty
or_none None = []
or_none (Some ts) = ts

-- the bytes of a text as an array
abbrev pub array_of_bytes : List ℕ → Init
array_of_bytes bytes = init.Array (map (λ b. init.Word (value.Int b)) bytes)

-- what stands behind the first token of an initialiser, where one bracket more may be open
abbrev pub init_rest : List StructDef → (Ty → Grammar an_init) → Ty → InitHead → Grammar an_init
init_rest structs inner t head.Zero = Done init.Zero
init_rest structs inner t (head.Word v) = Done (init.Word v)
init_rest structs inner t (head.Bytes bytes) = Done (array_of_bytes bytes)
init_rest structs inner t head.Array = do
  parts ← elements inner (element_type t)
  _ ← punct "]"
  Done (init.Array parts)
init_rest structs inner t head.Fields = do
  parts ← fields inner (or_none (field_types structs t))
  _ ← punct "}"
  Done (init.Fields parts)

-- the same, where no bracket more may be open at this place
abbrev pub init_leaf : ℕ → InitHead → Grammar an_init
init_leaf at head.Zero = Done init.Zero
init_leaf at (head.Word v) = Done (init.Word v)
init_leaf at (head.Bytes bytes) = too_deep at
init_leaf at head.Array = too_deep at
init_leaf at head.Fields = too_deep at

-- INIT of this type, where so many brackets may still be opened and these lines of structs stand before
unfoldable pub initialiser : List StructDef → ℕ → Ty → Grammar an_init
initialiser structs zero t = do
  h ← One {a = both_of an_init_head a_mark} (λ u. init_head structs t u.kind u.bytes u.at)
  Marked h.1 (init_leaf h.1.breach.at h.0)
initialiser structs (suc n) t = do
  h ← One {a = both_of an_init_head a_mark} (λ u. init_head structs t u.kind u.bytes u.at)
  Marked h.1 (init_rest structs (initialiser structs n) t h.0)

-- global or constant
abbrev pub is_global_word : TokenKind → List ℕ → Bool
is_global_word k bytes = if is_word (codes "global") k bytes then true else is_word (codes "constant") k bytes

-- = ~ global T INIT tail behind G, or with constant
unfoldable pub global_line : List StructDef → Name → Grammar a_global
global_line structs name = do
  _ ← punct "="
  _ ← ignored_run
  _ ← One {a = no_value} (λ t. fact (is_global_word t.kind t.bytes))
  t ← type_of true []
  i ← initialiser structs 64 t
  _ ← endings
  Done (record { name = name; ty = t; init = i })
