-- The forms of functions, and of the whole module.
use Rattle.std.specs.Prelude.{ℕ, ◌+◌, ◌-◌, ◌%◌, ◌^◌, min, Bool, true, false, not, nat_lt, nat_le, if◌then◌else◌, List}
use Rattle.std.specs.Prelude.{[], ◌∷◌, ◌++◌, take, length, Option, Some, None, is_some, option_map, codes}
use Rattle.std.specs.Str.{bytes_eq}
use Rattle.ds_lex.specs.declared.token.TokenKind.{TokenKind}
use Rattle.ds_lex.specs.declared.token.TokenKind.TheVariants as kind
use Rattle.ds_ast.specs.declared.name.Name.{Name}
use Rattle.ds_ast.specs.declared.name.Name.TheVariants as name
use Rattle.ds_ast.specs.declared.ty.Scalar.{Scalar}
use Rattle.ds_ast.specs.declared.instr.Op.{Op}
use Rattle.ds_ast.specs.declared.instr.Instr.{Instr}
use Rattle.ds_ast.specs.declared.module.Module.{Module}
use Rattle.ds_ast.specs.declared.module.Param.{Param}
use Rattle.ds_ast.specs.declared.module.Block.{Block}
use Rattle.ds_ast.specs.Bounds.{has_result, is_terminator}
use Rattle.ds_grammar.specs.declared.fault.Mark.{Mark}
use Rattle.ds_grammar.specs.declared.item.Begin.{Begin}
use Rattle.ds_grammar.specs.declared.item.Begin.TheVariants as begin
use Rattle.ds_grammar.specs.declared.item.Entity.{Entity}
use Rattle.ds_grammar.specs.declared.item.Entity.TheVariants as entity
use Rattle.ds_grammar.specs.Sort.{Body, Params, no_value, a_number, a_name, a_scalar, a_param, a_block, a_function}
use Rattle.ds_grammar.specs.Sort.{a_module, a_begin, a_head, an_entity, a_body, some_params, both_of, list_of, maybe}
use Rattle.ds_grammar.specs.Grammar.{Grammar, Done, One, Then, Marked, Loop, ◌>>=◌, marked_by, optional}
use Rattle.ds_grammar.specs.Tokens.{word_in, scalar_words, token_name, name_of, range_mark}
use Rattle.ds_grammar.specs.Rows.{fact, is_punct, punct, is_word, scalar, local_name, ignored_run, balanced}
use Rattle.ds_grammar.specs.Instructions.{global, head_of, row_of}
use Rattle.ds_grammar.specs.Types.{type_of}
use Rattle.ds_grammar.specs.Globals.{struct_line, global_line}
use Rattle.ds_grammar.specs.Form.{Form}
use Rattle.ds_grammar.specs.Fault.{AreWithin}
use Rattle.ds_grammar.specs.Lexemes.{lexemes_from}
use Rattle.ds_lex.specs.declared.token.Token.{Token}
use Rattle.ds_lex.specs.Lexed.{Lexed}

-- NUMBERS OF NAMES: each function has one counter, from 0

-- a number that a name takes without being written is below 2 ^ 32
abbrev pub taken_mark : ℕ → ℕ → Mark
taken_mark at counter = range_mark at (nat_lt counter (2 ^ 32))

-- a number that is written is at least the counter
abbrev pub written_mark : ℕ → Name → ℕ → Mark
written_mark at (name.Number n) counter = range_mark at (nat_le counter n)
written_mark at (name.Text bytes) counter = range_mark at true

-- the counter behind this number; a counter stands still at 2 ^ 64 - 1, which takes more names than a text can have
abbrev pub risen : ℕ → ℕ
risen n = min (n + 1) (2 ^ 64 - 1)

-- the counter behind a name that is written
abbrev pub counted : Name → ℕ → ℕ
counted (name.Number n) counter = risen n
counted (name.Text bytes) counter = counter

-- the name that a number is
abbrev pub numbered : ℕ → Name
numbered n = name.Number (n % 2 ^ 32)

-- PARAMETERS

-- the type of a parameter, with its place, or else a comma
abbrev pub next_parameter : List Param → TokenKind → List ℕ → ℕ → Option (Option (Scalar × ℕ))
next_parameter [] k bytes at = option_map (λ s. Some (s, at)) (word_in scalar_words k bytes)
next_parameter (p ∷ ps) k bytes at = if is_punct (codes ",") k bytes then Some None else None

-- a local name, with its place
abbrev pub placed_name : TokenKind → List ℕ → ℕ → Option (Name × ℕ)
placed_name k bytes at = option_map (λ n. (n, at)) (local_name k bytes)

-- the parameters with one more. Behind a name that is not written stands the mark that its number takes once the
-- parameter ends.
abbrev pub with_parameter : Params → Scalar × ℕ → Option (Name × ℕ) → Params
with_parameter ps s (Some n) = record {
  params = ps.params
      ++ (record { name = n.0; ty = s.0 }) ∷ [];
  counter = counted n.0 ps.counter;
  pending = [];
}
with_parameter ps s None = record {
  params = ps.params
      ++ (record { name = numbered ps.counter; ty = s.0 }) ∷ [];
  counter = risen ps.counter;
  pending = taken_mark s.1
      ps.counter ∷ [];
}

-- the marks of the name, where it is written
abbrev pub name_marks : Params → Option (Name × ℕ) → List Mark
name_marks ps None = []
name_marks ps (Some n) = written_mark n.1 n.0 ps.counter ∷ []

-- ~ L? behind the S of a parameter
unfoldable pub parameter_rest : Params → Scalar × ℕ → Grammar some_params
parameter_rest ps s = do
  _ ← ignored_run
  n ← optional {b = both_of a_name a_number} (both_of a_name a_number) (λ t. placed_name t.kind t.bytes t.at)
      (λ n. Done n)
  marked_by (name_marks ps n) (Done (with_parameter ps s n))

-- S with its place
unfoldable pub placed_scalar : Grammar (both_of a_scalar a_number)
placed_scalar = One (λ t. option_map (λ s. (s, t.at)) (word_in scalar_words t.kind t.bytes))

-- one parameter more, of which the type or the comma before it was read
abbrev pub parameters_more : Params → Option (Scalar × ℕ) → Grammar some_params
parameters_more ps (Some s) = parameter_rest ps s
parameters_more ps None = marked_by ps.pending (Then placed_scalar (parameter_rest ps))

-- P,* ) behind (
unfoldable pub parameters : Grammar some_params
parameters = do
  ps ← Loop (maybe (both_of a_scalar a_number)) (λ ps t. next_parameter ps.params t.kind t.bytes t.at) parameters_more
      (record { params = []; counter = 0; pending = [] })
  _ ← punct ")"
  marked_by ps.pending (Done ps)

-- THE PARAMETERS OF A DECLARATION, whose names are dropped: they are the numbers from 0 on

-- one parameter of a declaration more
abbrev pub declared_more : List Param → Option (Scalar × ℕ) → Grammar (list_of a_param)
declared_more ps (Some s) = do
  _ ← ignored_run
  _ ← optional {b = a_name} a_name (λ t. local_name t.kind t.bytes) (λ n. Done n)
  Done (ps ++ (record { name = numbered (length ps); ty = s.0 }) ∷ [])
declared_more ps None = do
  s ← scalar
  _ ← ignored_run
  _ ← optional {b = a_name} a_name (λ t. local_name t.kind t.bytes) (λ n. Done n)
  Done (ps ++ (record { name = numbered (length ps); ty = s }) ∷ [])

-- P,* of a declaration
unfoldable pub declared_parameters : Grammar (list_of a_param)
declared_parameters =
    Loop (maybe (both_of a_scalar a_number)) (λ ps t. next_parameter ps t.kind t.bytes t.at) declared_more []

-- BLOCKS

-- the name of a label, which stands before its colon
abbrev pub label_name : List ℕ → Option Name
label_name bytes = name_of (take (length bytes - 1) bytes)

-- what begins a line of a body, with its place: a label where no block is open, the name of a result, or an
-- instruction
abbrev pub line_begin : Bool → TokenKind → List ℕ → ℕ → Option (Begin × ℕ)
line_begin may_be_label kind.Label bytes at =
    if may_be_label then option_map (λ n. (begin.Label n, at)) (label_name bytes) else None
line_begin may_be_label kind.Local bytes at = option_map (λ n. (begin.Named n, at)) (token_name bytes)
line_begin may_be_label other bytes at = option_map (λ h. (begin.Head h, at)) (head_of false other bytes)

-- the block that is open, or a new one that takes the next number
abbrev pub opened : Option Block → ℕ → Block
opened (Some b) counter = b
opened None counter = record { name = numbered counter; code = [] }

-- the counter behind that
abbrev pub opened_counter : Option Block → ℕ → ℕ
opened_counter (Some b) counter = counter
opened_counter None counter = risen counter

-- the marks of that, at the first token of the block
abbrev pub opened_marks : Option Block → ℕ → ℕ → List Mark
opened_marks (Some b) at counter = []
opened_marks None at counter = taken_mark at counter ∷ []

-- the block with one instruction more
abbrev pub longer : Block → Instr → Block
longer b i = record { name = b.name; code = b.code ++ i ∷ [] }

-- the body with one instruction more in the block that is open, or in a new one; a terminator ends the block
abbrev pub with_instruction : Body → ℕ → Instr → Body
with_instruction b counter i =
    if is_terminator i.op then record {
      blocks = b.blocks
          ++ longer (opened b.open_block b.counter) i ∷ [];
      open_block = None;
      counter = counter;
    }
    else record { blocks = b.blocks; open_block = Some (longer (opened b.open_block b.counter) i); counter = counter }

-- an instruction whose result is not named takes the number n, where it has a result
abbrev pub unnamed : ℕ → Op → Instr
unnamed n o = record { result = if has_result o then Some (numbered n) else None; op = o }

-- the counter behind that
abbrev pub unnamed_counter : ℕ → Op → ℕ
unnamed_counter n o = if has_result o then risen n else n

-- the rest of a line of a body
abbrev pub line_rest : Body → Begin × ℕ → Grammar a_body
line_rest b (begin.Label n, at) =
    Marked (written_mark at n b.counter) (Done (record
    { blocks = b.blocks; open_block = Some (record { name = n; code = [] }); counter = counted n b.counter }))
line_rest b (begin.Named n, at) =
    marked_by (opened_marks b.open_block at b.counter)
    (Marked (written_mark at n (opened_counter b.open_block b.counter)) (do
      _ ← punct "="
      h ← One {a = a_head} (λ t. head_of true t.kind t.bytes)
      o ← row_of true [] h
      Done (with_instruction b (counted n (opened_counter b.open_block b.counter))
          (record { result = Some n; op = o }))))
line_rest b (begin.Head h, at) =
    marked_by (opened_marks b.open_block at b.counter) (do
      o ← row_of false (taken_mark at (opened_counter b.open_block b.counter) ∷ []) h
      Done (with_instruction b (unnamed_counter (opened_counter b.open_block b.counter) o)
          (unnamed (opened_counter b.open_block b.counter) o)))

-- block block*, where names are counted from this number on
unfoldable pub body_from : ℕ → Grammar a_body
body_from counter =
    Loop (both_of a_begin a_number) (λ b t. line_begin (not (is_some b.open_block)) t.kind t.bytes t.at) line_rest
    (record { blocks = []; open_block = None; counter = counter })

-- the blocks of a body, of which there is one at least and each has ended
abbrev pub ended : Option Block → List Block → Grammar (list_of a_block)
ended (Some b) blocks = One (λ t. None)
ended None [] = One (λ t. None)
ended None (b ∷ bs) = Done (b ∷ bs)

-- FUNCTIONS

-- ~ T G ( P,* ) ~ { block block* } behind define
unfoldable pub define_line : Grammar a_function
define_line = do
  _ ← ignored_run
  t ← type_of true []
  n ← global
  _ ← punct "("
  ps ← parameters
  _ ← ignored_run
  _ ← punct "{"
  b ← body_from ps.counter
  blocks ← ended b.open_block b.blocks
  _ ← punct "}"
  Done (record { name = n; result = t; params = ps.params; blocks = blocks })

-- the token is a name of metadata
abbrev pub is_meta : TokenKind → Bool
is_meta kind.Meta = true
is_meta other = false

-- any number of META META
unfoldable pub metadata_pairs : Grammar no_value
metadata_pairs = Loop no_value (λ u t. fact (is_meta t.kind)) (λ u v. One (λ t. fact (is_meta t.kind))) tt

-- (META META)* ~ T G ( P,* ) ~ behind declare
unfoldable pub declare_line : Grammar a_function
declare_line = do
  _ ← metadata_pairs
  _ ← ignored_run
  t ← type_of true []
  n ← global
  _ ← punct "("
  ps ← declared_parameters
  _ ← punct ")"
  _ ← ignored_run
  Done (record { name = n; result = t; params = ps; blocks = [] })

-- THE MODULE

-- the token is a text
abbrev pub is_text_token : TokenKind → Bool
is_text_token kind.Text = true
is_text_token other = false

-- the token is #N
abbrev pub is_attr : TokenKind → Bool
is_attr kind.Attr = true
is_attr other = false

-- = Text
unfoldable pub text_line : Grammar no_value
text_line = do
  _ ← punct "="
  One (λ t. fact (is_text_token t.kind))

-- datalayout or triple
abbrev pub is_target_word : TokenKind → List ℕ → Bool
is_target_word k bytes = if is_word (codes "datalayout") k bytes then true else is_word (codes "triple") k bytes

-- datalayout or triple, = Text behind target
unfoldable pub target_line : Grammar no_value
target_line = do
  _ ← One {a = no_value} (λ t. fact (is_target_word t.kind t.bytes))
  text_line

-- { balanced }
unfoldable pub group : Grammar no_value
group = do
  _ ← punct "{"
  balanced 125

-- a ! alone
abbrev pub is_bang : TokenKind → List ℕ → Bool
is_bang kind.Meta bytes = bytes_eq bytes (codes "!")
is_bang other bytes = false

-- distinct, which need not be written
unfoldable pub optional_distinct : Grammar (maybe no_value)
optional_distinct = optional no_value (λ t. fact (is_word (codes "distinct") t.kind t.bytes)) (λ u. Done tt)

-- = distinct? ! { balanced } behind META
unfoldable pub metadata_line : Grammar no_value
metadata_line = do
  _ ← punct "="
  _ ← optional_distinct
  _ ← One {a = no_value} (λ t. fact (is_bang t.kind t.bytes))
  group

-- Attr = { balanced } behind attributes
unfoldable pub attributes_line : Grammar no_value
attributes_line = do
  _ ← One {a = no_value} (λ t. fact (is_attr t.kind))
  _ ← punct "="
  group

-- what a word begins
abbrev pub entity_word : List ℕ → Option Entity
entity_word bytes =
    if bytes_eq bytes (codes "source_filename") then Some entity.SourceFilename
    else (if bytes_eq bytes (codes "target") then Some entity.Target
    else (if bytes_eq bytes (codes "declare") then Some entity.Declare
    else (if bytes_eq bytes (codes "define") then Some entity.Define
    else (if bytes_eq bytes (codes "attributes") then Some entity.Attributes
    else None))))

-- what a token begins
abbrev pub entity_of : TokenKind → List ℕ → Option Entity
entity_of kind.Word bytes = entity_word bytes
entity_of kind.Local bytes = option_map (λ n. entity.Struct n) (token_name bytes)
entity_of kind.Global bytes = option_map (λ n. entity.Global n) (token_name bytes)
entity_of kind.Meta bytes = Some entity.Metadata
entity_of other bytes = None

-- the module with one entity more
abbrev pub entity_rest : Module → Entity → Grammar a_module
entity_rest m entity.SourceFilename = Then text_line (λ u. Done m)
entity_rest m entity.Target = Then target_line (λ u. Done m)
entity_rest m (entity.Struct n) = do
  s ← struct_line n
  Done (record { structs = m.structs ++ s ∷ []; globals = m.globals; functions = m.functions })
entity_rest m (entity.Global n) = do
  g ← global_line m.structs n
  Done (record { structs = m.structs; globals = m.globals ++ g ∷ []; functions = m.functions })
entity_rest m entity.Declare = do
  f ← declare_line
  Done (record { structs = m.structs; globals = m.globals; functions = m.functions ++ f ∷ [] })
entity_rest m entity.Define = do
  f ← define_line
  Done (record { structs = m.structs; globals = m.globals; functions = m.functions ++ f ∷ [] })
entity_rest m entity.Attributes = Then attributes_line (λ u. Done m)
entity_rest m entity.Metadata = Then metadata_line (λ u. Done m)

-- entity*
unfoldable pub module_text : Grammar a_module
module_text = Loop an_entity (λ m t. entity_of t.kind t.bytes) entity_rest
    (record { structs = []; globals = []; functions = [] })

-- The text spells this module: its tokens up to the end, which is the last, have the form of a module, and nothing in
-- them is out of its bound.
pub record Text (text : List ℕ) (m : Module) : Type 0 where
  pub tokens : List Token
  pub lexed : Lexed text tokens
  pub marks : List Mark
  pub form : Form module_text (lexemes_from text tokens 0) [] m marks
  pub within : AreWithin marks
