-- The forms of the instructions, one definition for each: a row of the table of forms reads as its `do` block, from
-- the top.
use Rattle.std.specs.Prelude.{ℕ, Bool, true, false, not, ◌&&◌, ◌||◌, ◌%◌, ◌^◌, nat_le, if◌then◌else◌, List, [], ◌∷◌}
use Rattle.std.specs.Prelude.{◌++◌, Option, Some, None, is_some, option_map, codes}
use Rattle.std.specs.Str.{bytes_eq}
use Rattle.ds_lex.specs.declared.token.TokenKind.{TokenKind}
use Rattle.ds_lex.specs.declared.token.TokenKind.TheVariants as kind
use Rattle.ds_lex.specs.Number.{number_of}
use Rattle.ds_ast.specs.declared.name.Name.{Name}
use Rattle.ds_ast.specs.declared.ty.Scalar.{Scalar}
use Rattle.ds_ast.specs.declared.ty.Scalar.TheVariants.{I1, I8, I16, I32, I64, Ptr}
use Rattle.ds_ast.specs.declared.operand.Operand.{Operand}
use Rattle.ds_ast.specs.declared.operand.Arm.{Arm}
use Rattle.ds_ast.specs.declared.words.BinOp.{BinOp}
use Rattle.ds_ast.specs.declared.words.CastOp.{CastOp}
use Rattle.ds_ast.specs.declared.words.CastOp.TheVariants as cast
use Rattle.ds_ast.specs.declared.words.Cond.{Cond}
use Rattle.ds_ast.specs.declared.words.Cond.TheVariants as cond
use Rattle.ds_ast.specs.declared.words.RmwOp.{RmwOp}
use Rattle.ds_ast.specs.declared.words.RmwOp.TheVariants as rmw
use Rattle.ds_ast.specs.declared.instr.Op.TheVariants as op
use Rattle.ds_grammar.specs.declared.fault.Mark.{Mark}
use Rattle.ds_grammar.specs.declared.item.RunItem.{RunItem}
use Rattle.ds_grammar.specs.declared.item.Ending.{Ending}
use Rattle.ds_grammar.specs.declared.item.Ending.TheVariants as ending
use Rattle.ds_grammar.specs.declared.item.Behind.{Behind}
use Rattle.ds_grammar.specs.declared.item.Behind.TheVariants as behind
use Rattle.ds_grammar.specs.declared.item.Stage.{Stage}
use Rattle.ds_grammar.specs.declared.item.Stage.TheVariants as stage
use Rattle.ds_grammar.specs.declared.item.Head.{Head}
use Rattle.ds_grammar.specs.declared.item.Head.TheVariants as head
use Rattle.ds_grammar.specs.Sort.{no_value, a_flag, a_number, a_mark, a_name, a_scalar, a_value, a_cond, a_rmw_op}
use Rattle.ds_grammar.specs.Sort.{an_operand, an_arm, an_op, an_instr, an_ending, a_behind, a_stage, a_head, both_of}
use Rattle.ds_grammar.specs.Sort.{list_of, maybe}
use Rattle.ds_grammar.specs.Grammar.{Grammar, Done, One, Then, Marked, Loop, ◌>>=◌, marked_by, optional}
use Rattle.ds_grammar.specs.Tokens.{lookup, word_in, scalar_words, bin_op_words, token_name, range_mark, width_of}
use Rattle.ds_grammar.specs.Tokens.{fits_type}
use Rattle.ds_grammar.specs.Rows.{fact, is_punct, punct, is_word, word, scalar, local_name, value, result_name}
use Rattle.ds_grammar.specs.Rows.{run_item, run_rest, ignored_from, ignored_run, ending_item, is_metadata}
use Rattle.ds_grammar.specs.Rows.{ending_last, endings}
use Rattle.ds_grammar.specs.Types.{type_of}

-- the first of two that is there
abbrev pub if_none : {A : Type 0} → Option A → Option A → Option A
if_none (Some a) b = Some a
if_none None b = b

-- WORDS

-- the conversions
abbrev pub cast_op_words : List (List ℕ × CastOp)
cast_op_words =
    (codes "zext", cast.Zext) ∷ (codes "sext", cast.Sext) ∷ (codes "trunc", cast.Trunc) ∷
    (codes "ptrtoint", cast.PtrToInt) ∷ (codes "inttoptr", cast.IntToPtr) ∷ []

-- the comparisons
abbrev pub cond_words : List (List ℕ × Cond)
cond_words =
    (codes "eq", cond.Eq) ∷ (codes "ne", cond.Ne) ∷ (codes "ugt", cond.Ugt) ∷ (codes "uge", cond.Uge) ∷
    (codes "ult", cond.Ult) ∷ (codes "ule", cond.Ule) ∷
    (codes "sgt", cond.Sgt) ∷ (codes "sge", cond.Sge) ∷ (codes "slt", cond.Slt) ∷ (codes "sle", cond.Sle) ∷ []

-- what an atomicrmw writes
abbrev pub rmw_op_words : List (List ℕ × RmwOp)
rmw_op_words =
    (codes "xchg", rmw.Xchg) ∷ (codes "add", rmw.Add) ∷ (codes "sub", rmw.Sub) ∷ (codes "and", rmw.And) ∷
    (codes "or", rmw.Or) ∷ (codes "xor", rmw.Xor) ∷
    (codes "umax", rmw.Umax) ∷ (codes "umin", rmw.Umin) ∷ []

-- the orderings of memory, which all are read as the strongest
abbrev pub ordering_words : List (List ℕ × Unit {0})
ordering_words =
    (codes "unordered", tt) ∷ (codes "monotonic", tt) ∷ (codes "acquire", tt) ∷ (codes "release", tt) ∷
    (codes "acq_rel", tt) ∷ (codes "seq_cst", tt) ∷ []

unfoldable pub condition : Grammar a_cond
condition = One (λ t. word_in cond_words t.kind t.bytes)

unfoldable pub rmw_op : Grammar a_rmw_op
rmw_op = One (λ t. word_in rmw_op_words t.kind t.bytes)

unfoldable pub ordering : Grammar no_value
ordering = One (λ t. word_in ordering_words t.kind t.bytes)

unfoldable pub optional_ordering : Grammar (maybe no_value)
optional_ordering = optional no_value (λ t. word_in ordering_words t.kind t.bytes) (λ u. Done tt)

unfoldable pub optional_atomic : Grammar (maybe no_value)
optional_atomic = optional no_value (λ t. fact (is_word (codes "atomic") t.kind t.bytes)) (λ u. Done tt)

-- OPERANDS

-- the word of a type
abbrev pub scalar_word : Scalar → List ℕ
scalar_word I1 = codes "i1"
scalar_word I8 = codes "i8"
scalar_word I16 = codes "i16"
scalar_word I32 = codes "i32"
scalar_word I64 = codes "i64"
scalar_word Ptr = codes "ptr"

-- the same type as before
unfoldable pub same_scalar : Scalar → Grammar no_value
same_scalar s = One (λ t. fact (is_word (scalar_word s) t.kind t.bytes))

-- S V, where S is this type
unfoldable pub typed_value : Scalar → Grammar a_value
typed_value s = do
  _ ← same_scalar s
  value s

-- L
unfoldable pub local : Grammar a_name
local = One (λ t. local_name t.kind t.bytes)

-- the name of a global
abbrev pub global_name : TokenKind → List ℕ → Option Name
global_name kind.Global bytes = token_name bytes
global_name other bytes = None

-- G
unfoldable pub global : Grammar a_name
global = One (λ t. global_name t.kind t.bytes)

-- label L
unfoldable pub target : Grammar a_name
target = do
  _ ← word "label"
  local

-- LISTS AT THE END of an instruction: `, item` any number of times, then endings

-- the items so far, and what may still stand
abbrev pub Trail : Type 0 → Type 0
Trail A = List A × Stage

-- a #N stands before, behind which there is no comma
abbrev pub only_attrs : Stage → Bool
only_attrs stage.Items = false
only_attrs stage.Endings = false
only_attrs stage.Attrs = true

-- items may stand
abbrev pub are_items : Stage → Bool
are_items stage.Items = true
are_items stage.Endings = false
are_items stage.Attrs = false

-- an ending behind a comma
abbrev pub ending_behind : TokenKind → List ℕ → Option Behind
ending_behind k bytes =
    option_map (λ metadata. if metadata then behind.Metadata else behind.Align) (is_metadata k bytes)

-- behind a comma: the type of an operand, where one may stand, or an ending
abbrev pub operand_behind : Bool → TokenKind → List ℕ → Option Behind
operand_behind may_be_operand k bytes = if_none
    (if may_be_operand then option_map (λ s. behind.Operand s) (word_in scalar_words k bytes) else None)
    (ending_behind k bytes)

-- behind a comma: the [ of an arm, where one may stand, or an ending
abbrev pub arm_behind : Bool → TokenKind → List ℕ → Option Behind
arm_behind may_be_arm k bytes =
    if may_be_arm && is_punct (codes "[") k bytes then Some behind.Arm else ending_behind k bytes

-- the operands of a list behind what stands behind the next comma
abbrev pub operand_rest : List Operand → Behind → Grammar (both_of (list_of an_operand) a_stage)
operand_rest operands (behind.Operand s) = do
  v ← value s
  Done (operands ++ (record { ty = s; value = v }) ∷ [], stage.Items)
operand_rest operands behind.Arm = One (λ t. None)
operand_rest operands behind.Metadata = do
  _ ← ending_last true
  Done (operands, stage.Endings)
operand_rest operands behind.Align = do
  _ ← ending_last false
  Done (operands, stage.Endings)

-- the list is empty
abbrev pub is_empty : List Operand → Bool
is_empty [] = true
is_empty (o ∷ os) = false

-- one more operand or ending behind the next comma, or #N; where at most one operand may stand only a first one
abbrev pub operands_more : Bool → Trail Operand → Ending → Grammar (both_of (list_of an_operand) a_stage)
operands_more at_most_one s ending.Attr = Done (s.0, stage.Attrs)
operands_more at_most_one s ending.Comma = do
  b ← One {a = a_behind} (λ t. operand_behind (are_items s.1 && (not at_most_one || is_empty s.0)) t.kind t.bytes)
  operand_rest s.0 b

-- more operands and endings behind these
unfoldable pub operands_from : Bool → Trail Operand → Grammar (both_of (list_of an_operand) a_stage)
operands_from at_most_one trail =
    Loop an_ending (λ s t. ending_item (only_attrs s.1) t.kind t.bytes) (operands_more at_most_one) trail

-- (, S V)* and endings
unfoldable pub operand_trail : Bool → Grammar (list_of an_operand)
operand_trail at_most_one = do
  trail ← operands_from at_most_one ([], stage.Items)
  Done trail.0

-- V , L ] behind the [ of an arm
unfoldable pub arm : Scalar → Grammar an_arm
arm s = do
  v ← value s
  _ ← punct ","
  l ← local
  _ ← punct "]"
  Done (record { value = v; from = l })

-- the arms of a list behind what stands behind the next comma
abbrev pub arm_rest : Scalar → List Arm → Behind → Grammar (both_of (list_of an_arm) a_stage)
arm_rest s arms behind.Arm = do
  a ← arm s
  Done (arms ++ a ∷ [], stage.Items)
arm_rest s arms (behind.Operand o) = One (λ t. None)
arm_rest s arms behind.Metadata = do
  _ ← ending_last true
  Done (arms, stage.Endings)
arm_rest s arms behind.Align = do
  _ ← ending_last false
  Done (arms, stage.Endings)

-- one more arm or ending behind the next comma, or #N
abbrev pub arms_more : Scalar → Trail Arm → Ending → Grammar (both_of (list_of an_arm) a_stage)
arms_more s trail ending.Attr = Done (trail.0, stage.Attrs)
arms_more s trail ending.Comma = do
  b ← One {a = a_behind} (λ t. arm_behind (are_items trail.1) t.kind t.bytes)
  arm_rest s trail.0 b

-- more arms and endings behind these
unfoldable pub arms_from : Scalar → Trail Arm → Grammar (both_of (list_of an_arm) a_stage)
arms_from s trail = Loop an_ending (λ s t. ending_item (only_attrs s.1) t.kind t.bytes) (arms_more s) trail

-- (, [ V , L ])* and endings, behind the first arm
unfoldable pub arm_trail : Scalar → Arm → Grammar (list_of an_arm)
arm_trail s a = do
  trail ← arms_from s (a ∷ [], stage.Items)
  Done trail.0

-- the first operand, if there is one
abbrev pub first_operand : List Operand → Option Operand
first_operand [] = None
first_operand (o ∷ os) = Some o

-- ROWS, each behind its word and up to its endings

-- OP ~ S V , V
unfoldable pub binary_row : BinOp → Grammar an_op
binary_row o = do
  _ ← ignored_run
  s ← scalar
  a ← value s
  _ ← punct ","
  b ← value s
  _ ← endings
  Done (op.Bin o s a b)

-- CAST ~ S V to S
unfoldable pub cast_row : CastOp → Grammar an_op
cast_row o = do
  _ ← ignored_run
  from ← scalar
  a ← value from
  _ ← word "to"
  to ← scalar
  _ ← endings
  Done (op.Cast o from a to)

-- icmp ~ COND S V , V
unfoldable pub icmp_row : Grammar an_op
icmp_row = do
  _ ← ignored_run
  c ← condition
  s ← scalar
  a ← value s
  _ ← punct ","
  b ← value s
  _ ← endings
  Done (op.Icmp c s a b)

-- select i1 V , S V , S V
unfoldable pub select_row : Grammar an_op
select_row = do
  c ← typed_value I1
  _ ← punct ","
  s ← scalar
  a ← value s
  _ ← punct ","
  b ← typed_value s
  _ ← endings
  Done (op.Select c s a b)

-- alloca T, or alloca T , S V
unfoldable pub alloca_row : Grammar an_op
alloca_row = do
  t ← type_of true []
  operands ← operand_trail true
  Done (op.Alloca t (first_operand operands))

-- load atomic? ~ S , ptr V O?
unfoldable pub load_row : Grammar an_op
load_row = do
  _ ← optional_atomic
  _ ← ignored_run
  s ← scalar
  _ ← punct ","
  at ← typed_value Ptr
  _ ← optional_ordering
  _ ← endings
  Done (op.Load s at)

-- store atomic? ~ S V , ptr V O?
unfoldable pub store_row : Grammar an_op
store_row = do
  _ ← optional_atomic
  _ ← ignored_run
  s ← scalar
  v ← value s
  _ ← punct ","
  at ← typed_value Ptr
  _ ← optional_ordering
  _ ← endings
  Done (op.Store s v at)

-- getelementptr ~ T , ptr V (, S V)*
unfoldable pub gep_row : Grammar an_op
gep_row = do
  _ ← ignored_run
  t ← type_of true []
  _ ← punct ","
  base ← typed_value Ptr
  indices ← operand_trail false
  Done (op.Gep t base indices)

-- what begins an argument: its type where it is the first one, and a comma before each other
abbrev pub next_argument : Bool → TokenKind → List ℕ → Option (Option Scalar)
next_argument true k bytes = option_map (λ s. Some s) (word_in scalar_words k bytes)
next_argument false k bytes = if is_punct (codes ",") k bytes then Some None else None

-- ~ V behind the S of an argument
unfoldable pub argument_value : List Operand → Scalar → Grammar (list_of an_operand)
argument_value operands s = do
  _ ← ignored_run
  v ← value s
  Done (operands ++ (record { ty = s; value = v }) ∷ [])

-- the rest of an argument, of which the type or the comma before it was read
abbrev pub argument_rest : List Operand → Option Scalar → Grammar (list_of an_operand)
argument_rest operands (Some s) = argument_value operands s
argument_rest operands None = Then scalar (argument_value operands)

-- more arguments behind these
unfoldable pub arguments_from : List Operand → Grammar (list_of an_operand)
arguments_from operands =
    Loop (maybe a_scalar) (λ s t. next_argument (is_empty s) t.kind t.bytes) argument_rest operands

-- (S ~ V),*
abbrev pub arguments : Grammar (list_of an_operand)
arguments = arguments_from []

-- call ~ T G ( (S ~ V),* ) ~, where T is not void behind L =
unfoldable pub call_row : Bool → List Mark → Grammar an_op
call_row named marks = do
  _ ← ignored_run
  t ← type_of (not named) marks
  callee ← global
  _ ← punct "("
  args ← arguments
  _ ← punct ")"
  _ ← ignored_run
  _ ← endings
  Done (op.Call t callee args)

-- phi S [ V , L ],+
unfoldable pub phi_row : Grammar an_op
phi_row = do
  s ← scalar
  _ ← punct "["
  a ← arm s
  arms ← arm_trail s a
  Done (op.Phi s arms)

-- atomicrmw ~ A ptr V , S V O
unfoldable pub rmw_row : Grammar an_op
rmw_row = do
  _ ← ignored_run
  o ← rmw_op
  at ← typed_value Ptr
  _ ← punct ","
  s ← scalar
  v ← value s
  _ ← ordering
  _ ← endings
  Done (op.Rmw o at s v)

-- cmpxchg ~ ptr V , S V , S V O O
unfoldable pub cmpxchg_row : Grammar an_op
cmpxchg_row = do
  _ ← ignored_run
  at ← typed_value Ptr
  _ ← punct ","
  s ← scalar
  expected ← value s
  _ ← punct ","
  new ← typed_value s
  _ ← ordering
  _ ← ordering
  _ ← endings
  Done (op.Cmpxchg at s expected new)

-- which of the two parts of a cmpxchg's result: 0 or 1
abbrev pub part_of : TokenKind → List ℕ → ℕ → Option (ℕ × Mark)
part_of kind.Number bytes at = option_map (λ n. (n % 2 ^ 32, range_mark at (nat_le n 1))) (number_of bytes)
part_of other bytes at = None

unfoldable pub part_number : Grammar a_number
part_number = do
  found ← One {a = both_of a_number a_mark} (λ t. part_of t.kind t.bytes t.at)
  Marked found.1 (Done found.0)

-- extractvalue { S , i1 } L , N
unfoldable pub extract_row : Grammar an_op
extract_row = do
  _ ← punct "{"
  s ← scalar
  _ ← punct ","
  _ ← same_scalar I1
  _ ← punct "}"
  l ← local
  _ ← punct ","
  n ← part_number
  _ ← endings
  Done (op.Extract s l n)

-- fence O
unfoldable pub fence_row : Grammar an_op
fence_row = do
  _ ← ordering
  _ ← endings
  Done op.Fence

-- behind ret: void, or the type of a value
abbrev pub returned : TokenKind → List ℕ → Option (Option Scalar)
returned kind.Word bytes =
    if bytes_eq bytes (codes "void") then Some None else option_map (λ s. Some s) (lookup scalar_words bytes)
returned other bytes = None

-- the value that is returned, if one is
abbrev pub returned_value : Option Scalar → Grammar (maybe an_operand)
returned_value None = Done None
returned_value (Some s) = do
  v ← value s
  Done (Some (record { ty = s; value = v }))

-- ret void, or ret S V
unfoldable pub ret_row : Grammar an_op
ret_row = do
  s ← One {a = maybe a_scalar} (λ t. returned t.kind t.bytes)
  v ← returned_value s
  _ ← endings
  Done (op.Ret v)

-- behind br: i1, where a condition follows, or label
abbrev pub is_conditional : TokenKind → List ℕ → Option Bool
is_conditional kind.Word bytes =
    if bytes_eq bytes (codes "i1") then Some true else if bytes_eq bytes (codes "label") then Some false else None
is_conditional other bytes = None

-- the targets of a branch, behind its first word
abbrev pub branch : Bool → Grammar an_op
branch false = do
  l ← local
  _ ← endings
  Done (op.Br l)
branch true = do
  c ← value I1
  _ ← punct ","
  first ← target
  _ ← punct ","
  second ← target
  _ ← endings
  Done (op.CondBr c first second)

-- br B, or br i1 V , B , B
unfoldable pub br_row : Grammar an_op
br_row = do
  conditional ← One {a = a_flag} (λ t. is_conditional t.kind t.bytes)
  branch conditional

-- the number of a case, in its type
abbrev pub case_of : Scalar → TokenKind → List ℕ → ℕ → Option (ℕ × Mark)
case_of s kind.Number bytes at =
    option_map (λ n. (n % 2 ^ width_of s, range_mark at (fits_type s bytes n))) (number_of bytes)
case_of s other bytes at = None

unfoldable pub case_number : Scalar → Grammar a_number
case_number s = do
  found ← One {a = both_of a_number a_mark} (λ t. case_of s t.kind t.bytes t.at)
  Marked found.1 (Done found.0)

-- N , B behind the S of a case
unfoldable pub case_rest : Scalar → List (ℕ × Name) → Grammar (list_of (both_of a_number a_name))
case_rest s cases = do
  n ← case_number s
  _ ← punct ","
  l ← target
  Done (cases ++ (n, l) ∷ [])

-- (S N , B)*, where S is this type
unfoldable pub cases : Scalar → Grammar (list_of (both_of a_number a_name))
cases s = Loop no_value (λ cs t. fact (is_word (scalar_word s) t.kind t.bytes)) (λ cs u. case_rest s cs) []

-- switch S V , B [ (S N , B)* ]
unfoldable pub switch_row : Grammar an_op
switch_row = do
  s ← scalar
  v ← value s
  _ ← punct ","
  other ← target
  _ ← punct "["
  cs ← cases s
  _ ← punct "]"
  _ ← endings
  Done (op.Switch s v other cs)

-- unreachable
unfoldable pub unreachable_row : Grammar an_op
unreachable_row = do
  _ ← endings
  Done op.Unreachable

-- THE INSTRUCTION

-- the words that begin an instruction with a result
abbrev pub result_words : List (List ℕ × Head)
result_words =
    (codes "icmp", head.Icmp) ∷ (codes "select", head.Select) ∷ (codes "alloca", head.Alloca) ∷
    (codes "load", head.Load) ∷ (codes "getelementptr", head.Gep) ∷
    (codes "call", head.Call) ∷ (codes "phi", head.Phi) ∷ (codes "atomicrmw", head.Rmw) ∷
    (codes "cmpxchg", head.Cmpxchg) ∷ (codes "extractvalue", head.Extract) ∷ []

-- the words that begin an instruction without a result
abbrev pub other_words : List (List ℕ × Head)
other_words =
    (codes "store", head.Store) ∷ (codes "fence", head.Fence) ∷ (codes "ret", head.Ret) ∷ (codes "br", head.Br) ∷
    (codes "switch", head.Switch) ∷
    (codes "unreachable", head.Unreachable) ∷ []

-- what a word begins, where behind L = no instruction without a result stands
abbrev pub head_word : Bool → List ℕ → Option Head
head_word named bytes =
    if_none (option_map (λ o. head.Binary o) (lookup bin_op_words bytes))
    (if_none (option_map (λ o. head.Cast o) (lookup cast_op_words bytes))
    (if_none (lookup result_words bytes) (if named then None else lookup other_words bytes)))

-- what a token begins; before a call a run of ignored words may stand
abbrev pub head_of : Bool → TokenKind → List ℕ → Option Head
head_of named kind.Word bytes =
    if_none (head_word named bytes) (option_map (λ i. head.Ignored i) (run_item false kind.Word bytes))
head_of named other bytes = option_map (λ i. head.Ignored i) (run_item false other bytes)

-- a call behind the first item of a run of ignored words
unfoldable pub ignored_call : Bool → List Mark → RunItem → Grammar an_op
ignored_call named marks i = do
  after_word ← run_rest i
  _ ← ignored_from after_word
  _ ← word "call"
  call_row named marks

-- what begins so has a result, and is no call, whose type tells whether it has one
abbrev pub gives_result : Head → Bool
gives_result head.Store = false
gives_result head.Fence = false
gives_result head.Ret = false
gives_result head.Br = false
gives_result head.Switch = false
gives_result head.Unreachable = false
gives_result head.Call = false
gives_result (head.Ignored i) = false
gives_result other = true

-- the row that begins so, where L = stands before it or not; the type of a call takes a number, with these marks
abbrev pub begun_row : Bool → List Mark → Head → Grammar an_op
begun_row named marks (head.Binary o) = binary_row o
begun_row named marks (head.Cast o) = cast_row o
begun_row named marks head.Icmp = icmp_row
begun_row named marks head.Select = select_row
begun_row named marks head.Alloca = alloca_row
begun_row named marks head.Load = load_row
begun_row named marks head.Store = store_row
begun_row named marks head.Gep = gep_row
begun_row named marks head.Call = call_row named marks
begun_row named marks head.Phi = phi_row
begun_row named marks head.Rmw = rmw_row
begun_row named marks head.Cmpxchg = cmpxchg_row
begun_row named marks head.Extract = extract_row
begun_row named marks head.Fence = fence_row
begun_row named marks head.Ret = ret_row
begun_row named marks head.Br = br_row
begun_row named marks head.Switch = switch_row
begun_row named marks head.Unreachable = unreachable_row
begun_row named marks (head.Ignored i) = ignored_call named marks i

-- the same, where a result that is not named takes a number with these marks
abbrev pub row_of : Bool → List Mark → Head → Grammar an_op
row_of named marks h = marked_by (if gives_result h then marks else []) (begun_row named marks h)

-- an instruction: L = where it has a result that is named, and a row; outside a function no number is taken
unfoldable pub instruction : Grammar an_instr
instruction = do
  r ← result_name
  h ← One {a = a_head} (λ t. head_of (is_some r) t.kind t.bytes)
  o ← row_of (is_some r) [] h
  Done (record { result = r; op = o })
