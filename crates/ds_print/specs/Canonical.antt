-- The canonical text of a module: struct types, then globals, then functions, one token behind the other.
use Rattle.std.specs.Prelude.{ℕ, List, [], ◌∷◌, ◌++◌, flat_map, map, Option, Some, None, codes}
use Rattle.ds_lex.specs.Written.{Piece, written}
use Rattle.ds_ast.specs.declared.name.Name.{Name}
use Rattle.ds_ast.specs.declared.ty.Scalar.{Scalar}
use Rattle.ds_ast.specs.declared.ty.Scalar.TheVariants.{I1, Ptr}
use Rattle.ds_ast.specs.declared.ty.Ty.{Ty, Void, One, Struct, Array', more_of-Ty, end_of-Ty}
use Rattle.ds_ast.specs.declared.value.Value.{Value}
use Rattle.ds_ast.specs.declared.operand.Operand.{Operand}
use Rattle.ds_ast.specs.declared.operand.Arm.{Arm}
use Rattle.ds_ast.specs.declared.words.BinOp.{BinOp}
use Rattle.ds_ast.specs.declared.words.BinOp.TheVariants.{Add, Sub, Mul, And, Or, Xor, Shl, Lshr, Ashr, Udiv, Sdiv}
use Rattle.ds_ast.specs.declared.words.BinOp.TheVariants.{Urem, Srem}
use Rattle.ds_ast.specs.declared.words.CastOp.{CastOp}
use Rattle.ds_ast.specs.declared.words.CastOp.TheVariants.{Zext, Sext, Trunc, PtrToInt, IntToPtr}
use Rattle.ds_ast.specs.declared.words.Cond.{Cond}
use Rattle.ds_ast.specs.declared.words.Cond.TheVariants.{Eq, Ne, Ugt, Uge, Ult, Ule, Sgt, Sge, Slt, Sle}
use Rattle.ds_ast.specs.declared.words.RmwOp.{RmwOp}
use Rattle.ds_ast.specs.declared.words.RmwOp.TheVariants as rmw
use Rattle.ds_ast.specs.declared.instr.Op.{Op}
use Rattle.ds_ast.specs.declared.instr.Op.TheVariants.{Bin, Icmp, Select, Cast, Alloca, Load, Store, Gep, Call, Phi}
use Rattle.ds_ast.specs.declared.instr.Op.TheVariants.{Rmw, Cmpxchg, Extract, Fence, Ret, Br, CondBr, Switch}
use Rattle.ds_ast.specs.declared.instr.Op.TheVariants.{Unreachable}
use Rattle.ds_ast.specs.declared.instr.Instr.{Instr}
use Rattle.ds_ast.specs.declared.init.Init.{Init, Zero, Word, Array', Fields', Row_of-Init, end_of-Init, more_of-Init}
use Rattle.ds_ast.specs.declared.module.Module.{Module}
use Rattle.ds_ast.specs.declared.module.StructDef.{StructDef}
use Rattle.ds_ast.specs.declared.module.GlobalDef.{GlobalDef}
use Rattle.ds_ast.specs.declared.module.Function.{Function}
use Rattle.ds_ast.specs.declared.module.Param.{Param}
use Rattle.ds_ast.specs.declared.module.Block.{Block}
use Rattle.ds_ast.specs.Bounds.{element_type, field_types}
use Rattle.ds_print.specs.Names.{space, line_end, indent, spelled, word, punct, local, global, label, number, integer}
use Rattle.ds_print.specs.Names.{scalar, value}

-- LISTS

-- each behind a comma and a space
abbrev pub more_listed : List (List Piece) → List Piece
more_listed items = flat_map (λ item. punct "," ∷ space ∷ item) items

-- with a comma and a space between them
abbrev pub listed : List (List Piece) → List Piece
listed [] = []
listed (item ∷ items) = item ++ more_listed items

-- the same behind a space, or nothing
abbrev pub listed_behind_space : List (List Piece) → List Piece
listed_behind_space [] = []
listed_behind_space (item ∷ items) = space ∷ item ++ more_listed items

-- TYPES

-- void, the word of a register's type, [N x T], or the name of a struct
abbrev pub type_pieces : Ty → List Piece
type_pieces Void = word "void" ∷ []
type_pieces (One s) = scalar s ∷ []
type_pieces (Array' n _ (more_of-Ty of end_of-Ty)) =
    punct "[" ∷ number n ∷ space ∷ word "x" ∷ space ∷ type_pieces of ++ punct "]" ∷ []
type_pieces (Struct name) = local name ∷ []

-- L = type { T, T }
abbrev pub struct_pieces : StructDef → List Piece
struct_pieces s =
    local s.name ∷ space ∷ punct "=" ∷ space ∷ word "type" ∷ space ∷ punct "{" ∷ listed_behind_space
    (map type_pieces s.fields)
    ++ space ∷ punct "}" ∷ line_end ∷ []

-- GLOBALS

-- the type that literals are written as: behind another type than a register's they have 64 bits
abbrev pub literal_type : Ty → Scalar
literal_type Void = Ptr
literal_type (One s) = s
literal_type (Array' count _ of) = Ptr
literal_type (Struct name) = Ptr

-- the type in front of an element, which there is wherever the initialiser fits its type
abbrev pub element_front : Option Ty → List Piece
element_front None = []
element_front (Some t) = type_pieces t ++ space ∷ []

abbrev pub or_void : Option Ty → Ty
or_void None = Void
or_void (Some t) = t

-- the types of fields, where there are some
abbrev pub or_none : Option (List Ty) → List Ty
or_none None = []
or_none (Some ts) = ts

abbrev pub first_type : List Ty → Option Ty
first_type [] = None
first_type (t ∷ ts) = Some t

abbrev pub more_types : List Ty → List Ty
more_types [] = []
more_types (t ∷ ts) = ts

module _ (structs : List StructDef) where
  abbrev mutual
    -- what a global of this type begins with: zeroinitializer, a value, [ T INIT, T INIT ], or { T INIT, T INIT }
    pub init_pieces : Ty → Init → List Piece
    init_pieces t Zero = word "zeroinitializer" ∷ []
    init_pieces t (Word v) = value (literal_type t) v ∷ []
    init_pieces t (Array' _ parts) = punct "[" ∷ elements (element_type t) parts ++ space ∷ punct "]" ∷ []
    init_pieces t (Fields' _ parts) =
        punct "{" ∷ fields (or_none (field_types structs t)) parts ++ space ∷ punct "}" ∷ []

    -- elements of one type
    pub elements : Option Ty → {m : _} → Row_of-Init m → List Piece
    elements t end_of-Init = []
    elements t (more_of-Init part parts) =
        space ∷ element_front t ++ init_pieces (or_void t) part ++ more_elements t parts

    pub more_elements : Option Ty → {m : _} → Row_of-Init m → List Piece
    more_elements t end_of-Init = []
    more_elements t (more_of-Init part parts) =
        punct "," ∷ space ∷ element_front t ++ init_pieces (or_void t) part ++ more_elements t parts

    -- fields, each of the type at its place
    pub fields : List Ty → {m : _} → Row_of-Init m → List Piece
    fields ts end_of-Init = []
    fields ts (more_of-Init part parts) = space ∷ element_front (first_type ts)
        ++ init_pieces (or_void (first_type ts)) part ++ more_fields (more_types ts) parts

    pub more_fields : List Ty → {m : _} → Row_of-Init m → List Piece
    more_fields ts end_of-Init = []
    more_fields ts (more_of-Init part parts) =
        punct "," ∷ space ∷ element_front (first_type ts) ++ init_pieces (or_void (first_type ts)) part
        ++ more_fields (more_types ts) parts

-- G = global T INIT
abbrev pub global_pieces : List StructDef → GlobalDef → List Piece
global_pieces structs g =
    global g.name ∷ space ∷ punct "=" ∷ space ∷ word "global" ∷ space ∷ type_pieces g.ty
    ++ space ∷ init_pieces structs g.ty g.init ++ line_end ∷ []

-- WORDS OF INSTRUCTIONS

abbrev pub bin_op_word : BinOp → List ℕ
bin_op_word Add = codes "add"
bin_op_word Sub = codes "sub"
bin_op_word Mul = codes "mul"
bin_op_word And = codes "and"
bin_op_word Or = codes "or"
bin_op_word Xor = codes "xor"
bin_op_word Shl = codes "shl"
bin_op_word Lshr = codes "lshr"
bin_op_word Ashr = codes "ashr"
bin_op_word Udiv = codes "udiv"
bin_op_word Sdiv = codes "sdiv"
bin_op_word Urem = codes "urem"
bin_op_word Srem = codes "srem"

abbrev pub cast_op_word : CastOp → List ℕ
cast_op_word Zext = codes "zext"
cast_op_word Sext = codes "sext"
cast_op_word Trunc = codes "trunc"
cast_op_word PtrToInt = codes "ptrtoint"
cast_op_word IntToPtr = codes "inttoptr"

abbrev pub cond_word : Cond → List ℕ
cond_word Eq = codes "eq"
cond_word Ne = codes "ne"
cond_word Ugt = codes "ugt"
cond_word Uge = codes "uge"
cond_word Ult = codes "ult"
cond_word Ule = codes "ule"
cond_word Sgt = codes "sgt"
cond_word Sge = codes "sge"
cond_word Slt = codes "slt"
cond_word Sle = codes "sle"

abbrev pub rmw_op_word : RmwOp → List ℕ
rmw_op_word rmw.Xchg = codes "xchg"
rmw_op_word rmw.Add = codes "add"
rmw_op_word rmw.Sub = codes "sub"
rmw_op_word rmw.And = codes "and"
rmw_op_word rmw.Or = codes "or"
rmw_op_word rmw.Xor = codes "xor"
rmw_op_word rmw.Umax = codes "umax"
rmw_op_word rmw.Umin = codes "umin"

-- OPERANDS

-- S V
abbrev pub typed : Scalar → Value → List Piece
typed s v = scalar s ∷ space ∷ value s v ∷ []

abbrev pub operand_pieces : Operand → List Piece
operand_pieces o = typed o.ty o.value

-- label L
abbrev pub target : Name → List Piece
target name = word "label" ∷ space ∷ local name ∷ []

-- [ V, L ]
abbrev pub arm_pieces : Scalar → Arm → List Piece
arm_pieces s a = punct "[" ∷ space ∷ value s a.value ∷ punct "," ∷ space ∷ local a.from ∷ space ∷ punct "]" ∷ []

-- S N, label L, behind a space
abbrev pub case_pieces : Scalar → ℕ × Name → List Piece
case_pieces s c = space ∷ scalar s ∷ space ∷ integer s c.0 ∷ punct "," ∷ space ∷ target c.1

-- an operand behind a comma and a space, if there is one
abbrev pub optional_operand : Option Operand → List Piece
optional_operand None = []
optional_operand (Some o) = punct "," ∷ space ∷ operand_pieces o

-- what is returned: void, or S V
abbrev pub returned : Option Operand → List Piece
returned None = word "void" ∷ []
returned (Some o) = operand_pieces o

-- INSTRUCTIONS, each without its result
abbrev pub op_pieces : Op → List Piece
op_pieces (Bin o s a b) =
    spelled (bin_op_word o) ∷ space ∷ scalar s ∷ space ∷ value s a ∷ punct "," ∷ space ∷ value s b ∷ []
op_pieces (Icmp c s a b) = word "icmp" ∷ space ∷ spelled
    (cond_word c) ∷ space ∷ scalar s ∷ space ∷ value s a ∷ punct "," ∷ space ∷ value s b ∷ []
op_pieces (Select c s a b) =
    word "select" ∷ space ∷ scalar I1 ∷ space ∷ value I1 c ∷ punct "," ∷ space ∷ scalar s ∷ space ∷ value s a ∷ punct
    "," ∷ space ∷ scalar s ∷ space ∷ value s b ∷ []
op_pieces (Cast o from a to) =
    spelled (cast_op_word o) ∷ space ∷ scalar from ∷ space ∷ value from a ∷ space ∷ word "to" ∷ space ∷ scalar to ∷ []
op_pieces (Alloca t count) = word "alloca" ∷ space ∷ type_pieces t ++ optional_operand count
op_pieces (Load s at) = word "load" ∷ space ∷ scalar s ∷ punct "," ∷ space ∷ scalar Ptr ∷ space ∷ value Ptr at ∷ []
op_pieces (Store s v at) =
    word "store" ∷ space ∷ scalar s ∷ space ∷ value s v ∷ punct "," ∷ space ∷ scalar Ptr ∷ space ∷ value Ptr at ∷ []
op_pieces (Gep t base indices) =
    word "getelementptr" ∷ space ∷ type_pieces t ++ punct "," ∷ space ∷ scalar Ptr ∷ space ∷ value Ptr base ∷
    more_listed (map operand_pieces indices)
op_pieces (Call t callee args) = word "call" ∷ space ∷ type_pieces t
    ++ space ∷ global callee ∷ punct "(" ∷ listed (map operand_pieces args) ++ punct ")" ∷ []
op_pieces (Phi s arms) = word "phi" ∷ space ∷ scalar s ∷ space ∷ listed (map (arm_pieces s) arms)
op_pieces (Rmw o at s v) =
    word "atomicrmw" ∷ space ∷ spelled (rmw_op_word o) ∷ space ∷ scalar Ptr ∷ space ∷ value Ptr at ∷ punct "," ∷ space
    ∷ scalar s ∷ space ∷ value s v
    ∷ space ∷ word "seq_cst" ∷ []
op_pieces (Cmpxchg at s expected new) =
    word "cmpxchg" ∷ space ∷ scalar Ptr ∷ space ∷ value Ptr at ∷ punct "," ∷ space ∷ scalar s ∷ space ∷ value s
    expected ∷ punct "," ∷ space ∷ scalar s ∷ space ∷ value s new
    ∷ space ∷ word "seq_cst" ∷ space ∷ word "seq_cst" ∷ []
op_pieces (Extract s of index) =
    word "extractvalue" ∷ space ∷ punct "{" ∷ space ∷ scalar s ∷ punct "," ∷ space ∷ scalar I1 ∷ space ∷ punct "}" ∷
    space ∷ local of ∷ punct "," ∷ space ∷ number index ∷ []
op_pieces Fence = word "fence" ∷ space ∷ word "seq_cst" ∷ []
op_pieces (Ret v) = word "ret" ∷ space ∷ returned v
op_pieces (Br l) = word "br" ∷ space ∷ target l
op_pieces (CondBr c yes_ no_) =
    word "br" ∷ space ∷ typed I1 c ++ punct "," ∷ space ∷ target yes_ ++ punct "," ∷ space ∷ target no_
op_pieces (Switch s v other cases) =
    word "switch" ∷ space ∷ typed s v ++ punct "," ∷ space ∷ target other
    ++ space ∷ punct "[" ∷ flat_map (case_pieces s) cases ++ space ∷ punct "]" ∷ []
op_pieces Unreachable = word "unreachable" ∷ []

-- the result's name and =, if there is one
abbrev pub result_pieces : Option Name → List Piece
result_pieces None = []
result_pieces (Some name) = local name ∷ space ∷ punct "=" ∷ space ∷ []

-- a line behind two spaces
abbrev pub instr_pieces : Instr → List Piece
instr_pieces i = indent ∷ result_pieces i.result ++ op_pieces i.op ++ line_end ∷ []

-- FUNCTIONS

-- the label on a line of its own, and the instructions
abbrev pub block_pieces : Block → List Piece
block_pieces b = label b.name ∷ line_end ∷ flat_map instr_pieces b.code

-- S L
abbrev pub param_pieces : Param → List Piece
param_pieces p = scalar p.ty ∷ space ∷ local p.name ∷ []

-- the type alone, as a declaration has it
abbrev pub param_type : Param → List Piece
param_type p = scalar p.ty ∷ []

-- T G ( .. ) behind declare or define
abbrev pub head_pieces : Function → List (List Piece) → List Piece
head_pieces f params =
    space ∷ type_pieces f.result ++ space ∷ global f.name ∷ punct "(" ∷ listed params ++ punct ")" ∷ []

-- a declaration where there are no blocks, and else a definition
abbrev pub function_by : Function → List Block → List Piece
function_by f [] = word "declare" ∷ head_pieces f (map param_type f.params) ++ line_end ∷ []
function_by f (b ∷ bs) =
    word "define" ∷ head_pieces f (map param_pieces f.params)
    ++ space ∷ punct "{" ∷ line_end ∷ flat_map block_pieces (b ∷ bs) ++ punct "}" ∷ line_end ∷ []

abbrev pub function_pieces : Function → List Piece
function_pieces f = function_by f f.blocks

-- THE MODULE

-- struct types, globals and functions, each in the order of the module
unfoldable pub module_pieces : Module → List Piece
module_pieces m = flat_map struct_pieces m.structs ++ flat_map (global_pieces m.structs) m.globals
    ++ flat_map function_pieces m.functions

-- the canonical text
unfoldable pub canon : Module → List ℕ
canon m = written (module_pieces m)
