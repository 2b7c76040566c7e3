-- The code that a module is lowered to: for each of its instructions one.
use Rattle.std.specs.Prelude.{◌≡◌, ℕ, suc, ◌+◌, ◌-◌, not, if◌then◌else◌, List, [], ◌∷◌, ◌++◌, map, flat_map}
use Rattle.std.specs.Prelude.{Option, Some, None, slice_get}
use Rattle.std.specs.Option.{unwrap_or, option_map, is_some}
use Rattle.ds_ast.specs.declared.name.Name.{Name}
use Rattle.ds_ast.specs.declared.ty.Scalar.{Scalar}
use Rattle.ds_ast.specs.declared.ty.Scalar.TheVariants.{I64}
use Rattle.ds_ast.specs.declared.value.Value.{Value}
use Rattle.ds_ast.specs.declared.value.Value.TheVariants.{Int, Null, Undef, Local, Global}
use Rattle.ds_ast.specs.declared.operand.Operand.{Operand}
use Rattle.ds_ast.specs.declared.instr.Op.{Op}
use Rattle.ds_ast.specs.declared.instr.Op.TheVariants.{Bin, Icmp, Select, Cast, Alloca, Load, Store, Gep, Call, Phi}
use Rattle.ds_ast.specs.declared.instr.Op.TheVariants.{Rmw, Cmpxchg, Extract, Fence, Ret, Br, CondBr, Switch}
use Rattle.ds_ast.specs.declared.instr.Op.TheVariants.{Unreachable}
use Rattle.ds_ast.specs.declared.instr.Instr.{Instr}
use Rattle.ds_ast.specs.declared.module.Module.{Module}
use Rattle.ds_ast.specs.declared.module.Function.{Function}
use Rattle.ds_ast.specs.declared.module.Param.{Param}
use Rattle.ds_ast.specs.declared.module.Block.{Block}
use Rattle.ds_names.specs.Names.{place_of}
use Rattle.ds_shape.specs.Image.{address_of, image_of}
use Rattle.ds_shape.specs.Site.{function_number, instructions_before}
use Rattle.ds_shape.specs.Sizes.{layout_of}
use Rattle.ds_shape.specs.Address.{Step, address_steps}
use Rattle.ds_meaning.specs.Values.{global_address}
use Rattle.ds_meaning.specs.Callees.{callee_of}
use Rattle.ds_meaning.specs.Control.{Choice, choice_of, arm_for}
use Rattle.ds_meaning.specs.Places.{is_note_call, counted}
use Rattle.ds_meaning.specs.Program.{main_number, is_thread_function}
use Rattle.ds_code.specs.declared.sources.Source.{Source}
use Rattle.ds_code.specs.declared.sources.Source.TheVariants.{Cell, Constant}
use Rattle.ds_code.specs.declared.sources.Input.{Input}
use Rattle.ds_code.specs.declared.sources.Copying.{Copying}
use Rattle.ds_code.specs.declared.ops.Edge.{Edge}
use Rattle.ds_code.specs.declared.ops.Case.{Case}
use Rattle.ds_code.specs.declared.ops.Stride.{Stride}
use Rattle.ds_code.specs.declared.ops.ValueOp.TheVariants as values
use Rattle.ds_code.specs.declared.ops.MemoryOp.TheVariants as memory
use Rattle.ds_code.specs.declared.ops.ExternalOp.TheVariants as externals
use Rattle.ds_code.specs.declared.ops.BranchOp.TheVariants as branches
use Rattle.ds_code.specs.declared.ops.CodeOp.{CodeOp}
use Rattle.ds_code.specs.declared.ops.CodeOp.TheVariants as code
use Rattle.ds_code.specs.declared.ops.CodeInstr.{CodeInstr}
use Rattle.ds_code.specs.declared.functions.CodeFunction.{CodeFunction}
use Rattle.ds_code.specs.declared.functions.CodeParts.{CodeParts}
use Rattle.ds_code.specs.declared.callees.Known.{Known}
use Rattle.ds_code.specs.declared.callees.Known.TheVariants as known
use Rattle.ds_code.specs.declared.callees.Called.{Called}
use Rattle.ds_code.specs.declared.callees.Called.TheVariants as called
use Rattle.ds_code.specs.Callees.{called_as}
use Rattle.ds_code.specs.Cells.{Cells, cells_for, cell_total, cell_of, result_cell}

-- VALUES

-- where the code takes a value from: a global's address and null are numbers, undef and the name of a function are 0
abbrev pub source_of : Module → Cells → Value → Source
source_of m c (Int n) = Constant n
source_of m c Null = Constant 0
source_of m c Undef = Constant 0
source_of m c (Local name) = Cell (cell_of c name 0)
source_of m c (Global name) = Constant (address_of global_address m name)

abbrev pub input_of : Module → Cells → Scalar → Value → Input
input_of m c ty v = record { ty = ty; from = source_of m c v }

abbrev pub operand_of : Module → Cells → Operand → Input
operand_of m c o = input_of m c o.ty o.value

-- EDGES

-- the phis at the front of these instructions: none, where the first is no phi
abbrev pub front_by : Instr → Option Choice → List Instr → List Instr
front_by i None rest = []
front_by i (Some choice) rest = i ∷ rest

abbrev pub front : List Instr → List Instr
front [] = []
front (i ∷ is) = front_by i (choice_of i.op) (front is)

-- the cell takes the value of an arm, where there is one
abbrev pub arm_copied : Module → Cells → Name → Scalar → Option Value → List Copying
arm_copied m c name ty None = []
arm_copied m c name ty (Some v) = record { to = cell_of c name 0; value = input_of m c ty v } ∷ []

-- the cell of a phi's name takes its value, where control comes from a block
abbrev pub phi_copied : Module → Cells → (from : Name) → Option Name → Option Choice → List Copying
phi_copied m c from None choice = []
phi_copied m c from (Some name) None = []
phi_copied m c from (Some name) (Some choice) = arm_copied m c name choice.ty (arm_for from choice.arms)

abbrev pub copied_at : Module → Cells → (from : Name) → Instr → List Copying
copied_at m c from i = phi_copied m c from i.result (choice_of i.op)

-- the cells of all phis at the front do
abbrev pub phis_copied : Module → Cells → (from : Name) → List Instr → List Copying
phis_copied m c from is = flat_map (copied_at m c from) (front is)

abbrev pub copies_into : Module → Cells → (from : Name) → Option Block → List Copying
copies_into m c from None = []
copies_into m c from (Some b) = phis_copied m c from b.code

-- the number of the first block of a label
abbrev pub block_number : Function → Name → Option ℕ
block_number f label = place_of (map (λ (b : Block). b.name) f.blocks) label

-- the way from a block to that of this number
abbrev pub edge_by : Module → Function → (from : Name) → Option ℕ → Edge
edge_by m f from None = record { target = 0; copies = [] }
edge_by m f from (Some n) = record {
  target = instructions_before f n;
  copies = copies_into m (cells_for f) from (slice_get f.blocks n);
}

-- the way from a block to that of a label
abbrev pub edge_of : Module → Function → (from label : Name) → Edge
edge_of m f from label = edge_by m f from (block_number f label)

-- these labels, each once, behind those that stand there already
abbrev pub each_once : List Name → List Name → List Name
each_once kept [] = kept
each_once kept (label ∷ labels) =
    each_once (if is_some (place_of kept label) then kept else kept ++ label ∷ []) labels

-- the labels to which a switch goes, each once
abbrev pub switch_labels : Name → List (ℕ × Name) → List Name
switch_labels other cases = each_once [] (other ∷ map (λ (x : ℕ × Name). x.1) cases)

-- the place of a label among these
abbrev pub edge_number : List Name → Name → ℕ
edge_number labels label = unwrap_or (place_of labels label) 0

abbrev pub case_of : List Name → ℕ × Name → Case
case_of labels x = record { number = x.0; edge = edge_number labels x.1 }

abbrev pub switch_of : Module → Function → (from : Name) → Scalar → Value → Name → List (ℕ × Name) → CodeOp
switch_of m f from ty v other cases = code.Branch (branches.Switch ty (source_of m (cells_for f) v)
    (map (edge_of m f from) (switch_labels other cases))
    (edge_number (switch_labels other cases) other)
    (map (case_of (switch_labels other cases)) cases))

-- ADDRESSES

-- the strides of steps, with their indices
abbrev pub strides_of : Module → Cells → List Step → List Operand → List Stride
strides_of m c [] indices = []
strides_of m c (s ∷ ss) [] = []
strides_of m c (s ∷ ss) (o ∷ os) =
    record { fixed = s.fixed; scale = s.scale; index = operand_of m c o } ∷ strides_of m c ss os

-- an address by the steps of its indices; where these lead nowhere, it has no meaning
abbrev pub gep_of : Module → Cells → Value → List Operand → Option (List Step) → CodeOp
gep_of m c base indices None = code.Unknown
gep_of m c base indices (Some steps) =
    code.Compute (values.Gep (source_of m c base) (strides_of m c steps indices))

-- CALLS

-- the parameters behind so many take arguments, each in its cell
abbrev pub arguments_of : Module → Cells → ℕ → List Operand → List Copying
arguments_of m c n [] = []
arguments_of m c n (o ∷ os) = record { to = n; value = operand_of m c o } ∷ arguments_of m c (suc n) os

-- a call with one argument; with none or more it has no meaning
abbrev pub with_one : List Operand → (Operand → CodeOp) → CodeOp
with_one [] go = code.Unknown
with_one (o ∷ []) go = go o
with_one (o ∷ p ∷ rest) go = code.Unknown

-- with two
abbrev pub with_two : List Operand → (Operand → Operand → CodeOp) → CodeOp
with_two [] go = code.Unknown
with_two (o ∷ rest) go = with_one rest (go o)

-- with four
abbrev pub with_four : List Operand → (Operand → Operand → Operand → Operand → CodeOp) → CodeOp
with_four [] go = code.Unknown
with_four (o ∷ []) go = code.Unknown
with_four (o ∷ p ∷ rest) go = with_two rest (go o p)

-- the number of the function that a value names
abbrev pub function_named : Module → Value → Option ℕ
function_named m (Int n) = None
function_named m Null = None
function_named m Undef = None
function_named m (Local name) = None
function_named m (Global name) = function_number m name

-- the start of a thread on the function of a number
abbrev pub spawn_of : Module → Cells → (at argument : Operand) → Option ℕ → CodeOp
spawn_of m c at argument None = code.Unknown
spawn_of m c at argument (Some n) =
    code.External (externals.Spawn (operand_of m c at) n (operand_of m c argument))

-- a call of an external
abbrev pub external_of : Module → Cells → List Operand → Known → CodeOp
external_of m c args known.Malloc = with_one args (λ n. code.External (externals.Malloc (operand_of m c n)))
external_of m c args known.Free = with_one args (λ p. code.External (externals.Free (operand_of m c p)))
external_of m c args known.Print = with_one args (λ v. code.External (externals.Print (operand_of m c v)))
external_of m c args known.Create = with_four args (λ at attributes function argument.
    spawn_of m c at argument (function_named m function.value))
external_of m c args known.Join = with_two args (λ thread value. code.External (externals.Join (operand_of m c thread)))
external_of m c args known.Note = with_two args (λ at v.
    code.External (externals.Note (source_of m c at.value) (source_of m c v.value)))

-- a call of what its name calls
abbrev pub call_of : Module → Cells → List Operand → Called → CodeOp
call_of m c args (called.Defined number) = code.Call number (arguments_of m c 0 args)
call_of m c args (called.Declared external) = external_of m c args external
call_of m c args called.Unknown = code.Unknown

-- INSTRUCTIONS

-- how many elements: one where no number is written
abbrev pub count_of : Module → Cells → Option Operand → Input
count_of m c None = record { ty = I64; from = Constant 1 }
count_of m c (Some o) = operand_of m c o

-- what the instruction becomes that stands in the block of a label and whose result has this name
abbrev pub lowered_op : Module → Function → (from : Name) → Option Name → Op → CodeOp
lowered_op m f from name (Bin op ty a b) =
    code.Compute (values.Bin op ty (source_of m (cells_for f) a) (source_of m (cells_for f) b))
lowered_op m f from name (Icmp cond ty a b) =
    code.Compute (values.Icmp cond ty (source_of m (cells_for f) a) (source_of m (cells_for f) b))
lowered_op m f from name (Select c ty a b) = code.Compute (values.Select (source_of m (cells_for f) c) ty
    (source_of m (cells_for f) a) (source_of m (cells_for f) b))
lowered_op m f from name (Cast op ty a to) = code.Compute (values.Cast op ty (source_of m (cells_for f) a) to)
lowered_op m f from name (Alloca ty count) =
    code.Alloca (layout_of m.structs ty).size (count_of m (cells_for f) count)
lowered_op m f from name (Load ty at) = code.Memory (memory.Load ty (source_of m (cells_for f) at))
lowered_op m f from name (Store ty v at) =
    code.Memory (memory.Store ty (source_of m (cells_for f) v) (source_of m (cells_for f) at))
lowered_op m f from name (Gep ty base indices) =
    gep_of m (cells_for f) base indices (address_steps m.structs ty indices)
lowered_op m f from name (Call result callee args) = call_of m (cells_for f) args (called_as (callee_of m callee))
lowered_op m f from name (Phi ty arms) = code.Skip
lowered_op m f from name (Rmw op at ty v) =
    code.Memory (memory.Rmw op (source_of m (cells_for f) at) ty (source_of m (cells_for f) v))
lowered_op m f from name (Cmpxchg at ty expected written) = code.Memory (memory.Cmpxchg (source_of m (cells_for f) at)
    ty
    (source_of m (cells_for f) expected) (source_of m (cells_for f) written) (result_cell (cells_for f) name 1))
lowered_op m f from name (Extract ty of index) = code.Compute (values.Extract (cell_of (cells_for f) of index))
lowered_op m f from name Fence = code.Skip
lowered_op m f from name (Ret v) = code.Ret (option_map (operand_of m (cells_for f)) v)
lowered_op m f from name (Br label) = code.Branch (branches.Jump (edge_of m f from label))
lowered_op m f from name (CondBr c first second) = code.Branch
    (branches.Either (source_of m (cells_for f) c) (edge_of m f from first) (edge_of m f from second))
lowered_op m f from name (Switch ty v other cases) = switch_of m f from ty v other cases
lowered_op m f from name Unreachable = code.Unreachable

-- how many instructions are no notes, with this one
abbrev pub seen_with : Module → Instr → ℕ → ℕ
seen_with m i seen = if not (is_note_call m i.op) then suc seen else seen

abbrev pub lowered_instr : Module → Function → (from : Name) → (number : ℕ) → Instr → CodeInstr
lowered_instr m f from number i = record {
  origin = number;
  to = result_cell (cells_for f) i.result 0;
  op = lowered_op m f from i.result i.op;
}

-- the code of instructions of a block, behind so many of the function that are no notes
abbrev pub lowered_code : Module → Function → (from : Name) → (seen : ℕ) → List Instr → List CodeInstr
lowered_code m f from seen [] = []
lowered_code m f from seen (i ∷ is) =
    lowered_instr m f from (seen_with m i seen - 1) i ∷ lowered_code m f from (seen_with m i seen) is

abbrev pub lowered_blocks : Module → Function → (seen : ℕ) → List Block → List CodeInstr
lowered_blocks m f seen [] = []
lowered_blocks m f seen (b ∷ bs) =
    lowered_code m f b.name seen b.code ++ lowered_blocks m f (seen + counted m b.code) bs

-- the type of the first parameter
abbrev pub first_type : List Param → Option Scalar
first_type [] = None
first_type (p ∷ ps) = Some p.ty

abbrev pub lowered_function : Module → Function → CodeFunction
lowered_function m f = record {
  cells = cell_total (cells_for f);
  first = first_type f.params;
  may_start = is_thread_function (Some f);
  code = lowered_blocks m f 0 f.blocks;
}

-- THE MODULE

-- code is what the module is lowered to
pub record IsLowered (m : Module) (code : CodeParts) : Type 0 where
  pub main : code.main ≡ main_number m
  pub image : code.image ≡ image_of global_address m
  pub names : code.names ≡ map (λ (f : Function). f.name) m.functions
  pub functions : code.functions ≡ map (lowered_function m) m.functions
