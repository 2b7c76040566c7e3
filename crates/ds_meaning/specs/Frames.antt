-- Frames of calls, and where a thread stands.
use Rattle.std.specs.Prelude.{ℕ, ◌+◌, Bool, ◌&&◌, if◌then◌else◌, nat_lt, nat_le, List, [], ◌∷◌, ◌++◌, length}
use Rattle.std.specs.Prelude.{map, flat_map, slice_get}
use Rattle.std.specs.Prelude.{Option, Some, None}
use Rattle.ds_ast.specs.declared.name.Name.{Name}
use Rattle.ds_ast.specs.declared.name.Name.TheVariants.{Number}
use Rattle.ds_ast.specs.declared.value.Value.{Value}
use Rattle.ds_ast.specs.declared.instr.Op.{Op}
use Rattle.ds_ast.specs.declared.instr.Op.TheVariants.{Bin, Icmp, Select, Cast, Alloca, Load, Store, Gep, Call, Phi}
use Rattle.ds_ast.specs.declared.instr.Op.TheVariants.{Rmw, Cmpxchg, Extract, Fence, Ret, Br, CondBr, Switch}
use Rattle.ds_ast.specs.declared.instr.Op.TheVariants.{Unreachable}
use Rattle.ds_ast.specs.declared.instr.Instr.{Instr}
use Rattle.ds_ast.specs.declared.module.Module.{Module}
use Rattle.ds_ast.specs.declared.module.Function.{Function}
use Rattle.ds_ast.specs.declared.module.Param.{Param}
use Rattle.ds_ast.specs.declared.module.Block.{Block}
use Rattle.ds_ast.specs.Bounds.{is_name}
use Rattle.ds_map.specs.Bounds.{Bounds}
use Rattle.ds_shape.specs.Sizes.{◌>>=◌}
use Rattle.ds_shape.specs.Types.{instructions_of}
use Rattle.ds_meaning.specs.Values.{Environment, Values, all_bound}

-- what is run, and by which thread
pub record Context : Type 0 where
  -- the module
  pub code : Module
  -- whether each store of a pointer is followed by its note, with no call that says so
  pub noting : Bool
  -- the limits of the run
  pub lim : Bounds
  -- the number of the thread
  pub thread : ℕ

-- a call that has begun
pub record Frame : Type 0 where
  -- the number of its function among all
  pub function : ℕ
  -- the label of the block
  pub block : Name
  -- how many instructions of the block stand before the one at hand
  pub index : ℕ
  -- what names stand for
  pub env : Environment
  -- how many words of the thread's stack are taken, by this frame and those below
  pub taken : ℕ

-- a frame that waits at the instruction behind a call, and the name that takes what the call gives
pub record Caller : Type 0 where
  pub frame : Frame
  pub gives : Option Name

-- where a thread stands: a frame on top, and those that wait, the latest first
pub data State : Type 0 where
  -- the instruction at hand begins
  Runs : Frame → List Caller → State
  -- the instruction at hand stored a pointer at an address, or may have, and its note begins
  Notes : (at value : Value) → Frame → List Caller → State
  -- the function of this number is to begin, and its first frame has too many cells
  TooLarge : (function : ℕ) → State

-- BLOCKS AND INSTRUCTIONS

-- the blocks of the function, where there is one
abbrev pub blocks_in : Option Function → List Block
blocks_in None = []
blocks_in (Some f) = f.blocks

-- the first block of the label
abbrev pub block_among : List Block → Name → Option Block
block_among [] label = None
block_among (b ∷ bs) label = if is_name b.name label then Some b else block_among bs label

-- the block of the label in the function of the number
abbrev pub block_labelled : Module → ℕ → Name → Option Block
block_labelled m number label = block_among (blocks_in (slice_get m.functions number)) label

-- the instruction at hand
abbrev pub instruction_of : Module → Frame → Option Instr
instruction_of m fr = block_labelled m fr.function fr.block >>= (λ (b : Block). slice_get b.code fr.index)

-- the label of the first block
abbrev pub entry_of : List Block → Name
entry_of [] = Number 0
entry_of (b ∷ bs) = b.name

-- a frame at the first instruction of the function, where its parameters have these values
abbrev pub first_frame : ℕ → Function → Values → ℕ → Frame
first_frame number f values taken = record {
  function = number;
  block = entry_of f.blocks;
  index = 0;
  env = all_bound values [];
  taken = taken;
}

-- ROOM: at most 1,024 frames, and 65,536 cells in all of them

-- the parts of an instruction's result
abbrev pub parts_of : Op → List ℕ
parts_of (Bin op ty a b) = 0 ∷ []
parts_of (Icmp cond ty a b) = 0 ∷ []
parts_of (Select c ty a b) = 0 ∷ []
parts_of (Cast op from a to) = 0 ∷ []
parts_of (Alloca ty count) = 0 ∷ []
parts_of (Load ty at) = 0 ∷ []
parts_of (Store ty value at) = []
parts_of (Gep ty base indices) = 0 ∷ []
parts_of (Call result callee args) = 0 ∷ []
parts_of (Phi ty arms) = 0 ∷ []
parts_of (Rmw op at ty value) = 0 ∷ []
parts_of (Cmpxchg at ty expected new) = 0 ∷ 1 ∷ []
parts_of (Extract ty of index) = 0 ∷ []
parts_of Fence = []
parts_of (Ret value) = []
parts_of (Br label) = []
parts_of (CondBr c first second) = []
parts_of (Switch ty value other cases) = []
parts_of Unreachable = []

-- the cells of these parts, where there is a name
abbrev pub cells_named : Option Name → List ℕ → List (Name × ℕ)
cells_named None parts = []
cells_named (Some name) parts = map (λ (part : ℕ). (name, part)) parts

-- the cell of a parameter
abbrev pub cell_of_parameter : Param → Name × ℕ
cell_of_parameter p = (p.name, 0)

-- the cells of an instruction's result
abbrev pub cells_of_instruction : Instr → List (Name × ℕ)
cells_of_instruction i = cells_named i.result (parts_of i.op)

-- the cells of a frame of the function: one for each parameter, two for each cmpxchg, and one for each other result
abbrev pub cells_of : Function → List (Name × ℕ)
cells_of f = map cell_of_parameter f.params ++ flat_map cells_of_instruction (instructions_of f)

-- how many cells a frame of the function has
abbrev pub cell_count : Option Function → ℕ
cell_count None = 0
cell_count (Some f) = length (cells_of f)

-- how many cells the frames that wait have
abbrev pub cells_below : Module → List Caller → ℕ
cells_below m [] = 0
cells_below m (c ∷ cs) = cells_below m cs + cell_count (slice_get m.functions c.frame.function)

-- there is room for a frame of the function above these
abbrev pub has_room : Module → List Caller → Function → Bool
has_room m below f = nat_le (cells_below m below + length (cells_of f)) 65536 && nat_lt (length below) 1024
