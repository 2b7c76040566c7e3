-- A small module and a frame of it, on which instructions are tried.
use Rattle.std.specs.Prelude.{ℕ, Bool, false, List, [], ◌∷◌, Some, None, codes}
use Rattle.ds_ast.specs.declared.name.Name.TheVariants.{Number, Text}
use Rattle.ds_ast.specs.declared.ty.Scalar.{Scalar}
use Rattle.ds_ast.specs.declared.ty.Scalar.TheVariants.{I8, I32, I64, Ptr}
use Rattle.ds_ast.specs.declared.ty.Ty.{Ty}
use Rattle.ds_ast.specs.declared.ty.Ty as ty
use Rattle.ds_ast.specs.declared.value.Value.{Value}
use Rattle.ds_ast.specs.declared.value.Value.TheVariants.{Int, Null, Local, Global}
use Rattle.ds_ast.specs.declared.operand.Operand.{Operand}
use Rattle.ds_ast.specs.declared.instr.Op.{Op}
use Rattle.ds_ast.specs.declared.instr.Instr.{Instr}
use Rattle.ds_ast.specs.declared.init.Init as init
use Rattle.ds_ast.specs.declared.module.Module.{Module}
use Rattle.ds_ast.specs.declared.module.StructDef.{StructDef}
use Rattle.ds_ast.specs.declared.module.GlobalDef.{GlobalDef}
use Rattle.ds_ast.specs.declared.module.Function.{Function}
use Rattle.ds_ast.specs.declared.module.Param.{Param}
use Rattle.ds_ast.specs.declared.module.Block.{Block}
use Rattle.ds_map.specs.Bounds.{Bounds, bounds}
use Rattle.ds_plain.specs.declared.Place.{Place}
use Rattle.ds_plain.specs.declared.TrapKind.{TrapKind}
use Rattle.ds_plain.specs.declared.Stop.TheVariants.{Trap}
use Rattle.ds_plain.specs.Behaviour.{Outcome, Goes, Stops}
use Rattle.ds_meaning.specs.Values.{Environment}
use Rattle.ds_meaning.specs.Frames.{Context, Frame, State, Runs}
use Rattle.ds_meaning.specs.Steps.{Current}
use Rattle.ds_meaning.specs.Meaning.{act}

-- PARTS OF MODULES

abbrev pub named : ℕ → Op → Instr
named n op = record { result = Some (Number n); op = op }

abbrev pub unnamed : Op → Instr
unnamed op = record { result = None; op = op }

abbrev pub block : ℕ → List Instr → Block
block n code = record { name = Number n; code = code }

abbrev pub operand : Scalar → Value → Operand
operand s v = record { ty = s; value = v }

abbrev pub local : ℕ → Value
local n = Local (Number n)

abbrev pub global : List ℕ → Value
global name = Global (Text name)

abbrev pub parameter : ℕ → Scalar → Param
parameter n s = record { name = Number n; ty = s }

-- a function that is defined, and one that is declared
abbrev pub defined : ℕ → Ty → List Param → List Block → Function
defined n result params blocks = record { name = Number n; result = result; params = params; blocks = blocks }

abbrev pub declared : List ℕ → Ty → List Param → Function
declared name result params = record { name = Text name; result = result; params = params; blocks = [] }

-- %pair = type { i8, i32, ptr }: its fields stand at 0, 4 and 8, and its size is 16
abbrev pub pair : StructDef
pair = record { name = Text (codes "pair"); fields = ty.One I8 ∷ ty.One I32 ∷ ty.One Ptr ∷ [] }

-- @g = global ptr null, @h = global i64 7: at 0x1000 and 0x1008
abbrev pub g : GlobalDef
g = record { name = Text (codes "g"); ty = ty.One Ptr; init = init.Word Null }

abbrev pub h : GlobalDef
h = record { name = Text (codes "h"); ty = ty.One I64; init = init.Word (Int 7) }

-- the module of these functions
abbrev pub module_of : List Function → Module
module_of functions = record { structs = pair ∷ []; globals = g ∷ h ∷ []; functions = functions }

-- 256 pages, and fuel for 100 units
abbrev pub lim : Bounds
lim = bounds 256 100 16 16

-- AN INSTRUCTION AT HAND

-- the fourth instruction of the first function's block 7, by thread 1, where names stand for this and 10 words of the
-- stack are taken
abbrev pub frame_in : Environment → Frame
frame_in env = record { function = 0; block = Number 7; index = 3; env = env; taken = 10 }

-- the frame behind the instruction
abbrev pub frame_behind : Environment → Frame
frame_behind env = record { function = 0; block = Number 7; index = 4; env = env; taken = 10 }

-- %1 is 0x1000010, %2 is that with bit 63 set, %3 was 4 and is 250 now, and the parts of %4 are 77 and 1
abbrev pub names : Environment
names =
    (Number 3, 0, 250)
    ∷ (Number 1, 0, 0x1000010)
    ∷ (Number 2, 0, 0x8000000001000010)
    ∷ (Number 3, 0, 4)
    ∷ (Number 4, 1, 1)
    ∷ (Number 4, 0, 77)
    ∷ []

-- where it stands, by what was said
abbrev pub place : Place
place = record { function = 0; instruction = 5 }

-- its result has the name %9
abbrev pub here : Current
here = record { frame = frame_in names; below = []; gives = Some (Number 9); place = place }

abbrev pub context_of : Bool → List Function → Context
context_of noting functions = record { code = module_of functions; noting = noting; lim = lim; thread = 1 }

-- what comes of the instruction, in a module of no functions
abbrev pub tried : Op → Outcome State
tried op = act (context_of false []) here op

-- it is done, and the result is this
abbrev pub behind_with : ℕ → State
behind_with n = Runs (frame_behind ((Number 9, 0, n) ∷ names)) []

abbrev pub gives : ℕ → Outcome State
gives n = Goes (behind_with n)

-- it is done, and has no result
abbrev pub next : State
next = Runs (frame_behind names) []

-- it can't be carried out
abbrev pub trapped : TrapKind → Outcome State
trapped kind = Stops place (Trap (record { place = place; kind = kind }))
