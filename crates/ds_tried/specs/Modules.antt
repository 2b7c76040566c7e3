-- Small modules, written by hand, and what a run of one is.
use Rattle.std.specs.Prelude.{◌≡◌, ℕ, true, false, List, [], ◌∷◌, ◌++◌, map, replicate, Some, None, codes}
use Rattle.std.specs.List.{range_with_len}
use Rattle.ds_ast.specs.declared.name.Name.TheVariants.{Number, Text}
use Rattle.ds_ast.specs.declared.ty.Scalar.{Scalar}
use Rattle.ds_ast.specs.declared.ty.Scalar.TheVariants.{I32, I64, Ptr}
use Rattle.ds_ast.specs.declared.ty.Ty.{Ty}
use Rattle.ds_ast.specs.declared.ty.Ty as ty
use Rattle.ds_ast.specs.declared.value.Value.{Value}
use Rattle.ds_ast.specs.declared.value.Value.TheVariants.{Int, Null, Local, Global}
use Rattle.ds_ast.specs.declared.operand.Operand.{Operand}
use Rattle.ds_ast.specs.declared.instr.Op.{Op}
use Rattle.ds_ast.specs.declared.instr.Op.TheVariants.{Call, Ret}
use Rattle.ds_ast.specs.declared.instr.Instr.{Instr}
use Rattle.ds_ast.specs.declared.init.Init as init
use Rattle.ds_ast.specs.declared.module.Module.{Module}
use Rattle.ds_ast.specs.declared.module.GlobalDef.{GlobalDef}
use Rattle.ds_ast.specs.declared.module.Function.{Function}
use Rattle.ds_ast.specs.declared.module.Param.{Param}
use Rattle.ds_ast.specs.declared.module.Block.{Block}
use Rattle.ds_map.specs.Bounds.{Bounds}
use Rattle.ds_plain.specs.declared.Stop.{Stop}
use Rattle.ds_plain.specs.declared.Stop.TheVariants.{Idle}
use Rattle.ds_plain.specs.State.{State, Setting, first_state, stop_of_phase}
use Rattle.ds_plain.specs.Plain.{IsPlainRun, state_after}
use Rattle.ds_plain.specs.Explained.{setting_of}
use Rattle.ds_meaning.specs.Program.{program_of}
use Rattle.ds_tried.specs.Programs.{Events}
use Rattle.ds_tried.specs.Totals.{Totals, totals_of}

-- INSTRUCTIONS

-- %NAME = ..
abbrev pub into : List ℕ → Op → Instr
into name op = record { result = Some (Text name); op = op }

-- an instruction with no result
abbrev pub does : Op → Instr
does op = record { result = None; op = op }

-- %NAME
abbrev pub local : List ℕ → Value
local name = Local (Text name)

-- @g and @h
abbrev pub at_g : Value
at_g = Global (Text (codes "g"))

abbrev pub at_h : Value
at_h = Global (Text (codes "h"))

abbrev pub operand : Scalar → Value → Operand
operand scalar value = record { ty = scalar; value = value }

-- call ptr @malloc(i64 N)
abbrev pub malloc : (bytes : ℕ) → Op
malloc bytes = Call (ty.One Ptr) (Text (codes "malloc")) (operand I64 (Int bytes) ∷ [])

-- call void @free(ptr V)
abbrev pub free : Value → Op
free value = Call ty.Void (Text (codes "free")) (operand Ptr value ∷ [])

-- call void @print_i64(i64 V)
abbrev pub print : Value → Op
print value = Call ty.Void (Text (codes "print_i64")) (operand I64 value ∷ [])

-- call i32 @pthread_create(ptr V, ptr null, ptr @w, ptr ARGUMENT)
abbrev pub create : Value → (argument : Value) → Op
create value argument =
    Call (ty.One I32) (Text (codes "pthread_create"))
    (operand Ptr value ∷ operand Ptr Null ∷ operand Ptr (Global (Text (codes "w"))) ∷ operand Ptr argument ∷ [])

-- call i32 @pthread_join(i64 V, ptr null)
abbrev pub join : Value → Op
join value = Call (ty.One I32) (Text (codes "pthread_join")) (operand I64 value ∷ operand Ptr Null ∷ [])

-- ret i32 0
abbrev pub return : Instr
return = does (Ret (Some (operand I32 (Int 0))))

-- MODULES

-- NAME: ..
abbrev pub block : List ℕ → List Instr → Block
block name code = record { name = Text name; code = code }

-- define i32 @main() { .. }
abbrev pub main : List Block → Function
main blocks = record { name = Text (codes "main"); result = ty.One I32; params = []; blocks = blocks }

-- define ptr @w(ptr %x) { .. ret ptr null }
abbrev pub worker : List Instr → Function
worker code =
    record {
      name = Text (codes "w");
      result = ty.One Ptr;
      params = (record { name = Text (codes "x"); ty = Ptr }) ∷ [];
      blocks = block (codes "entry") (code ++ does (Ret (Some (operand Ptr Null))) ∷ []) ∷ [];
    }

abbrev pub parameter : (number : ℕ) → Scalar → Param
parameter number scalar = record { name = Number number; ty = scalar }

abbrev pub declared : List ℕ → Ty → List Param → Function
declared name result params = record { name = Text name; result = result; params = params; blocks = [] }

-- the functions that a module may declare
abbrev pub externals : List Function
externals =
    declared (codes "malloc") (ty.One Ptr) (parameter 0 I64 ∷ [])
    ∷ declared (codes "free") ty.Void (parameter 0 Ptr ∷ [])
    ∷ declared (codes "print_i64") ty.Void (parameter 0 I64 ∷ [])
    ∷ declared (codes "pthread_create") (ty.One I32)
    (parameter 0 Ptr ∷ parameter 1 Ptr ∷ parameter 2 Ptr ∷ parameter 3 Ptr ∷ [])
    ∷ declared (codes "pthread_join") (ty.One I32) (parameter 0 I64 ∷ parameter 1 Ptr ∷ [])
    ∷ []

-- @NAME = global ptr null
abbrev pub pointer : List ℕ → GlobalDef
pointer name = record { name = Text name; ty = ty.One Ptr; init = init.Word Null }

-- the module of these functions, main first, with @g and @h, which are locations 0 and 1
abbrev pub module_of : List Function → Module
module_of functions =
    record {
      structs = [];
      globals = pointer (codes "g") ∷ pointer (codes "h") ∷ [];
      functions = functions ++ externals;
    }

-- main alone, of one block
abbrev pub main_of : List Instr → Module
main_of code = module_of (main (block (codes "entry") code ∷ []) ∷ [])

-- RUNS

-- what is told of a run: the module and the limits, the events, how the threads end, what is printed, and what is
-- counted
pub record Example : Type 0 where
  pub code : Module
  pub lim : Bounds
  pub made : Events
  pub stops : List Stop
  pub out : List ℕ
  pub counts : Totals

abbrev pub example : Module → Bounds → Events → List Stop → List ℕ → Totals → Example
example code lim made stops out counts =
    record { code = code; lim = lim; made = made; stops = stops; out = out; counts = counts }

-- the setting of the run, in which no free is taken at its word
abbrev pub setting_in : Example → Setting
setting_in e = record (setting_of (program_of true e.lim e.code) e.lim e.stops) { weak = false }

-- the state with which it ends
abbrev pub end_of : Example → State
end_of e = state_after (setting_in e) (first_state (program_of true e.lim e.code) e.lim) e.made

-- the stops of the 16 threads
abbrev pub stops_in : State → List Stop
stops_in s = map (λ (t : ℕ). stop_of_phase (s.threads t)) (range_with_len 0 16)

-- main ends so, and no other thread begins
abbrev pub alone : Stop → List Stop
alone stop = stop ∷ replicate 15 Idle

-- The events are a run of the module, its threads end so, and this is printed and counted.
pub record IsWorked (e : Example) : Type 0 where
  pub run : IsPlainRun (setting_in e) (first_state (program_of true e.lim e.code) e.lim) e.made
  pub ends : stops_in (end_of e) ≡ e.stops
  pub prints : (end_of e).out ≡ e.out
  pub counts : totals_of e.made e.stops ≡ e.counts
