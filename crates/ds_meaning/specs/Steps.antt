-- The instruction at hand: its operands, its result, and its traps.
use Rattle.std.specs.Prelude.{ℕ, suc, List, Option, Some, None}
use Rattle.ds_ast.specs.declared.name.Name.{Name}
use Rattle.ds_ast.specs.declared.ty.Scalar.{Scalar}
use Rattle.ds_ast.specs.declared.value.Value.{Value}
use Rattle.ds_plain.specs.declared.Place.{Place}
use Rattle.ds_plain.specs.declared.TrapKind.{TrapKind}
use Rattle.ds_plain.specs.declared.Stop.TheVariants.{Trap}
use Rattle.ds_plain.specs.Behaviour.{Outcome, Stops, Stuck}
use Rattle.ds_meaning.specs.Values.{bound, operand}
use Rattle.ds_meaning.specs.Frames.{Context, Frame, Caller, State, Runs}

-- an instruction at hand: its frame and those that wait, the name of its result, and its place
pub record Current : Type 0 where
  pub frame : Frame
  pub below : List Caller
  pub gives : Option Name
  pub place : Place

-- OPERANDS

-- with what there is; where there is nothing, there is no meaning
abbrev pub given_by : {A : Type 0} → Option A → (A → Outcome State) → Outcome State
given_by None go = Stuck
given_by (Some x) go = go x

-- with the value of an operand of the type
abbrev pub given : Context → Current → Scalar → Value → (ℕ → Outcome State) → Outcome State
given c s ty value go = given_by (operand c.code s.frame.env ty value) go

-- RESULTS

-- the thread at the instruction behind the one of this frame
abbrev pub behind : Current → Frame → State
behind s fr = Runs (record fr { index = suc fr.index }) s.below

-- at the next instruction
abbrev pub on : Current → State
on s = behind s s.frame

-- the frame in which the result has the value
abbrev pub with_result : Current → ℕ → Frame
with_result s v = record s.frame { env = bound s.gives 0 v s.frame.env }

-- the frame in which the result is the pair of these
abbrev pub with_pair : Current → ℕ → ℕ → Frame
with_pair s v w = record s.frame { env = bound s.gives 1 w (bound s.gives 0 v s.frame.env) }

-- at the next instruction, where the result has the value
abbrev pub results : Current → ℕ → State
results s v = behind s (with_result s v)

-- TRAPS

-- the instruction can't be carried out
abbrev pub traps : Current → TrapKind → Outcome State
traps s kind = Stops s.place (Trap (record { place = s.place; kind = kind }))
