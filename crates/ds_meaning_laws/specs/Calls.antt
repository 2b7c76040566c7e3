-- Calls and returns.
use Rattle.std.specs.Prelude.{◌≡◌, ℕ, ◌<◌, true, false, List, [], ◌∷◌, length, replicate, slice_get, Option, Some, None}
use Rattle.ds_ast.specs.declared.name.Name.TheVariants.{Number}
use Rattle.ds_ast.specs.declared.ty.Scalar.TheVariants.{I8, I32, I64, Ptr}
use Rattle.ds_ast.specs.declared.ty.Ty as ty
use Rattle.ds_ast.specs.declared.value.Value.TheVariants.{Int, Null}
use Rattle.ds_ast.specs.declared.instr.Op.{Op}
use Rattle.ds_ast.specs.declared.instr.Op.TheVariants.{Call, Ret, Bin, Cmpxchg}
use Rattle.ds_ast.specs.declared.module.Module.{Module}
use Rattle.ds_ast.specs.declared.module.Function.{Function}
use Rattle.ds_ast.specs.declared.words.BinOp.TheVariants.{Add}
use Rattle.ds_plain.specs.declared.Stop.TheVariants.{Returned}
use Rattle.ds_plain.specs.declared.TrapKind.TheVariants.{StackLimit}
use Rattle.ds_plain.specs.Behaviour.{Outcome, Goes, Stops, Stuck}
use Rattle.ds_meaning.specs.Values.{Environment}
use Rattle.ds_meaning.specs.Frames.{Frame, Caller, State, Runs, TooLarge, has_room, cells_of}
use Rattle.ds_meaning.specs.Meaning.{act}
use Rattle.ds_meaning.specs.Program.{start}
use Rattle.ds_meaning_laws.specs.Example.{unnamed, named, block, local, operand, parameter, here, names, context_of}
use Rattle.ds_meaning_laws.specs.Example.{defined, frame_behind, tried, place, trapped, module_of}

-- define void @0() { 7: ret void }
abbrev pub small : Function
small = defined 0 ty.Void [] (block 7 (unnamed (Ret None) ∷ []) ∷ [])

-- define i8 @1(i8 %0, ptr %1) { 2: %3 = add i8 %0, 1, %4 = cmpxchg ptr %1, i8 0, i8 1, ret i8 %3 }
abbrev pub larger : Function
larger =
    defined 1 (ty.One I8) (parameter 0 I8 ∷ parameter 1 Ptr ∷ [])
    (block 2
    (named 3 (Bin Add I8 (local 0) (Int 1))
    ∷ named 4 (Cmpxchg (local 1) I8 (Int 0) (Int 1))
    ∷ unnamed (Ret (Some (operand I8 (local 3))))
    ∷ [])
    ∷ [])

abbrev pub functions : List Function
functions = small ∷ larger ∷ []

abbrev pub called : Op → Outcome State
called op = act (context_of false functions) here op

-- CALLS

-- a frame with the values of the arguments, above the one that waits for %9; 10 words of the stack stay taken
abbrev pub CallsEnterAFrame : Type 0
CallsEnterAFrame =
    called (Call (ty.One I8) (Number 1) (operand I8 (local 3) ∷ operand Ptr (local 2) ∷ []))
    ≡ Goes (Runs (record {
      function = 1;
      block = Number 2;
      index = 0;
      env = (Number 1, 0, 0x8000000001000010) ∷ (Number 0, 0, 250) ∷ [];
      taken = 10;
    })
    (record { frame = frame_behind names; gives = Some (Number 9) } ∷ []))

-- one argument, three of them, one that names nothing, and no such function
abbrev pub CallsWithNoMeaning : Type 0
CallsWithNoMeaning =
    (called (Call (ty.One I8) (Number 1) (operand I8 (local 3) ∷ [])) ≡ Stuck)
    × (called (Call (ty.One I8) (Number 1) (operand I8 (local 3) ∷ operand Ptr Null ∷ operand Ptr Null ∷ [])) ≡ Stuck)
    × (called (Call (ty.One I8) (Number 1) (operand I8 (local 8) ∷ operand Ptr Null ∷ [])) ≡ Stuck)
    × (called (Call ty.Void (Number 2) []) ≡ Stuck)

-- ROOM

-- two parameters, one result, and a pair
abbrev pub CellsAreCounted : Type 0
CellsAreCounted =
    (cells_of small ≡ [])
    × (cells_of larger
    ≡ (Number 0, 0) ∷ (Number 1, 0) ∷ (Number 3, 0) ∷ (Number 4, 0) ∷ (Number 4, 1) ∷ [])

-- a frame of the function of the number, which waits
abbrev pub waiting : ℕ → Caller
waiting number = record {
  frame = record { function = number; block = Number 7; index = 1; env = []; taken = 0 };
  gives = None;
}

-- the 1,024th frame is the last
abbrev pub FramesAreLimited : Type 0
FramesAreLimited =
    (has_room (module_of functions) (replicate 1023 (waiting 0)) small ≡ true)
    × (has_room (module_of functions) (replicate 1024 (waiting 0)) small ≡ false)

-- a frame of 1,024 cells
abbrev pub wide : Function
wide = defined 0 ty.Void (replicate 1024 (parameter 0 I8)) (block 7 (unnamed (Ret None) ∷ []) ∷ [])

-- the 64th of them takes the last of the 65,536 cells
abbrev pub CellsAreLimited : Type 0
CellsAreLimited =
    (has_room (module_of (wide ∷ [])) (replicate 63 (waiting 0)) wide ≡ true)
    × (has_room (module_of (wide ∷ [])) (replicate 64 (waiting 0)) wide ≡ false)

-- a call above 1,023 others traps
abbrev pub CallsWithoutRoomTrap : Type 0
CallsWithoutRoomTrap =
    act (context_of false functions) (record here { below = replicate 1023 (waiting 0) }) (Call ty.Void (Number 0) [])
    ≡ trapped StackLimit

-- RETURNS

-- the last frame of a thread: the bits of an i32, and nothing of another type
abbrev pub ThreadsReturn : Type 0
ThreadsReturn =
    (tried (Ret (Some (operand I32 (Int 0xffffffff)))) ≡ Stops place (Returned (Some 0xffffffff)))
    × (tried (Ret (Some (operand Ptr (local 1)))) ≡ Stops place (Returned None))
    × (tried (Ret (Some (operand I64 (Int 7)))) ≡ Stops place (Returned None))
    × (tried (Ret None) ≡ Stops place (Returned None))

-- a frame that waits for %6, where 4 words of the stack were taken
abbrev pub before : Environment → Frame
before env = record { function = 1; block = Number 2; index = 6; env = env; taken = 4 }

abbrev pub returned_to : Option ℕ → Op → Outcome State
returned_to name op = act (context_of false functions) (record here { below = caller name ∷ waiting 0 ∷ [] }) op
  where
    caller : Option ℕ → Caller
    caller None = record { frame = before names; gives = None }
    caller (Some n) = record { frame = before names; gives = Some (Number n) }

-- the value of 8 bits is bound there, and the words of the frame that ends are given back
abbrev pub CallsGiveValues : Type 0
CallsGiveValues =
    (returned_to (Some 6) (Ret (Some (operand I8 (local 1))))
    ≡ Goes (Runs (before ((Number 6, 0, 0x10) ∷ names)) (waiting 0 ∷ [])))
    × (returned_to None (Ret None) ≡ Goes (Runs (before names) (waiting 0 ∷ [])))

-- FIRST frames

-- the first parameter takes the argument, and the others take 0
abbrev pub ThreadsBegin : Type 0
ThreadsBegin =
    (start (module_of functions) 0 7
    ≡ Runs (record { function = 0; block = Number 7; index = 0; env = []; taken = 0 }) [])
    × (start (module_of functions) 1 0x1ff
    ≡ Runs (record {
      function = 1;
      block = Number 2;
      index = 0;
      env = (Number 1, 0, 0) ∷ (Number 0, 0, 0xff) ∷ [];
      taken = 0;
    }) [])

-- a function of more cells than there are can't begin
abbrev pub LargeFunctionsDoNotBegin : Type 0
LargeFunctionsDoNotBegin =
    (m : Module) (number argument : ℕ) (f : Function) →
    slice_get m.functions number ≡ Some f → 65536 < length (cells_of f) → start m number argument ≡ TooLarge number
