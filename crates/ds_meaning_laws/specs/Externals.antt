-- Calls of the externals, and notes.
use Rattle.std.specs.Prelude.{◌≡◌, ℕ, true, false, List, [], ◌∷◌, Some, None, codes}
use Rattle.ds_ast.specs.declared.name.Name.TheVariants.{Number, Text}
use Rattle.ds_ast.specs.declared.ty.Scalar.TheVariants.{I32, I64, Ptr}
use Rattle.ds_ast.specs.declared.ty.Ty.{Ty}
use Rattle.ds_ast.specs.declared.ty.Ty as ty
use Rattle.ds_ast.specs.declared.value.Value.{Value}
use Rattle.ds_ast.specs.declared.value.Value.TheVariants.{Int, Null, Local, Global}
use Rattle.ds_ast.specs.declared.operand.Operand.{Operand}
use Rattle.ds_ast.specs.declared.instr.Op.TheVariants.{Store, Call, Fence, Ret}
use Rattle.ds_ast.specs.declared.module.Function.{Function}
use Rattle.ds_plain.specs.declared.Place.{Place}
use Rattle.ds_plain.specs.declared.Stop.TheVariants.{Returned}
use Rattle.ds_plain.specs.declared.TrapKind.TheVariants.{UseAfterFree, BadAddress, MarkedFree, BadFree}
use Rattle.ds_plain.specs.declared.Request.TheVariants as requests
use Rattle.ds_plain.specs.Behaviour.{Outcome, Goes, Wants, Stops, Stuck}
use Rattle.ds_meaning.specs.Frames.{State, Runs, Notes}
use Rattle.ds_meaning.specs.Meaning.{act, step}
use Rattle.ds_meaning_laws.specs.Example.{unnamed, block, local, global, operand, parameter, here, names, context_of}
use Rattle.ds_meaning_laws.specs.Example.{declared, defined, frame_in, frame_behind, place, next, gives, behind_with}
use Rattle.ds_meaning_laws.specs.Example.{trapped}

-- define void @0() { 6: fence, ret void  7: store, fence, store, call @ds_note, fence, ret void }
abbrev pub first : Function
first =
    defined 0 ty.Void []
    (block 6 (unnamed Fence ∷ unnamed (Ret None) ∷ [])
    ∷ block 7
    (unnamed (Store I64 (Int 1) (global (codes "h")))
    ∷ unnamed Fence
    ∷ unnamed (Store Ptr (local 1) (global (codes "g")))
    ∷ unnamed (Call ty.Void (Text (codes "ds_note")) (operand Ptr (global (codes "g")) ∷ operand Ptr (local 1) ∷ []))
    ∷ unnamed Fence
    ∷ unnamed (Ret None)
    ∷ [])
    ∷ [])

-- define ptr @1(ptr %0) { 2: ret ptr %0 }
abbrev pub thread_function : Function
thread_function =
    defined 1 (ty.One Ptr) (parameter 0 Ptr ∷ []) (block 2 (unnamed (Ret (Some (operand Ptr (local 0)))) ∷ []) ∷ [])

abbrev pub functions : List Function
functions =
    first
    ∷ thread_function
    ∷ declared (codes "malloc") (ty.One Ptr) (parameter 0 I64 ∷ [])
    ∷ declared (codes "free") ty.Void (parameter 0 Ptr ∷ [])
    ∷ declared (codes "print_i64") ty.Void (parameter 0 I64 ∷ [])
    ∷ declared (codes "pthread_create") (ty.One I32)
    (parameter 0 Ptr ∷ parameter 1 Ptr ∷ parameter 2 Ptr ∷ parameter 3 Ptr ∷ [])
    ∷ declared (codes "pthread_join") (ty.One I32) (parameter 0 I64 ∷ parameter 1 Ptr ∷ [])
    ∷ declared (codes "ds_note") ty.Void (parameter 0 Ptr ∷ parameter 1 Ptr ∷ [])
    ∷ declared (codes "puts") ty.Void (parameter 0 Ptr ∷ [])
    ∷ []

-- what comes of a call
abbrev pub called : Ty → List ℕ → List Operand → Outcome State
called result name args = act (context_of false functions) here (Call result (Text name) args)

-- MALLOC

abbrev pub malloc : Value → Outcome State
malloc n = called (ty.One Ptr) (codes "malloc") (operand I64 n ∷ [])

-- the result is the answer, and null where there is no block so large
abbrev pub MallocIsLimited : Type 0
MallocIsLimited =
    (malloc (Int 4095) ≡ Wants place (requests.Malloc 4095) (λ address. behind_with address))
    × (malloc (Int 0) ≡ Wants place (requests.Malloc 0) (λ address. behind_with address))
    × (malloc (Int 4096) ≡ gives 0)
    × (malloc (Int 0xffffffffffffffff) ≡ gives 0)

-- FREE

abbrev pub free : Value → Outcome State
free p = called ty.Void (codes "free") (operand Ptr p ∷ [])

abbrev pub FreesInTheHeap : Type 0
FreesInTheHeap =
    (free (local 1) ≡ Wants place (requests.Free 0x1000010) (λ z. next))
    × (free (Int 0x10ffff8) ≡ Wants place (requests.Free 0x10ffff8) (λ z. next))
    × (free Null ≡ Goes next)

-- a marked address, one behind the heap, one of a stack, and no multiple of 8
abbrev pub BadFrees : Type 0
BadFrees =
    (free (local 2) ≡ trapped (MarkedFree 0x8000000001000010))
    × (free (Int 0x1100000) ≡ trapped (BadFree 0x1100000))
    × (free (Int 0x108000) ≡ trapped (BadFree 0x108000))
    × (free (Int 0x1000014) ≡ trapped (BadFree 0x1000014))

-- PRINT and threads

abbrev pub Prints : Type 0
Prints =
    (called ty.Void (codes "print_i64") (operand I64 (local 3) ∷ []) ≡ Wants place (requests.Print 250) (λ z. next))
    × (called ty.Void (codes "print_i64") (operand I64 (Int 0xffffffffffffffff) ∷ [])
    ≡ Wants place (requests.Print 0xffffffffffffffff) (λ z. next))

abbrev pub create : Value → Value → Outcome State
create at function =
    called (ty.One I32) (codes "pthread_create")
    (operand Ptr at ∷ operand Ptr Null ∷ operand Ptr function ∷ operand Ptr (local 1) ∷ [])

-- the function 1 with the argument; a declared function has its number too
abbrev pub StartsThreads : Type 0
StartsThreads =
    (create (global (codes "h")) (Local (Number 1)) ≡ Stuck)
    × (create (global (codes "h")) (Global (Number 1))
    ≡ Wants place (requests.Spawn 1 1 0x1000010) (λ answer. behind_with answer))
    × (create (Int 0x108058) (global (codes "puts"))
    ≡ Wants place (requests.Spawn 8203 8 0x1000010) (λ answer. behind_with answer))

-- where the number can't be stored, before anything else
abbrev pub StartsNoThread : Type 0
StartsNoThread =
    (create Null (Global (Number 1)) ≡ trapped (BadAddress 0))
    × (create (Int 0x1004) (Global (Number 1)) ≡ trapped (BadAddress 0x1004))
    × (create (local 2) (Global (Number 1)) ≡ trapped (UseAfterFree 0x8000000001000010))

abbrev pub Joins : Type 0
Joins =
    called (ty.One I32) (codes "pthread_join") (operand I64 (local 3) ∷ operand Ptr Null ∷ [])
    ≡ Wants place (requests.Join 250) (λ answer. behind_with answer)

-- NOTES

abbrev pub note : Value → Value → Outcome State
note at value = called ty.Void (codes "ds_note") (operand Ptr at ∷ operand Ptr value ∷ [])

abbrev pub NotesInTheHeap : Type 0
NotesInTheHeap =
    (note (global (codes "h")) (local 1) ≡ Wants place (requests.Note 1 0x1000010) (λ z. next))
    × (note (Int 0x1000018) (Int 0x10fffff) ≡ Wants place (requests.Note 69635 0x10fffff) (λ z. next))

-- null, a marked pointer, one into a stack, and one behind the heap
abbrev pub NotesOutsideTheHeap : Type 0
NotesOutsideTheHeap =
    (note (global (codes "h")) Null ≡ Goes next)
    × (note (global (codes "h")) (local 2) ≡ Goes next)
    × (note (global (codes "h")) (Int 0x108050) ≡ Goes next)
    × (note (global (codes "h")) (Int 0x1100000) ≡ Goes next)

-- the address is judged first, as that of a store
abbrev pub NotesAtBadAddresses : Type 0
NotesAtBadAddresses =
    (note Null Null ≡ trapped (BadAddress 0)) × (note (local 2) Null ≡ trapped (UseAfterFree 0x8000000001000010))

-- a place in the first function
abbrev pub at : ℕ → Place
at instruction = record { function = 0; instruction = instruction }

-- four instructions stand before the store, and its note has its place; a note of null costs an instruction
abbrev pub NotesOfStores : Type 0
NotesOfStores =
    (step (context_of true functions) (Notes (global (codes "g")) (local 1) (record (frame_in names) { index = 2 }) [])
    ≡ Wants (at 4) (requests.Note 0 0x1000010) (λ z. Runs (frame_in names) []))
    × (step (context_of true functions) (Notes (global (codes "g")) Null (record (frame_in names) { index = 2 }) [])
    ≡ Goes (Runs (frame_in names) []))

-- and so has the call of ds_note behind it
abbrev pub NotesByCalls : Type 0
NotesByCalls =
    step (context_of false functions) (Runs (frame_in names) [])
    ≡ Wants (at 4) (requests.Note 0 0x1000010) (λ z. next)

-- which is not counted
abbrev pub PlacesBehindNotes : Type 0
PlacesBehindNotes =
    (step (context_of false functions) (Runs (record (frame_in names) { index = 0 }) [])
    ≡ Wants (at 2) (requests.Store (record { loc = 1; shift = 0; bits = 64 }) 1) (λ z.
    Runs (record (frame_in names) { index = 1 }) []))
    × (step (context_of false functions) (Runs (record (frame_in names) { index = 5 }) [])
    ≡ Stops (at 6) (Returned None))

-- OTHER functions

-- a function that is declared and not known, and one that is not there
abbrev pub OthersHaveNoMeaning : Type 0
OthersHaveNoMeaning =
    (called ty.Void (codes "puts") (operand Ptr Null ∷ []) ≡ Stuck) × (called ty.Void (codes "gets") [] ≡ Stuck)

-- a module may define a function of an external's name
abbrev pub own_malloc : Function
own_malloc = record {
  name = Text (codes "malloc");
  result = ty.One Ptr;
  params = parameter 0 I64 ∷ [];
  blocks = block 1 (unnamed (Ret (Some (operand Ptr Null))) ∷ []) ∷ [];
}

abbrev pub DefinedFunctionsAreCalled : Type 0
DefinedFunctionsAreCalled =
    act (context_of false (own_malloc ∷ [])) here (Call (ty.One Ptr) (Text (codes "malloc")) (operand I64 (Int 8) ∷ []))
    ≡ Goes (Runs (record {
      function = 0;
      block = Number 1;
      index = 0;
      env = (Number 0, 0, 8) ∷ [];
      taken = 10;
    })
    (record { frame = frame_behind names; gives = Some (Number 9) } ∷ []))
