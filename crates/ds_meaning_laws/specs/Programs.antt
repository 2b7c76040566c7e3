-- Whole programs: what a thread asks after the answers that it was given.
use Rattle.std.specs.Prelude.{◌≡◌, ℕ, Bool, true, false, List, [], ◌∷◌, Some, None, codes}
use Rattle.ds_ast.specs.declared.name.Name.TheVariants.{Number, Text}
use Rattle.ds_ast.specs.declared.ty.Scalar.TheVariants.{I32, I64, Ptr}
use Rattle.ds_ast.specs.declared.ty.Ty as ty
use Rattle.ds_ast.specs.declared.value.Value.{Value}
use Rattle.ds_ast.specs.declared.value.Value.TheVariants.{Int, Null}
use Rattle.ds_ast.specs.declared.words.BinOp.TheVariants.{Add}
use Rattle.ds_ast.specs.declared.words.CastOp.TheVariants.{PtrToInt}
use Rattle.ds_ast.specs.declared.instr.Instr.{Instr}
use Rattle.ds_ast.specs.declared.instr.Op.TheVariants.{Bin, Cast, Alloca, Store, Call, Phi, Ret, Br}
use Rattle.ds_ast.specs.declared.module.Module.{Module}
use Rattle.ds_ast.specs.declared.module.Function.{Function}
use Rattle.ds_ast.specs.declared.module.Block.{Block}
use Rattle.ds_map.specs.Bounds.{bounds}
use Rattle.ds_plain.specs.declared.Place.{Place}
use Rattle.ds_plain.specs.declared.Stop.TheVariants.{Returned, Trap}
use Rattle.ds_plain.specs.declared.TrapKind.TheVariants.{StackLimit}
use Rattle.ds_plain.specs.declared.Request.TheVariants as requests
use Rattle.ds_plain.specs.Behaviour.{Asked, Asks, Silent, Program, behaviour}
use Rattle.ds_meaning.specs.Frames.{TooLarge}
use Rattle.ds_meaning.specs.Meaning.{step}
use Rattle.ds_meaning.specs.Program.{program_of}
use Rattle.ds_meaning_laws.specs.Example.{named, unnamed, block, local, global, operand, parameter, defined, declared}
use Rattle.ds_meaning_laws.specs.Example.{module_of, lim, context_of}
use Rattle.ds_meaning_laws.specs.Branches.{arm}

abbrev pub at : (function instruction : ℕ) → Place
at function instruction = record { function = function; instruction = instruction }

-- a function named @main that gives an i32
abbrev pub main_of : List Block → Function
main_of blocks = record { name = Text (codes "main"); result = ty.One I32; params = []; blocks = blocks }

abbrev pub print_of : Value → Instr
print_of v = unnamed (Call ty.Void (Text (codes "print_i64")) (operand I64 v ∷ []))

abbrev pub print_i64 : Function
print_i64 = declared (codes "print_i64") ty.Void (parameter 0 I64 ∷ [])

-- what main asks, as thread 0 of the module
abbrev pub main_asks : Bool → Module → List ℕ → Asked
main_asks noting m answers = Program.behaves (program_of noting lim m) 0 0 0 answers

-- CALLS give back the stack

-- define i64 @2(i64 %0) { 1: %2 = alloca i64, i64 10, %3 = add i64 %0, %0, ret i64 %3 }
abbrev pub twice : Function
twice =
    defined 2 (ty.One I64) (parameter 0 I64 ∷ [])
    (block 1
    (named 2 (Alloca (ty.One I64) (Some (operand I64 (Int 10))))
    ∷ named 3 (Bin Add I64 (local 0) (local 0))
    ∷ unnamed (Ret (Some (operand I64 (local 3))))
    ∷ [])
    ∷ [])

-- define i32 @main() { 0: %1 = alloca i32, %2 = call i64 @2(i64 21), print %2, %3 = alloca i64, %4 = ptrtoint %3,
-- print %4, ret i32 7 }
abbrev pub calling : Module
calling =
    module_of (main_of (block 0
    (named 1 (Alloca (ty.One I32) None)
    ∷ named 2 (Call (ty.One I64) (Number 2) (operand I64 (Int 21) ∷ []))
    ∷ print_of (local 2)
    ∷ named 3 (Alloca (ty.One I64) None)
    ∷ named 4 (Cast PtrToInt Ptr (local 3) I64)
    ∷ print_of (local 4)
    ∷ unnamed (Ret (Some (operand I32 (Int 7))))
    ∷ [])
    ∷ []) ∷ print_i64 ∷ twice ∷ [])

-- two instructions of main, three of the function, and the print; then the second alloca's address is one word behind
-- the first
abbrev pub RunsCalls : Type 0
RunsCalls =
    (main_asks true calling [] ≡ Asks 6 (at 0 2) (requests.Print 42))
    × (main_asks true calling (0 ∷ []) ≡ Asks 3 (at 0 5) (requests.Print 0x100008))
    × (main_asks true calling (0 ∷ 0 ∷ []) ≡ Asks 1 (at 0 6) (requests.Stop (Returned (Some 7))))

-- a thread that asked to stop stays there
abbrev pub StaysStopped : Type 0
StaysStopped = main_asks true calling (0 ∷ 0 ∷ 5 ∷ 6 ∷ []) ≡ Asks 1 (at 0 6) (requests.Stop (Returned (Some 7)))

-- thread 3 has another stack
abbrev pub StacksDiffer : Type 0
StacksDiffer =
    Program.behaves (program_of true lim calling) 3 0 0 (0 ∷ []) ≡ Asks 3 (at 0 5) (requests.Print 0x118008)

-- with fuel for five instructions nothing is asked, and with fuel for six it is
abbrev pub FuelIsABound : Type 0
FuelIsABound =
    (Program.behaves (program_of true (bounds 256 5 16 16) calling) 0 0 0 [] ≡ Silent)
    × (Program.behaves (program_of true (bounds 256 6 16 16) calling) 0 0 0 [] ≡ Asks 6 (at 0 2) (requests.Print 42))

-- LOOPS

-- define i32 @main() { 0: br label %1  1: %2 = phi i64 [ 10, %0 ], [ %3, %1 ], %3 = phi i64 [ 20, %0 ], [ %2, %1 ],
-- print %2, br label %1 }
abbrev pub looping : Module
looping =
    module_of (main_of (block 0 (unnamed (Br (Number 1)) ∷ [])
    ∷ block 1
    (named 2 (Phi I64 (arm (Int 10) 0 ∷ arm (local 3) 1 ∷ []))
    ∷ named 3 (Phi I64 (arm (Int 20) 0 ∷ arm (local 2) 1 ∷ []))
    ∷ print_of (local 2)
    ∷ unnamed (Br (Number 1))
    ∷ [])
    ∷ []) ∷ print_i64 ∷ [])

-- each round has a branch, two phis and a print, and the values change places
abbrev pub RunsLoops : Type 0
RunsLoops =
    (main_asks true looping [] ≡ Asks 4 (at 0 3) (requests.Print 10))
    × (main_asks true looping (0 ∷ []) ≡ Asks 4 (at 0 3) (requests.Print 20))
    × (main_asks true looping (0 ∷ 0 ∷ []) ≡ Asks 4 (at 0 3) (requests.Print 10))

-- define i32 @main() { 0: br label %0 }
abbrev pub circle : Module
circle = module_of (main_of (block 0 (unnamed (Br (Number 0)) ∷ []) ∷ []) ∷ [])

abbrev pub AsksNothingForEver : Type 0
AsksNothingForEver = main_asks true circle [] ≡ Silent

-- NOTES by themselves and by calls

abbrev pub allocate : Instr
allocate = named 1 (Call (ty.One Ptr) (Text (codes "malloc")) (operand I64 (Int 8) ∷ []))

abbrev pub keep : Instr
keep = unnamed (Store Ptr (local 1) (global (codes "g")))

abbrev pub note : Instr
note = unnamed (Call ty.Void (Text (codes "ds_note")) (operand Ptr (global (codes "g")) ∷ operand Ptr (local 1) ∷ []))

abbrev pub end : Instr
end = unnamed (Ret (Some (operand I32 (Int 0))))

-- define i32 @main() { 0: these instructions }
abbrev pub storing : List Instr → Module
storing code =
    module_of (main_of (block 0 code ∷ [])
    ∷ declared (codes "malloc") (ty.One Ptr) (parameter 0 I64 ∷ [])
    ∷ declared (codes "ds_note") ty.Void (parameter 0 Ptr ∷ parameter 1 Ptr ∷ [])
    ∷ [])

abbrev pub read : List Instr
read = allocate ∷ keep ∷ end ∷ []

abbrev pub instrumented : List Instr
instrumented = allocate ∷ keep ∷ note ∷ end ∷ []

-- what main asks, where its stores of pointers are noted by themselves, or by calls
abbrev pub Both : List ℕ → Asked → Type 0
Both answers asked =
    (main_asks true (storing read) answers ≡ asked) × (main_asks false (storing instrumented) answers ≡ asked)

abbrev pub NotesPointers : Type 0
NotesPointers =
    Both [] (Asks 1 (at 0 0) (requests.Malloc 8))
    × Both (0x1000000 ∷ []) (Asks 1 (at 0 1) (requests.Store (record { loc = 0; shift = 0; bits = 64 }) 0x1000000))
    × Both (0x1000000 ∷ 0 ∷ []) (Asks 1 (at 0 1) (requests.Note 0 0x1000000))
    × Both (0x1000000 ∷ 0 ∷ 0 ∷ []) (Asks 1 (at 0 2) (requests.Stop (Returned (Some 0))))

-- the note of null costs an instruction and asks nothing; and an answer is a word, so that 2^64 is null
abbrev pub NotesNoNull : Type 0
NotesNoNull =
    Both (0 ∷ 0 ∷ []) (Asks 2 (at 0 2) (requests.Stop (Returned (Some 0))))
    × Both (0x10000000000000000 ∷ 0 ∷ []) (Asks 2 (at 0 2) (requests.Stop (Returned (Some 0))))

-- without notes the thread returns
abbrev pub NotesNothing : Type 0
NotesNothing =
    main_asks false (storing read) (0x1000000 ∷ 0 ∷ []) ≡ Asks 1 (at 0 2) (requests.Stop (Returned (Some 0)))

-- THREADS

-- define ptr @1(ptr %0) { 2: store i64 5, ptr %0, ret ptr null }
abbrev pub worker : Function
worker =
    defined 1 (ty.One Ptr) (parameter 0 Ptr ∷ [])
    (block 2
    (unnamed (Store I64 (Int 5) (local 0)) ∷ unnamed (Ret (Some (operand Ptr Null))) ∷ [])
    ∷ [])

-- define ptr @2(i64 %0) { 2: ret ptr null }, define void @3(ptr %0) { 2: ret void }
abbrev pub takes_a_number : Function
takes_a_number =
    defined 2 (ty.One Ptr) (parameter 0 I64 ∷ []) (block 2 (unnamed (Ret (Some (operand Ptr Null))) ∷ []) ∷ [])

abbrev pub gives_nothing : Function
gives_nothing = defined 3 ty.Void (parameter 0 Ptr ∷ []) (block 2 (unnamed (Ret None) ∷ []) ∷ [])

abbrev pub threaded : Program
threaded =
    program_of true lim (module_of (print_i64 ∷ main_of (block 0 (end ∷ []) ∷ []) ∷ worker ∷ takes_a_number
    ∷ declared (codes "f") (ty.One Ptr) (parameter 0 Ptr ∷ []) ∷ gives_nothing ∷ []))

-- a thread begins with its argument, and a pointer that it returns is not told
abbrev pub RunsThreads : Type 0
RunsThreads =
    (Program.behaves threaded 2 2 0x1008 []
    ≡ Asks 1 (at 2 0) (requests.Store (record { loc = 1; shift = 0; bits = 64 }) 5))
    × (Program.behaves threaded 2 2 0x1008 (0 ∷ []) ≡ Asks 1 (at 2 1) (requests.Stop (Returned None)))

-- a function that is declared, or not there, asks nothing
abbrev pub NoFunctionNoThread : Type 0
NoFunctionNoThread = (Program.behaves threaded 2 0 0 [] ≡ Silent) × (Program.behaves threaded 2 9 0 [] ≡ Silent)

-- main is the second function, and the third is ptr (ptr): not so main, ptr (i64), one that is declared, and void (ptr)
abbrev pub MainAndThreads : Type 0
MainAndThreads =
    (Program.main threaded ≡ 1)
    × (Program.may_start threaded 2 ≡ true)
    × (Program.may_start threaded 1 ≡ false)
    × (Program.may_start threaded 3 ≡ false)
    × (Program.may_start threaded 4 ≡ false)
    × (Program.may_start threaded 5 ≡ false)
    × (Program.may_start threaded 6 ≡ false)

-- the words of @g and of @h
abbrev pub GlobalsBegin : Type 0
GlobalsBegin = Program.image threaded ≡ 0 ∷ 7 ∷ []

-- a function whose first frame is too large traps at its first instruction, which has begun
abbrev pub LargeFunctionsTrap : Type 0
LargeFunctionsTrap =
    behaviour (step (context_of true [])) 1 (TooLarge 4) []
    ≡ Asks 1 (at 4 0) (requests.Stop (Trap (record { place = at 4 0; kind = StackLimit })))
