-- Runs that end at an instruction that can't be carried out.
use Rattle.std.specs.Prelude.{◌≡◌, true, [], ◌∷◌, Some, codes}
use Rattle.ds_ast.specs.declared.name.Name.TheVariants.{Number, Text}
use Rattle.ds_ast.specs.declared.ty.Scalar.TheVariants.{I32, I64, Ptr}
use Rattle.ds_ast.specs.declared.ty.Ty as ty
use Rattle.ds_ast.specs.declared.value.Value.TheVariants.{Int}
use Rattle.ds_ast.specs.declared.words.BinOp.TheVariants.{Sdiv}
use Rattle.ds_ast.specs.declared.words.CastOp.TheVariants.{IntToPtr}
use Rattle.ds_ast.specs.declared.instr.Op.TheVariants.{Bin, Cast, Alloca, Store, Call, Ret}
use Rattle.ds_ast.specs.declared.module.Module.{Module}
use Rattle.ds_ast.specs.declared.module.Function.{Function}
use Rattle.ds_map.specs.Bounds.{bounds}
use Rattle.ds_plain.specs.declared.Place.{Place}
use Rattle.ds_plain.specs.declared.Stop.TheVariants.{Trap}
use Rattle.ds_plain.specs.declared.TrapKind.{TrapKind}
use Rattle.ds_plain.specs.declared.TrapKind.TheVariants.{BadAddress, DivZero, StackLimit}
use Rattle.ds_plain.specs.declared.Request.{Request}
use Rattle.ds_plain.specs.declared.Request.TheVariants as requests
use Rattle.ds_plain.specs.Behaviour.{Asked, Asks, Program}
use Rattle.ds_meaning.specs.Program.{program_of}
use Rattle.ds_meaning_laws.specs.Example.{named, unnamed, block, local, operand, parameter, defined, module_of}
use Rattle.ds_meaning_laws.specs.Programs.{main_of, end, at}

-- what main asks, before any answer, with fuel for 2,000 instructions
abbrev pub first_asked : Module → Asked
first_asked m = Program.behaves (program_of true (bounds 256 2000 16 16) m) 0 0 0 []

-- to stop at the instruction
abbrev pub trap : Place → TrapKind → Request
trap place kind = requests.Stop (Trap (record { place = place; kind = kind }))

-- define i64 @2(i64 %0) { 1: %2 = sdiv i64 7, %0, ret i64 %2 }
abbrev pub divide : Function
divide =
    defined 2 (ty.One I64) (parameter 0 I64 ∷ [])
    (block 1
    (named 2 (Bin Sdiv I64 (Int 7) (local 0)) ∷ unnamed (Ret (Some (operand I64 (local 2)))) ∷ [])
    ∷ [])

-- MAIN begins with these instructions, and ends with ret i32 0

-- %1 = inttoptr i64 4097 to ptr, store i64 1, ptr %1
abbrev pub TrapsAtTheStore : Type 0
TrapsAtTheStore =
    first_asked (module_of (main_of (block 0
    (named 1 (Cast IntToPtr I64 (Int 4097) Ptr) ∷ unnamed (Store I64 (Int 1) (local 1)) ∷ end ∷ []) ∷ []) ∷ []))
    ≡ Asks 2 (at 0 1) (trap (at 0 1) (BadAddress 0x1001))

-- %1 = call i64 @2(i64 0): the place is in the function that is called
abbrev pub TrapsWhereItIsCalled : Type 0
TrapsWhereItIsCalled =
    first_asked (module_of (main_of (block 0
    (named 1 (Call (ty.One I64) (Number 2) (operand I64 (Int 0) ∷ [])) ∷ end ∷ []) ∷ []) ∷ divide ∷ []))
    ≡ Asks 2 (at 1 0) (trap (at 1 0) DivZero)

-- %1 = call i32 @main(): the call in the 1,024th frame
abbrev pub TrapsOfDeepCalls : Type 0
TrapsOfDeepCalls =
    first_asked (module_of (main_of (block 0
    (named 1 (Call (ty.One I32) (Text (codes "main")) []) ∷ end ∷ []) ∷ []) ∷ []))
    ≡ Asks 1024 (at 0 0) (trap (at 0 0) StackLimit)

-- %1 = alloca i64, i64 1000, %2 = call i32 @main(): each of four frames takes 1,000 words, and the fifth finds 96 left
abbrev pub TrapsOfAFullStack : Type 0
TrapsOfAFullStack =
    first_asked (module_of (main_of (block 0
    (named 1 (Alloca (ty.One I64) (Some (operand I64 (Int 1000))))
    ∷ named 2 (Call (ty.One I32) (Text (codes "main")) []) ∷ end ∷ []) ∷ []) ∷ []))
    ≡ Asks 9 (at 0 0) (trap (at 0 0) StackLimit)
