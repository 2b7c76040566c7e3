-- Branches, and the values that phis take.
use Rattle.std.specs.Prelude.{◌≡◌, ℕ, false, [], ◌∷◌}
use Rattle.ds_ast.specs.declared.name.Name.TheVariants.{Number}
use Rattle.ds_ast.specs.declared.ty.Scalar.TheVariants.{I8, I64}
use Rattle.ds_ast.specs.declared.ty.Ty as ty
use Rattle.ds_ast.specs.declared.value.Value.{Value}
use Rattle.ds_ast.specs.declared.value.Value.TheVariants.{Int}
use Rattle.ds_ast.specs.declared.operand.Arm.{Arm}
use Rattle.ds_ast.specs.declared.instr.Op.{Op}
use Rattle.ds_ast.specs.declared.instr.Op.TheVariants.{Phi, Fence, Br, CondBr, Switch, Unreachable}
use Rattle.ds_ast.specs.declared.module.Function.{Function}
use Rattle.ds_ast.specs.declared.module.Block.{Block}
use Rattle.ds_plain.specs.declared.TrapKind.TheVariants as kinds
use Rattle.ds_plain.specs.Behaviour.{Outcome, Goes, Stuck}
use Rattle.ds_meaning.specs.Values.{Environment}
use Rattle.ds_meaning.specs.Frames.{State, Runs}
use Rattle.ds_meaning.specs.Meaning.{act}
use Rattle.ds_meaning_laws.specs.Example.{named, unnamed, block, local, here, names, context_of, defined, next, trapped}

abbrev pub arm : Value → ℕ → Arm
arm v n = record { value = v; from = Number n }

-- 7: %1 = phi i64 [ %3, %7 ], [ 5, %8 ], %3 = phi i64 [ 6, %8 ], [ %1, %7 ], br label %7
abbrev pub exchange : Block
exchange =
    block 7
    (named 1 (Phi I64 (arm (local 3) 7 ∷ arm (Int 5) 8 ∷ []))
    ∷ named 3 (Phi I64 (arm (Int 6) 8 ∷ arm (local 1) 7 ∷ []))
    ∷ unnamed (Br (Number 7))
    ∷ [])

-- 8: %5 = phi i8 [ %1, %7 ], br label %8
abbrev pub narrow : Block
narrow = block 8 (named 5 (Phi I8 (arm (local 1) 7 ∷ [])) ∷ unnamed (Br (Number 8)) ∷ [])

-- 9: fence, br label %9
abbrev pub plain : Block
plain = block 9 (unnamed Fence ∷ unnamed (Br (Number 9)) ∷ [])

-- 10: %5 = phi i8 [ 0, %8 ], br label %9, and 11: %5 = phi i8 [ %8, %7 ], br label %9
abbrev pub no_arm : Block
no_arm = block 10 (named 5 (Phi I8 (arm (Int 0) 8 ∷ [])) ∷ unnamed (Br (Number 9)) ∷ [])

abbrev pub no_value : Block
no_value = block 11 (named 5 (Phi I8 (arm (local 8) 7 ∷ [])) ∷ unnamed (Br (Number 9)) ∷ [])

abbrev pub function : Function
function = defined 0 ty.Void [] (exchange ∷ narrow ∷ plain ∷ no_arm ∷ no_value ∷ [])

-- what comes of the instruction in block 7 of the function
abbrev pub branched : Op → Outcome State
branched op = act (context_of false (function ∷ [])) here op

-- at the first instruction of a block
abbrev pub enters : ℕ → Environment → Outcome State
enters label env = Goes (Runs (record { function = 0; block = Number label; index = 0; env = env; taken = 10 }) [])

-- PHIS

-- %1 is 0x1000010 and %3 is 250 before, and the other way round behind
abbrev pub PhisExchangeValues : Type 0
PhisExchangeValues = branched (Br (Number 7)) ≡ enters 7 ((Number 3, 0, 0x1000010) ∷ (Number 1, 0, 250) ∷ names)

-- the lowest 8 bits; and a block without phis
abbrev pub PhisTakeTheirWidth : Type 0
PhisTakeTheirWidth =
    (branched (Br (Number 8)) ≡ enters 8 ((Number 5, 0, 0x10) ∷ names)) × (branched (Br (Number 9)) ≡ enters 9 names)

abbrev pub NoArmAndNoValue : Type 0
NoArmAndNoValue =
    (branched (Br (Number 10)) ≡ Stuck) × (branched (Br (Number 11)) ≡ Stuck) × (branched (Br (Number 12)) ≡ Stuck)

-- the instruction itself does nothing more
abbrev pub PhisAreDone : Type 0
PhisAreDone = branched (Phi I8 (arm (Int 1) 8 ∷ [])) ≡ Goes next

-- BRANCHES

abbrev pub ConditionsChoose : Type 0
ConditionsChoose =
    (branched (CondBr (Int 1) (Number 8) (Number 9)) ≡ enters 8 ((Number 5, 0, 0x10) ∷ names))
    × (branched (CondBr (Int 0) (Number 8) (Number 9)) ≡ enters 9 names)

-- the first case of 250, the case of 5, which 261 of 8 bits is, and no case of 6
abbrev pub switch_on : Value → Op
switch_on v = Switch I8 v (Number 9) ((5, Number 8) ∷ (250, Number 7) ∷ (250, Number 8) ∷ [])

abbrev pub SwitchesChoose : Type 0
SwitchesChoose =
    (branched (switch_on (local 3)) ≡ enters 7 ((Number 3, 0, 0x1000010) ∷ (Number 1, 0, 250) ∷ names))
    × (branched (switch_on (Int 261)) ≡ enters 8 ((Number 5, 0, 0x10) ∷ names))
    × (branched (switch_on (Int 6)) ≡ enters 9 names)

abbrev pub UnreachableTraps : Type 0
UnreachableTraps = branched Unreachable ≡ trapped kinds.Unreachable
