-- Accesses of memory, and the traps of bad addresses.
use Rattle.std.specs.Prelude.{◌≡◌, ℕ, ◌/◌, ◌%◌, ◌^◌, ◌==◌, true, false, [], ◌∷◌, codes}
use Rattle.ds_ast.specs.declared.name.Name.TheVariants.{Number}
use Rattle.ds_ast.specs.declared.ty.Scalar.TheVariants.{I8, I16, I32, I64, Ptr}
use Rattle.ds_ast.specs.declared.value.Value.TheVariants.{Int, Null}
use Rattle.ds_ast.specs.declared.words.RmwOp.{RmwOp}
use Rattle.ds_ast.specs.declared.words.RmwOp.TheVariants.{Xchg, Add, Sub, And, Or, Xor, Umax, Umin}
use Rattle.ds_ast.specs.declared.instr.Op.{Op}
use Rattle.ds_ast.specs.declared.instr.Op.TheVariants.{Load, Store, Rmw, Cmpxchg, Extract, Fence}
use Rattle.ds_plain.specs.declared.Access.{Access}
use Rattle.ds_plain.specs.declared.TrapKind.TheVariants.{UseAfterFree, BadAddress}
use Rattle.ds_plain.specs.declared.Request.TheVariants as requests
use Rattle.ds_plain.specs.Behaviour.{Outcome, Goes, Wants, Stops, Stuck}
use Rattle.ds_meaning.specs.Values.{truth}
use Rattle.ds_meaning.specs.Frames.{State, Runs, Notes}
use Rattle.ds_meaning.specs.Meaning.{act}
use Rattle.ds_meaning_laws.specs.Example.{tried, gives, trapped, local, global, here, names, place, next, behind_with}
use Rattle.ds_meaning_laws.specs.Example.{frame_in, frame_behind, context_of}

abbrev pub access : (loc shift bits : ℕ) → Access
access loc shift bits = record { loc = loc; shift = shift; bits = bits }

-- LOADS

-- the byte 2 of the first global's word, which is location 0
abbrev pub LoadsAByte : Type 0
LoadsAByte =
    tried (Load I8 (Int 0x1002))
    ≡ Wants place (requests.Load (access 0 16 8)) (λ word. behind_with (word / 2 ^ 16 % 2 ^ 8))

-- the third word of the heap, whose first is location 69632, as a whole and by its upper half
abbrev pub LoadsWordsAndHalves : Type 0
LoadsWordsAndHalves =
    (tried (Load I64 (local 1))
    ≡ Wants place (requests.Load (access 69634 0 64)) (λ word. behind_with (word)))
    × (tried (Load I32 (Int 0x1000014))
    ≡ Wants place (requests.Load (access 69634 32 32)) (λ word. behind_with (word / 2 ^ 32 % 2 ^ 32)))

-- the last byte of the last stack, and the last word of the heap's 256 pages
abbrev pub LoadsTheLast : Type 0
LoadsTheLast =
    (tried (Load I8 (Int 0x17ffff))
    ≡ Wants place (requests.Load (access 69631 56 8)) (λ word. behind_with (word / 2 ^ 56 % 2 ^ 8)))
    × (tried (Load Ptr (Int 0x10ffff8))
    ≡ Wants place (requests.Load (access 200703 0 64)) (λ word. behind_with (word)))

-- STORES

-- the two highest bytes of the word; the value has 16 bits
abbrev pub StoresAPart : Type 0
StoresAPart =
    (tried (Store I16 (Int 0x12345) (Int 0x100e)) ≡ Wants place (requests.Store (access 1 48 16) 0x2345) (λ z. next))
    × (tried (Store I64 (local 3) (global (codes "h"))) ≡ Wants place (requests.Store (access 1 0 64) 250) (λ z. next))

-- where a module notes by itself, the note of a pointer comes next, and of a number none
abbrev pub StoresOfPointersAreNoted : Type 0
StoresOfPointersAreNoted =
    (act (context_of true []) here (Store Ptr (local 1) (global (codes "g")))
    ≡ Wants place (requests.Store (access 0 0 64) 0x1000010) (λ z.
    Notes (global (codes "g")) (local 1) (frame_in names) []))
    × (act (context_of false []) here (Store Ptr (local 1) (global (codes "g")))
    ≡ Wants place (requests.Store (access 0 0 64) 0x1000010) (λ z. next))
    × (act (context_of true []) here (Store I64 (local 1) (global (codes "g")))
    ≡ Wants place (requests.Store (access 0 0 64) 0x1000010) (λ z. next))

-- BAD ADDRESSES

-- null, one behind the globals, one behind the stacks, and one behind the heap
abbrev pub OutsideTheRegions : Type 0
OutsideTheRegions =
    (tried (Load I64 Null) ≡ trapped (BadAddress 0))
    × (tried (Store I8 (Int 1) (Int 0x9000)) ≡ trapped (BadAddress 0x9000))
    × (tried (Load I8 (Int 0x180000)) ≡ trapped (BadAddress 0x180000))
    × (tried (Load I64 (Int 0x1100000)) ≡ trapped (BadAddress 0x1100000))

-- no multiple of the width
abbrev pub NotAligned : Type 0
NotAligned =
    (tried (Store I64 (Int 1) (Int 0x1001)) ≡ trapped (BadAddress 0x1001))
    × (tried (Load I32 (Int 0x1002)) ≡ trapped (BadAddress 0x1002))
    × (tried (Load I16 (Int 0x1003)) ≡ trapped (BadAddress 0x1003))

-- a pointer into a block that was freed
abbrev pub Marked : Type 0
Marked =
    (tried (Load I8 (local 2)) ≡ trapped (UseAfterFree 0x8000000001000010))
    × (tried (Rmw Add (local 2) I8 (Int 1)) ≡ trapped (UseAfterFree 0x8000000001000010))
    × (tried (Store I8 (Int 1) (Int 0x8000000000000000)) ≡ trapped (UseAfterFree 0x8000000000000000))

-- EXCHANGES

-- the result is what was there before
abbrev pub RmwGivesTheOldPart : Type 0
RmwGivesTheOldPart =
    tried (Rmw Add (Int 0x1001) I8 (Int 300))
    ≡ Wants place (requests.Rmw (access 0 8 8) Add 44) (λ word. behind_with (word / 2 ^ 8 % 2 ^ 8))

-- the note of the pointer that xchg stores reads its operands where the result has its value
abbrev pub XchgIsNoted : Type 0
XchgIsNoted =
    (act (context_of true []) here (Rmw Xchg (global (codes "g")) Ptr (local 1))
    ≡ Wants place (requests.Rmw (access 0 0 64) Xchg 0x1000010) (λ word.
    Notes (global (codes "g")) (local 1) (frame_in ((Number 9, 0, word) ∷ names)) []))
    × (act (context_of true []) here (Rmw Add (global (codes "g")) I64 (Int 1))
    ≡ Wants place (requests.Rmw (access 0 0 64) Add 1) (λ word. behind_with (word)))

-- no other operation stores a pointer that it is given
abbrev pub IsNotNoted : RmwOp → Type 0
IsNotNoted op =
    act (context_of true []) here (Rmw op (global (codes "g")) Ptr (Int 1))
    ≡ Wants place (requests.Rmw (access 0 0 64) op 1) (λ word. behind_with (word))

abbrev pub XchgAloneIsNoted : Type 0
XchgAloneIsNoted =
    IsNotNoted Add × IsNotNoted Sub × IsNotNoted And × IsNotNoted Or × IsNotNoted Xor × IsNotNoted Umax
    × IsNotNoted Umin

-- what a compare-and-swap of a byte at 0x1001 is, where 5 is expected and 6 is written
abbrev pub byte_swap : Op
byte_swap = Cmpxchg (Int 0x1001) I8 (Int 5) (Int 6)

-- the state once what is asked was answered with the word
abbrev pub told : ℕ → Outcome State → Outcome State
told word (Wants at request answered) = Goes (answered word)
told word (Goes s) = Stuck
told word (Stops at stop) = Stuck
told word Stuck = Stuck

abbrev pub pair_of : ℕ → ℕ → State
pair_of old exchanged = Runs (frame_behind ((Number 9, 1, exchanged) ∷ (Number 9, 0, old) ∷ names)) []

-- the byte of 0x70507 is 5, and that of 0x70607 is 6
abbrev pub CmpxchgGivesThePair : Type 0
CmpxchgGivesThePair =
    (tried byte_swap ≡ Wants place (requests.Cas (access 0 8 8) 5 6) (λ word.
    pair_of (word / 2 ^ 8 % 2 ^ 8) (truth (word / 2 ^ 8 % 2 ^ 8 == 5))))
    × (told 0x70507 (tried byte_swap) ≡ Goes (pair_of 5 1))
    × (told 0x70607 (tried byte_swap) ≡ Goes (pair_of 6 0))

-- it is noted whether or not it exchanged
abbrev pub swap : Op
swap = Cmpxchg (global (codes "g")) Ptr Null (local 1)

abbrev pub noted_with : ℕ → ℕ → State
noted_with old exchanged =
    Notes (global (codes "g")) (local 1) (frame_in ((Number 9, 1, exchanged) ∷ (Number 9, 0, old) ∷ names)) []

abbrev pub CmpxchgIsNoted : Type 0
CmpxchgIsNoted =
    (told 0 (act (context_of true []) here swap) ≡ Goes (noted_with 0 1))
    × (told 8 (act (context_of true []) here swap) ≡ Goes (noted_with 8 0))
    × (told 8 (act (context_of false []) here swap) ≡ Goes (pair_of 8 0))

-- the parts of %4
abbrev pub PartsAreTaken : Type 0
PartsAreTaken =
    (tried (Extract I64 (Number 4) 0) ≡ gives 77)
    × (tried (Extract I64 (Number 4) 1) ≡ gives 1)
    × (tried (Extract I64 (Number 3) 1) ≡ Stuck)

abbrev pub FencesDoNothing : Type 0
FencesDoNothing = tried Fence ≡ Goes next
