-- The rows of the step table for accesses to program memory, tried on main: each step with its word, its numbers, its
-- answer, its row and what it means, as they are reckoned by hand. There is one page, so program words begin at
-- 384 + 1 + 256 + 4096 = 4737.
use Rattle.std.specs.Prelude.{ℕ, ◌++◌, List, [], ◌∷◌, None}
use Rattle.ds_ast.specs.declared.words.RmwOp.TheVariants as rmws
use Rattle.ds_step.specs.declared.OpKind.TheVariants as kinds
use Rattle.ds_step.specs.declared.Event.TheVariants.{Print, Load, Exchange, Log}
use Rattle.ds_step.specs.declared.Step.{Step}
use Rattle.ds_plain.specs.declared.Access.{Access}
use Rattle.ds_plain.specs.declared.Stop.TheVariants as stops
use Rattle.ds_plain.specs.declared.Request.{Request}
use Rattle.ds_plain.specs.declared.Request.TheVariants as requests
use Rattle.ds_plain.specs.Behaviour.{Asks, Behaviour}
use Rattle.ds_tried.specs.Programs.{at}
use Rattle.ds_tried.specs.Rows.{made, loads, swaps, begins, ends, IsFollowed, first_class}

-- main asks this, and prints what it is told
abbrev pub tells : Request → Behaviour
tells request [] = Asks 1 (at 0 0) request
tells request (told ∷ []) = Asks 1 (at 0 1) (requests.Print told)
tells request (told ∷ printed ∷ answers) = Asks 1 (at 0 2) (requests.Stop (stops.Returned None))

-- it makes these steps for what it asks, and is told this; beside the steps it spends 1 to begin, 1 for each of three
-- instructions, and 1 for the print
abbrev pub Answers : Request → List Step → (told units : ℕ) → Type 0
Answers request steps told units =
    IsFollowed (tells request) (begins ∷ steps ++ (made kinds.Add 2 1 0 0 13 (Print 0 told) ∷ ends ∷ []))
    (stops.Returned None) units (first_class 0)

-- WHOLE WORDS

-- all 64 bits of the first program word
abbrev pub whole : Access
whole = record { loc = 0; shift = 0; bits = 64 }

-- 3 - 5 wraps to 2 ^ 64 - 2
abbrev pub SubtractionWraps : Type 0
SubtractionWraps =
    Answers (requests.Rmw whole rmws.Sub 5) (made kinds.Sub 4737 5 0 3 16 (Exchange 0 18446744073709551614) ∷ []) 3 6

-- a compare-and-swap is told what it found, and exchanges only what it expected
abbrev pub ExpectedWordIsReplaced : Type 0
ExpectedWordIsReplaced =
    Answers (requests.Cas whole 7 9) (swaps 4737 7 9 7 17 (Exchange 0 9) ∷ []) 7 6
    × Answers (requests.Cas whole 7 9) (swaps 4737 7 9 8 17 (Load 0 8) ∷ []) 8 6

-- PARTS OF WORDS

-- the second byte of the first program word
abbrev pub second_byte : Access
second_byte = record { loc = 0; shift = 8; bits = 8 }

-- the bytes beside it stay, and a store is told 0
abbrev pub NeighboursStay : Type 0
NeighboursStay =
    Answers (requests.Store second_byte 0xab) (
    loads 4737 0x1122334455667788 18 Log
    ∷ swaps 4737 0x1122334455667788 0x112233445566ab88 0x1122334455667788 19 (Exchange 0 0x112233445566ab88)
    ∷ []
    ) 0 7

-- where another thread wrote the word meanwhile, the swap is made again with what that wrote
abbrev pub OtherWritesStay : Type 0
OtherWritesStay =
    Answers (requests.Store second_byte 0xab) (
    loads 4737 0x7788 18 Log
    ∷ swaps 4737 0x7788 0xab88 0xff 19 Log
    ∷ swaps 4737 0xff 0xabff 0xff 19 (Exchange 0 0xabff)
    ∷ []
    ) 0 8

-- 255 + 2 wraps to 1 in a byte, and its neighbour stays
abbrev pub NarrowSumWraps : Type 0
NarrowSumWraps =
    Answers (requests.Rmw (record { loc = 0; shift = 0; bits = 8 }) rmws.Add 2)
    (loads 4737 0x1ff 18 Log ∷ swaps 4737 0x1ff 0x101 0x1ff 19 (Exchange 0 0x101) ∷ []) 0x1ff 7

-- a narrow compare-and-swap that finds another byte is a load: as it loads the word, or as it swaps it
abbrev pub OtherByteIsLoaded : Type 0
OtherByteIsLoaded =
    Answers (requests.Cas second_byte 0x77 1) (loads 4737 0x5500 18 (Load 0 0x5500) ∷ []) 0x5500 6
    × Answers (requests.Cas second_byte 0x77 1)
    (loads 4737 0x7700 18 Log ∷ swaps 4737 0x7700 0x100 0x5500 19 (Load 0 0x5500) ∷ []) 0x5500 7
    × Answers (requests.Cas second_byte 0x77 1)
    (loads 4737 0x7755 18 Log ∷ swaps 4737 0x7755 0x155 0x7755 19 (Exchange 0 0x155) ∷ []) 0x7755 7
