-- The rows of the step table for notes, tried on main: each step with its word, its numbers, its answer, its row and
-- what it means, as they are reckoned by hand. There is one page: its word is 384, those of its blocks begin at 385,
-- the home words of place 0 at 641 and those of place 1 at 657. There are two logs, with their headers at 4737 and
-- 4753.
use Rattle.std.specs.Prelude.{◌≡◌, ℕ, List, [], ◌∷◌, ◌++◌, replicate, None}
use Rattle.ds_map.specs.Bounds.{Bounds, bounds}
use Rattle.ds_step.specs.declared.OpKind.TheVariants as kinds
use Rattle.ds_step.specs.declared.FullWhat.{FullWhat}
use Rattle.ds_step.specs.declared.FullWhat.TheVariants.{Logs, Hash}
use Rattle.ds_step.specs.declared.Event.{Event}
use Rattle.ds_step.specs.declared.Event.TheVariants.{Assign, Block, BeginFree, EndFree, Log}
use Rattle.ds_step.specs.declared.Event.TheVariants.{Skip, Found, Noted, Full}
use Rattle.ds_step.specs.declared.Step.{Step}
use Rattle.ds_plain.specs.declared.Stop.{Stop}
use Rattle.ds_plain.specs.declared.Stop.TheVariants as stops
use Rattle.ds_plain.specs.declared.Request.TheVariants as requests
use Rattle.ds_plain.specs.Behaviour.{Asks, Behaviour}
use Rattle.ds_plain.specs.Thread.{first_thread, Follows, thread_after, stop_of}
use Rattle.ds_tried.specs.Programs.{at}
use Rattle.ds_tried.specs.Rows.{main_with, made, loads, swaps, stores, begins, ends}

abbrev pub two_logs : Bounds
two_logs = bounds 1 100 2 0

-- The main that behaves so makes these steps; it then has this stop, and has spent so many units.
pub record IsNotedSo (behaviour : Behaviour) (steps : List Step) (stop : Stop) (units : ℕ) : Type 0 where
  pub follows : Follows (main_with behaviour) two_logs 0 (first_thread two_logs) steps
  pub stops : stop_of (thread_after (main_with behaviour) two_logs 0 (first_thread two_logs) steps) ≡ stop
  pub spends : (thread_after (main_with behaviour) two_logs 0 (first_thread two_logs) steps).units ≡ units

-- a log is drawn
abbrev pub draws : (old : ℕ) → Event → Step
draws old event = made kinds.Add 3 1 0 old 27 event

-- TWO LIVES OF A BLOCK

-- main asks for a block that fills its page, notes its address and then one inside, frees it, and does so again, with
-- one note
abbrev pub notes_two_lives : Behaviour
notes_two_lives [] = Asks 1 (at 0 0) (requests.Malloc 4000)
notes_two_lives (a ∷ []) = Asks 1 (at 0 1) (requests.Note 0 a)
notes_two_lives (a ∷ b ∷ []) = Asks 1 (at 0 2) (requests.Note 300 0x1000fff)
notes_two_lives (a ∷ b ∷ c ∷ []) = Asks 1 (at 0 3) (requests.Free a)
notes_two_lives (a ∷ b ∷ c ∷ d ∷ []) = Asks 1 (at 0 4) (requests.Malloc 4000)
notes_two_lives (a ∷ b ∷ c ∷ d ∷ e ∷ []) = Asks 1 (at 0 5) (requests.Note 1 e)
notes_two_lives (a ∷ b ∷ c ∷ d ∷ e ∷ f ∷ answers) = Asks 1 (at 0 6) (requests.Stop (stops.Returned None))

-- The thread has no log for the place, and draws the first: its header is 2^32 for life 1, its home word 1, its first
-- entry 2^48 for location 0 of group 0; then one entry is used, which is 2^24 more.
abbrev pub notes_first : List Step
notes_first =
    loads 384 15 24 Log
    ∷ loads 385 5 25 (Found 0 0x1000000 1)
    ∷ loads 641 0 26 Log
    ∷ draws 0 Log
    ∷ stores 4737 4294967296 28 Log
    ∷ stores 641 1 29 Log
    ∷ stores 4739 281474976710656 38 Log
    ∷ stores 4737 4311744512 39 (Noted 0 1 0)
    ∷ []

-- location 300 has offset 44 in group 1
abbrev pub notes_second : List Step
notes_second =
    loads 384 15 24 Log
    ∷ loads 385 5 25 (Found 0 0x1000000 1)
    ∷ loads 641 1 26 Log
    ∷ loads 4737 4311744512 30 Log
    ∷ stores 4740 281474993487916 38 Log
    ∷ stores 4737 4328521728 39 (Noted 0 1 300)
    ∷ []

-- in life 2 the log is begun anew
abbrev pub notes_next_life : List Step
notes_next_life =
    loads 384 15 24 Log
    ∷ loads 385 9 25 (Found 0 0x1000000 2)
    ∷ loads 641 1 26 Log
    ∷ loads 4737 4328521728 30 Log
    ∷ stores 4737 8589934592 31 Log
    ∷ stores 4739 281474976710657 38 Log
    ∷ stores 4737 8606711808 39 (Noted 0 2 1)
    ∷ []

abbrev pub two_lives : List Step
two_lives =
    (loads 384 0 20 Log ∷ swaps 384 0 15 0 21 (Assign 0 14) ∷ loads 385 0 22 Log
    ∷ swaps 385 0 5 0 23 (Block 0 0x1000000 1) ∷ [])
    ++ notes_first ++ notes_second
    ++ (loads 384 15 61 Log ∷ loads 385 5 62 Log ∷ swaps 385 5 6 5 63 (BeginFree 0 1) ∷ stores 385 4 74 (EndFree 0)
    ∷ loads 384 15 20 Log ∷ loads 385 4 22 Log ∷ swaps 385 4 9 4 23 (Block 0 0x1000000 2) ∷ [])
    ++ notes_next_life

-- 1 for the load of the start word; 5 and 4 for the mallocs, 9, 7 and 8 for the notes, 5 for the free, and 1
abbrev pub TwoLivesAreNoted : Type 0
TwoLivesAreNoted = IsNotedSo notes_two_lives (begins ∷ two_lives ++ (ends ∷ [])) (stops.Returned None) 40

-- NOTES THAT SKIP

-- main notes a value at once, and returns
abbrev pub notes_at : (value : ℕ) → Behaviour
notes_at value [] = Asks 1 (at 0 0) (requests.Note 0 value)
notes_at value (noted ∷ answers) = Asks 1 (at 0 1) (requests.Stop (stops.Returned None))

abbrev pub IsMadeBy : (value : ℕ) → List Step → (units : ℕ) → Type 0
IsMadeBy value steps units = IsNotedSo (notes_at value) (begins ∷ steps ++ (ends ∷ [])) (stops.Returned None) units

-- a page without a class has no block, nor has the end of a page of 85 blocks of 48 bytes
abbrev pub NoBlockIsSkipped : Type 0
NoBlockIsSkipped =
    IsMadeBy 0x1000000 (loads 384 0 24 Skip ∷ []) 4
    × IsMadeBy 0x1000ff0 (loads 384 3 24 Skip ∷ []) 4

-- a block that is free, or is being freed, is not noted
abbrev pub NoLifeIsSkipped : Type 0
NoLifeIsSkipped =
    IsMadeBy 0x1000018 (loads 384 1 24 Log ∷ loads 386 4 25 Skip ∷ []) 5
    × IsMadeBy 0x1000018 (loads 384 1 24 Log ∷ loads 386 6 25 Skip ∷ []) 5
    × IsMadeBy 0x1000018 (loads 384 1 24 Log ∷ loads 386 0 25 Skip ∷ []) 5

-- What is no word of a page or a block, no home word or no header means nothing, and is asked again: a log of number
-- 2, 15 used entries, a hash chunk.
abbrev pub asks_again : List Step
asks_again =
    loads 384 16 24 Log
    ∷ loads 384 1 24 Log
    ∷ loads 386 7 25 Log
    ∷ loads 386 5 25 (Found 1 0x1000010 1)
    ∷ loads 657 3 26 Log
    ∷ loads 657 2 26 Log
    ∷ loads 4753 4546625536 30 Log
    ∷ loads 4753 4294967297 30 Log
    ∷ loads 4753 4513071104 30 Log
    ∷ stores 4768 281474976710656 38 Log
    ∷ stores 4753 4529848320 39 (Noted 1 1 0)
    ∷ []

abbrev pub StrangeLogsAreAskedAgain : Type 0
StrangeLogsAreAskedAgain = IsMadeBy 0x1000018 asks_again 14

-- FULL TABLES

abbrev pub IsFullSo : List Step → FullWhat → Type 0
IsFullSo steps what =
    IsNotedSo (notes_at 0x1000018)
    (begins ∷ loads 384 1 24 Log ∷ loads 386 5 25 (Found 1 0x1000010 1) ∷ steps ++ (ends ∷ []))
    (stops.Full (at 0 0) what) 6

-- both logs were drawn; or all 14 entries are used for this life
abbrev pub FullTablesStop : Type 0
FullTablesStop =
    IsFullSo (loads 657 0 26 Log ∷ draws 2 (Full Logs) ∷ []) Logs
    × IsFullSo (loads 657 1 26 Log ∷ loads 4737 4529848320 30 (Full Hash) ∷ []) Hash
