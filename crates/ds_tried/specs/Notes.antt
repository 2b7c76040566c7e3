-- How the note of a stored pointer finds its block.
use Rattle.std.specs.Prelude.{◌≡◌, ℕ, List, [], ◌∷◌, ◌++◌}
use Rattle.ds_step.specs.declared.FullWhat.TheVariants.{Logs, Hash}
use Rattle.ds_step.specs.declared.Event.TheVariants.{Begin, End, Store, Assign, Block, Found, Skip, Noted, Full}
use Rattle.ds_plain.specs.declared.Stop.TheVariants as stops
use Rattle.ds_plain.specs.declared.Request.TheVariants as requests
use Rattle.ds_plain.specs.State.{Setting, Stopped}
use Rattle.ds_tried.specs.Programs.{at, main_alone, whole, Events, by, behind, Trial, trial}

-- main takes a block of two words, the first of the heap, stores its address at location 2, and notes that
abbrev pub noting : Setting
noting = main_alone (requests.Malloc 8 ∷ requests.Store (whole 2) 0x1000000 ∷ requests.Note 2 0x1000000 ∷ [])

-- it comes to the note
abbrev pub stored : Events
stored = by 0 (Begin ∷ Assign 0 0 ∷ Block 0 0x1000000 1 ∷ Store 2 0x1000000 ∷ [])

-- a note finds the live block, with its place, start and life
abbrev pub live_block_is_found : List Trial
live_block_is_found =
    trial noting stored (by 0 (Found 0 0x1000000 1 ∷ []))
    (by 0 (Skip ∷ Noted 0 1 2 ∷ Full Logs ∷ Full Hash ∷ Found 1 0x1000010 1 ∷ Found 0 0x1000010 1 ∷ [])
    ++ by 0 (Found 0 0x1000008 1 ∷ Found 0 0x1000000 0 ∷ Found 0 0x1000000 2 ∷ End ∷ []))
    ∷ []

-- behind it the note is made, of the block that was found and of the location, or a table is full
abbrev pub found_block_is_noted : List Trial
found_block_is_noted =
    trial noting (stored ++ by 0 (Found 0 0x1000000 1 ∷ [])) (by 0 (Noted 0 1 2 ∷ Full Logs ∷ Full Hash ∷ []))
    (by 0 (Noted 0 2 2 ∷ Noted 1 1 2 ∷ Noted 0 1 3 ∷ Noted 0 1 0 ∷ Skip ∷ End ∷ []))
    ∷ trial noting (stored ++ by 0 (Found 0 0x1000000 1 ∷ Noted 0 1 2 ∷ [])) (by 0 (End ∷ []))
    (by 0 (Noted 0 1 2 ∷ Found 0 0x1000000 1 ∷ Full Logs ∷ []))
    ∷ []

-- what one note found is no matter of the next
abbrev pub each_note_finds_its_own : List Trial
each_note_finds_its_own =
    trial (main_alone (requests.Malloc 8 ∷ requests.Note 2 0x1000000 ∷ requests.Note 3 0x1000000 ∷ []))
    (by 0 (Begin ∷ Assign 0 0 ∷ Block 0 0x1000000 1 ∷ Found 0 0x1000000 1 ∷ Noted 0 1 2 ∷ []))
    (by 0 (Found 0 0x1000000 1 ∷ [])) (by 0 (Noted 0 1 3 ∷ Noted 0 1 2 ∷ Full Logs ∷ Skip ∷ []))
    ∷ []

-- what is then noted
abbrev pub IsNoted : Type 0
IsNoted = (behind noting (stored ++ by 0 (Found 0 0x1000000 1 ∷ Noted 0 1 2 ∷ []))).noted
    ≡ (record { place = 0; life = 1; loc = 2; thread = 0 }) ∷ []

-- behind a full table only the end comes
abbrev pub only_end_behind_full : List Trial
only_end_behind_full =
    trial noting (stored ++ by 0 (Found 0 0x1000000 1 ∷ Full Hash ∷ [])) (by 0 (End ∷ []))
    (by 0 (Noted 0 1 2 ∷ Found 0 0x1000000 1 ∷ Full Hash ∷ Skip ∷ []))
    ∷ []

-- the stop says where, and which
abbrev pub FullStop : Type 0
FullStop = (behind noting (stored ++ by 0 (Found 0 0x1000000 1 ∷ Full Hash ∷ End ∷ []))).threads 0
    ≡ Stopped (stops.Full (at 0 2) Hash)

-- main takes the block, and notes this value
abbrev pub noting_value : ℕ → Setting
noting_value value = main_alone (requests.Malloc 8 ∷ requests.Note 2 value ∷ [])

-- it comes to the note
abbrev pub taken : Events
taken = by 0 (Begin ∷ Assign 0 0 ∷ Block 0 0x1000000 1 ∷ [])

-- a pointer to the last byte of the block finds it; one behind that skips, and so does one to a page without a class
abbrev pub pointers_into_blocks : List Trial
pointers_into_blocks =
    trial (noting_value 0x100000f) taken (by 0 (Found 0 0x1000000 1 ∷ [])) (by 0 (Skip ∷ Found 0 0x100000f 1 ∷ []))
    ∷ trial (noting_value 0x1000010) taken (by 0 (Skip ∷ []))
    (by 0 (Found 0 0x1000000 1 ∷ Found 1 0x1000010 0 ∷ Found 1 0x1000010 1 ∷ []))
    ∷ trial (main_alone (requests.Note 2 0x1000000 ∷ [])) (by 0 (Begin ∷ [])) (by 0 (Skip ∷ []))
    (by 0 (Found 0 0x1000000 0 ∷ Found 0 0x1000000 1 ∷ []))
    ∷ []
