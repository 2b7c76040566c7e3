-- How a free visits what was noted, and when it traps.
use Rattle.std.specs.Prelude.{◌≡◌, ℕ, true, List, [], ◌∷◌, ◌++◌, slice_index}
use Rattle.ds_step.specs.declared.FullWhat.TheVariants.{Logs}
use Rattle.ds_step.specs.declared.Event.{Event}
use Rattle.ds_step.specs.declared.Event.TheVariants.{Begin, Spawn, End, Load, Store, Exchange, Assign, Block, Found}
use Rattle.ds_step.specs.declared.Event.TheVariants.{Skip, Noted, BeginFree, Mark, Seen, EndFree, Trap, Full}
use Rattle.ds_plain.specs.declared.TrapKind.TheVariants.{BadFree, DoubleFree}
use Rattle.ds_plain.specs.declared.Request.{Request}
use Rattle.ds_plain.specs.declared.Request.TheVariants as requests
use Rattle.ds_plain.specs.State.{Setting, Stopped, Free, Freeing, block_in}
use Rattle.ds_plain.specs.Plain.{so_far, trap_stop}
use Rattle.ds_tried.specs.Programs.{at, running, main_alone, whole, Events, by, behind, Trial, trial}

-- the locations that the free of thread t has still to deal with
abbrev pub due : Setting → Events → (t : ℕ) → List ℕ
due setting made t = (so_far setting (behind setting made) t).due

-- what the word of a location holds behind the events
abbrev pub held : Setting → Events → (loc : ℕ) → ℕ
held setting made loc = slice_index (behind setting made).words loc

-- A FREE

-- the requests that take the first block, of two words, and store and note its address at a location
abbrev pub store_and_note : (loc value : ℕ) → List Request
store_and_note loc value = requests.Store (whole loc) value ∷ requests.Note loc value ∷ []

-- the events of these
abbrev pub stored : (loc value : ℕ) → List Event
stored loc value = Store loc value ∷ Found 0 0x1000000 1 ∷ Noted 0 1 loc ∷ []

-- main takes a block, stores a pointer into it at location 2 and one to its last byte at location 3, notes both, and
-- frees it
abbrev pub freeing : Setting
freeing = main_alone (requests.Malloc 8 ∷ store_and_note 2 0x1000000 ++ store_and_note 3 0x100000f
    ++ requests.Free 0x1000000 ∷ requests.Free 0x1000000 ∷ [])

-- it comes to the free
abbrev pub noted : Events
noted = by 0 (Begin ∷ Assign 0 0 ∷ Block 0 0x1000000 1 ∷ stored 2 0x1000000 ++ stored 3 0x100000f)

-- a free begins with the live block, in its life; before that nothing is visited, and it does not trap
abbrev pub free_begins_with_live_block : List Trial
free_begins_with_live_block =
    trial freeing noted (by 0 (BeginFree 0 1 ∷ []))
    (by 0 (BeginFree 0 0 ∷ BeginFree 0 2 ∷ BeginFree 1 0 ∷ Mark 2 ∷ Seen 2 ∷ EndFree 0 ∷ Trap ∷ End ∷ [])
    ++ by 1 (BeginFree 0 1 ∷ []))
    ∷ []

-- also where the block was given out just before
abbrev pub new_block_is_freed : List Trial
new_block_is_freed =
    trial (main_alone (requests.Malloc 8 ∷ requests.Free 0x1000000 ∷ []))
    (by 0 (Begin ∷ Assign 0 0 ∷ Block 0 0x1000000 1 ∷ [])) (by 0 (BeginFree 0 1 ∷ [])) (by 0 (Trap ∷ End ∷ []))
    ∷ []

-- It visits what was noted, and nothing else. What points into the block is marked, and not passed over. It does not
-- end before, it begins once, and no other thread makes its steps.
abbrev pub free_visits_what_was_noted : List Trial
free_visits_what_was_noted =
    trial freeing (noted ++ by 0 (BeginFree 0 1 ∷ [])) (by 0 (Mark 2 ∷ Mark 3 ∷ []))
    (by 0 (Seen 2 ∷ Seen 3 ∷ Mark 4 ∷ Seen 4 ∷ EndFree 0 ∷ EndFree 1 ∷ BeginFree 0 1 ∷ Trap ∷ End ∷ [])
    ++ by 1 (Mark 2 ∷ Seen 2 ∷ EndFree 0 ∷ []))
    ∷ trial freeing (noted ++ by 0 (BeginFree 0 1 ∷ Mark 2 ∷ [])) (by 0 (Mark 3 ∷ Seen 2 ∷ []))
    (by 0 (Mark 2 ∷ EndFree 0 ∷ []))
    ∷ []

-- once nothing is due it ends, by its own thread
abbrev pub free_ends_when_nothing_is_due : List Trial
free_ends_when_nothing_is_due =
    trial freeing (noted ++ by 0 (BeginFree 0 1 ∷ Mark 2 ∷ Mark 3 ∷ [])) (by 0 (EndFree 0 ∷ []))
    (by 0 (EndFree 1 ∷ BeginFree 0 1 ∷ Mark 3 ∷ Trap ∷ End ∷ []) ++ by 1 (EndFree 0 ∷ []))
    ∷ []

-- the whole free
abbrev pub freed : Events
freed = noted ++ by 0 (BeginFree 0 1 ∷ Mark 2 ∷ Mark 3 ∷ EndFree 0 ∷ [])

-- the words are marked, and the block is free in the same life
abbrev pub IsFreed : Type 0
IsFreed = (held freeing freed 2 ≡ 0x8000000001000000) × (held freeing freed 3 ≡ 0x800000000100000f)
    × ((behind freeing freed).blocks 0 ≡ block_in 1 Free)

-- meanwhile it is the thread's that frees it
abbrev pub IsFreeingMeanwhile : Type 0
IsFreeingMeanwhile = (behind freeing (noted ++ by 0 (BeginFree 0 1 ∷ []))).blocks 0 ≡ block_in 1 (Freeing 0)

-- what is due: all that was noted, and then what is not yet dealt with
abbrev pub IsDue : Type 0
IsDue = (due freeing noted 0 ≡ []) × (due freeing (noted ++ by 0 (BeginFree 0 1 ∷ [])) 0 ≡ 3 ∷ 2 ∷ [])
    × (due freeing (noted ++ by 0 (BeginFree 0 1 ∷ Mark 3 ∷ [])) 0 ≡ 2 ∷ [])

-- main stores another value at location 2, and a marked one at location 3, before it frees
abbrev pub overwriting : Setting
overwriting = main_alone (requests.Malloc 8 ∷ store_and_note 2 0x1000000 ++ store_and_note 3 0x1000000
    ++ requests.Store (whole 2) 0x1000010 ∷ requests.Store (whole 3) 0x8000000001000000
    ∷ requests.Free 0x1000000 ∷ [])

-- it comes to the visits
abbrev pub overwritten : Events
overwritten = by 0 (Begin ∷ Assign 0 0 ∷ Block 0 0x1000000 1 ∷ stored 2 0x1000000 ++ stored 3 0x1000000
    ++ Store 2 0x1000010 ∷ Store 3 0x8000000001000000 ∷ BeginFree 0 1 ∷ [])

-- a word that points elsewhere is seen and not marked, and so is one that is marked
abbrev pub other_values_are_seen : List Trial
other_values_are_seen =
    trial overwriting overwritten (by 0 (Seen 2 ∷ Seen 3 ∷ [])) (by 0 (Mark 2 ∷ Mark 3 ∷ EndFree 0 ∷ []))
    ∷ trial overwriting (overwritten ++ by 0 (Seen 2 ∷ Seen 3 ∷ [])) (by 0 (EndFree 0 ∷ [])) (by 0 (Mark 2 ∷ []))
    ∷ []

-- they stay as they are
abbrev pub SeenWordsStay : Type 0
SeenWordsStay =
    (held overwriting (overwritten ++ by 0 (Seen 2 ∷ Seen 3 ∷ [])) 2 ≡ 0x1000010)
    × (held overwriting (overwritten ++ by 0 (Seen 2 ∷ Seen 3 ∷ [])) 3 ≡ 0x8000000001000000)

-- TRAPS

-- a second free of the block traps, and does nothing else
abbrev pub second_free_traps : List Trial
second_free_traps =
    trial freeing freed (by 0 (Trap ∷ []))
    (by 0 (BeginFree 0 1 ∷ BeginFree 0 2 ∷ Mark 2 ∷ Seen 2 ∷ EndFree 0 ∷ End ∷ []))
    ∷ trial freeing (freed ++ by 0 (Trap ∷ [])) (by 0 (End ∷ [])) (by 0 (Trap ∷ BeginFree 0 1 ∷ []))
    ∷ []

-- its stop has the address and the block's word: life 1, free
abbrev pub DoubleFreeStop : Type 0
DoubleFreeStop =
    (behind freeing (freed ++ by 0 (Trap ∷ End ∷ []))).threads 0 ≡ Stopped (trap_stop (at 0 6) (DoubleFree 0x1000000 4))

-- main takes a block for so many bytes, and frees this address
abbrev pub freeing_at : (bytes address : ℕ) → Setting
freeing_at bytes address = main_alone (requests.Malloc bytes ∷ requests.Free address ∷ [])

-- it comes to the free: the page has blocks of this class
abbrev pub first_taken : (class : ℕ) → Events
first_taken class = by 0 (Begin ∷ Assign 0 class ∷ Block 0 0x1000000 1 ∷ [])

-- to free inside of a block, in a page without a class or behind the last block of a page traps
abbrev pub bad_free_traps : List Trial
bad_free_traps =
    trial (freeing_at 8 0x1000008) (first_taken 0) (by 0 (Trap ∷ [])) (by 0 (BeginFree 0 1 ∷ End ∷ []))
    ∷ trial (main_alone (requests.Free 0x1000000 ∷ [])) (by 0 (Begin ∷ [])) (by 0 (Trap ∷ []))
    (by 0 (BeginFree 0 0 ∷ BeginFree 0 1 ∷ []))
    ∷ trial (freeing_at 95 0x1000fc0) (first_taken 4) (by 0 (Trap ∷ [])) (by 0 (BeginFree 42 0 ∷ []))
    ∷ []

-- the stop has the address
abbrev pub BadFreeStop : Type 0
BadFreeStop = ((behind (freeing_at 8 0x1000008) (first_taken 0 ++ by 0 (Trap ∷ End ∷ []))).threads 0
    ≡ Stopped (trap_stop (at 0 1) (BadFree 0x1000008)))
    × ((behind (freeing_at 95 0x1000fc0) (first_taken 4 ++ by 0 (Trap ∷ End ∷ []))).threads 0
    ≡ Stopped (trap_stop (at 0 1) (BadFree 0x1000fc0)))

-- to free a block that was never given out is a double free, of the word 0
abbrev pub free_of_no_block_traps : List Trial
free_of_no_block_traps =
    trial (freeing_at 8 0x1000010) (first_taken 0) (by 0 (Trap ∷ [])) (by 0 (BeginFree 1 0 ∷ BeginFree 1 1 ∷ []))
    ∷ []

abbrev pub NeverGivenStop : Type 0
NeverGivenStop = (behind (freeing_at 8 0x1000010) (first_taken 0 ++ by 0 (Trap ∷ End ∷ []))).threads 0
    ≡ Stopped (trap_stop (at 0 1) (DoubleFree 0x1000010 0))

-- LIVES

-- main takes a block, stores and notes its address at location 2, frees it, takes it again, stores its address there
-- with no note, and frees it
abbrev pub freeing_twice : Setting
freeing_twice = main_alone (requests.Malloc 8 ∷ store_and_note 2 0x1000000 ++ requests.Free 0x1000000
    ∷ requests.Malloc 8 ∷ requests.Store (whole 2) 0x1000000 ∷ requests.Free 0x1000000 ∷ [])

-- it comes to the second malloc
abbrev pub freed_once : Events
freed_once = by 0 (Begin ∷ Assign 0 0 ∷ Block 0 0x1000000 1 ∷ stored 2 0x1000000
    ++ BeginFree 0 1 ∷ Mark 2 ∷ EndFree 0 ∷ [])

-- a block that is given out again has its next life
abbrev pub next_life_is_given : List Trial
next_life_is_given =
    trial freeing_twice freed_once (by 0 (Block 0 0x1000000 2 ∷ Block 1 0x1000010 1 ∷ []))
    (by 0 (Block 0 0x1000000 1 ∷ Block 0 0x1000000 3 ∷ Block 1 0x1000010 2 ∷ []))
    ∷ []

-- it begins its second free
abbrev pub freeing_again : Events
freeing_again = freed_once ++ by 0 (Block 0 0x1000000 2 ∷ Store 2 0x1000000 ∷ BeginFree 0 2 ∷ [])

-- what was noted in a former life is not due, and not visited
abbrev pub former_lives_owe_nothing : List Trial
former_lives_owe_nothing =
    trial freeing_twice (freed_once ++ by 0 (Block 0 0x1000000 2 ∷ Store 2 0x1000000 ∷ [])) (by 0 (BeginFree 0 2 ∷ []))
    (by 0 (BeginFree 0 1 ∷ Trap ∷ []))
    ∷ trial freeing_twice freeing_again (by 0 (EndFree 0 ∷ [])) (by 0 (Mark 2 ∷ Seen 2 ∷ End ∷ []))
    ∷ []

-- TWO THREADS

-- main takes a block, stores and notes its address at locations 2 and 3, starts function 1, and frees the block
abbrev pub freeing_beside : List Request → Setting
freeing_beside others = running
    ((requests.Malloc 8 ∷ store_and_note 2 0x1000000 ++ store_and_note 3 0x1000000
    ++ requests.Spawn 5 1 0 ∷ requests.Free 0x1000000 ∷ requests.Malloc 8 ∷ []) ∷ others ∷ [])

-- main comes to the free, and the other thread begins
abbrev pub beside : Events
beside = by 0 (Begin ∷ Assign 0 0 ∷ Block 0 0x1000000 1 ∷ stored 2 0x1000000 ++ stored 3 0x1000000
    ++ Spawn 1 1 0 ∷ Store 5 1 ∷ []) ++ by 1 (Begin ∷ [])

-- the other thread stores the block's address at location 2 once more
abbrev pub storing_beside : Setting
storing_beside = freeing_beside (requests.Store (whole 2) 0x1000000 ∷ [])

-- the free has begun, and then the other thread stores
abbrev pub stored_meanwhile : Events
stored_meanwhile = beside ++ by 0 (BeginFree 0 1 ∷ []) ++ by 1 (Store 2 0x1000000 ∷ [])

-- a store strikes its location from what is due to another thread's free, also one of the same value
abbrev pub store_is_no_longer_due : List Trial
store_is_no_longer_due =
    trial storing_beside (stored_meanwhile ++ by 0 (Mark 3 ∷ [])) (by 0 (EndFree 0 ∷ Mark 2 ∷ [])) (by 0 (Seen 2 ∷ []))
    ∷ trial storing_beside (beside ++ by 1 (Store 2 0x1000000 ∷ []) ++ by 0 (BeginFree 0 1 ∷ Mark 3 ∷ []))
    (by 0 (Mark 2 ∷ [])) (by 0 (EndFree 0 ∷ []))
    ∷ []

-- what is due before the store, behind it, and where it came before the free began
abbrev pub StoreStrikes : Type 0
StoreStrikes = (due storing_beside (beside ++ by 0 (BeginFree 0 1 ∷ [])) 0 ≡ 3 ∷ 2 ∷ [])
    × (due storing_beside stored_meanwhile 0 ≡ 3 ∷ [])
    × (due storing_beside (beside ++ by 1 (Store 2 0x1000000 ∷ []) ++ by 0 (BeginFree 0 1 ∷ [])) 0 ≡ 3 ∷ 2 ∷ [])

-- an exchange strikes its location too
abbrev pub ExchangeStrikes : Type 0
ExchangeStrikes = due (freeing_beside (requests.Cas (whole 3) 0x1000000 0x1000008 ∷ []))
    (beside ++ by 0 (BeginFree 0 1 ∷ []) ++ by 1 (Exchange 3 0x1000008 ∷ [])) 0 ≡ 2 ∷ []

-- and a load does not
abbrev pub LoadLeaves : Type 0
LoadLeaves = due (freeing_beside (requests.Load (whole 3) ∷ []))
    (beside ++ by 0 (BeginFree 0 1 ∷ []) ++ by 1 (Load 3 0x1000000 ∷ [])) 0 ≡ 3 ∷ 2 ∷ []

-- the other thread frees the same block
abbrev pub freeing_both : Setting
freeing_both = freeing_beside (requests.Free 0x1000000 ∷ [])

-- of two frees of a block one begins, and the other traps, also once the block is free; it makes none of the first's
-- steps
abbrev pub one_of_two_frees : List Trial
one_of_two_frees =
    trial freeing_both beside (by 0 (BeginFree 0 1 ∷ []) ++ by 1 (BeginFree 0 1 ∷ []))
    (by 0 (Trap ∷ []) ++ by 1 (Trap ∷ Mark 2 ∷ EndFree 0 ∷ []))
    ∷ trial freeing_both (beside ++ by 1 (BeginFree 0 1 ∷ [])) (by 0 (Trap ∷ []) ++ by 1 (Mark 2 ∷ Mark 3 ∷ []))
    (by 0 (BeginFree 0 1 ∷ Mark 2 ∷ Seen 2 ∷ EndFree 0 ∷ []) ++ by 1 (BeginFree 0 1 ∷ Trap ∷ []))
    ∷ trial freeing_both (beside ++ by 1 (BeginFree 0 1 ∷ Mark 2 ∷ Mark 3 ∷ [])) (by 0 (Trap ∷ []) ++ by 1 (EndFree 0 ∷ []))
    (by 0 (EndFree 0 ∷ []))
    ∷ trial freeing_both (beside ++ by 1 (BeginFree 0 1 ∷ Mark 2 ∷ Mark 3 ∷ EndFree 0 ∷ [])) (by 0 (Trap ∷ []))
    (by 0 (BeginFree 0 1 ∷ []) ++ by 1 (Trap ∷ []))
    ∷ []

-- the block's word as the trap sees it: life 1, being freed
abbrev pub SeenWhileFreeing : Type 0
SeenWhileFreeing = (behind freeing_both (beside ++ by 1 (BeginFree 0 1 ∷ []) ++ by 0 (Trap ∷ End ∷ []))).threads 0
    ≡ Stopped (trap_stop (at 0 6) (DoubleFree 0x1000000 6))

-- A free that was asked for in a former life traps, though the block is live again, or frees it: by when it looked.
-- One that is asked for in the present life does not trap.
abbrev pub free_of_former_life : List Trial
free_of_former_life =
    trial freeing_both
    (beside ++ by 0 (BeginFree 0 1 ∷ Mark 2 ∷ Mark 3 ∷ EndFree 0 ∷ Block 0 0x1000000 2 ∷ []))
    (by 1 (Trap ∷ BeginFree 0 2 ∷ [])) (by 1 (BeginFree 0 1 ∷ Mark 2 ∷ EndFree 0 ∷ []))
    ∷ []

-- the other thread notes a pointer to the block at location 6
abbrev pub noting_beside : Setting
noting_beside = freeing_beside (requests.Note 6 0x1000000 ∷ [])

-- a block that is being freed is not found
abbrev pub freed_block_is_not_found : List Trial
freed_block_is_not_found =
    trial noting_beside (beside ++ by 0 (BeginFree 0 1 ∷ [])) (by 1 (Skip ∷ []))
    (by 1 (Found 0 0x1000000 1 ∷ Noted 0 1 6 ∷ Full Logs ∷ []))
    ∷ trial noting_beside (beside ++ by 0 (BeginFree 0 1 ∷ Mark 2 ∷ Mark 3 ∷ EndFree 0 ∷ [])) (by 1 (Skip ∷ []))
    (by 1 (Found 0 0x1000000 1 ∷ []))
    ∷ []

-- what is found before a free begins and noted behind that is noted, and not due; the free may visit it
abbrev pub noted_meanwhile_is_not_due : List Trial
noted_meanwhile_is_not_due =
    trial noting_beside
    (beside ++ by 1 (Found 0 0x1000000 1 ∷ []) ++ by 0 (BeginFree 0 1 ∷ Mark 2 ∷ Mark 3 ∷ []))
    (by 1 (Noted 0 1 6 ∷ []) ++ by 0 (EndFree 0 ∷ [])) (by 0 (Seen 6 ∷ Mark 6 ∷ []))
    ∷ trial noting_beside
    (beside ++ by 1 (Found 0 0x1000000 1 ∷ []) ++ by 0 (BeginFree 0 1 ∷ Mark 2 ∷ Mark 3 ∷ []) ++ by 1 (Noted 0 1 6 ∷ []))
    (by 0 (EndFree 0 ∷ Seen 6 ∷ [])) (by 0 (Mark 6 ∷ []))
    ∷ trial noting_beside (beside ++ by 1 (Found 0 0x1000000 1 ∷ Noted 0 1 6 ∷ []) ++ by 0 (BeginFree 0 1 ∷ Mark 2 ∷ Mark 3 ∷ []))
    (by 0 (Seen 6 ∷ [])) (by 0 (EndFree 0 ∷ []))
    ∷ []

-- ONE LOCATION, TWO BLOCKS

-- main takes two blocks, notes the first at location 2 and then the second, and starts function 1; main frees the first
-- block, and function 1 the second
abbrev pub freeing_two : Setting
freeing_two = running
    ((requests.Malloc 8 ∷ requests.Malloc 8 ∷ store_and_note 2 0x1000000 ++ store_and_note 2 0x1000010
    ++ requests.Spawn 5 1 0 ∷ requests.Free 0x1000000 ∷ []) ∷ (requests.Free 0x1000010 ∷ []) ∷ [])

-- both frees have begun
abbrev pub two_begun : Events
two_begun = by 0 (Begin ∷ Assign 0 0 ∷ Block 0 0x1000000 1 ∷ Block 1 0x1000010 1 ∷ stored 2 0x1000000
    ++ Store 2 0x1000010 ∷ Found 1 0x1000010 1 ∷ Noted 1 1 2 ∷ Spawn 1 1 0 ∷ Store 5 1 ∷ [])
    ++ by 1 (Begin ∷ BeginFree 1 1 ∷ []) ++ by 0 (BeginFree 0 1 ∷ [])

-- each free looks whether the word points into its own block
abbrev pub each_free_has_its_block : List Trial
each_free_has_its_block =
    trial freeing_two two_begun (by 0 (Seen 2 ∷ []) ++ by 1 (Mark 2 ∷ []))
    (by 0 (Mark 2 ∷ EndFree 0 ∷ EndFree 1 ∷ []) ++ by 1 (Seen 2 ∷ EndFree 1 ∷ EndFree 0 ∷ []))
    ∷ trial freeing_two (two_begun ++ by 0 (Seen 2 ∷ [])) (by 0 (EndFree 0 ∷ []) ++ by 1 (Mark 2 ∷ [])) (by 1 (EndFree 1 ∷ []))
    ∷ trial freeing_two (two_begun ++ by 1 (Mark 2 ∷ [])) (by 0 (EndFree 0 ∷ []) ++ by 1 (EndFree 1 ∷ [])) []
    ∷ []

-- to see a word strikes it from the own free alone, and a mark from every free
abbrev pub SeenIsOwn : Type 0
SeenIsOwn = (due freeing_two two_begun 0 ≡ 2 ∷ []) × (due freeing_two two_begun 1 ≡ 2 ∷ [])
    × (due freeing_two (two_begun ++ by 0 (Seen 2 ∷ [])) 0 ≡ [])
    × (due freeing_two (two_begun ++ by 0 (Seen 2 ∷ [])) 1 ≡ 2 ∷ [])
    × (due freeing_two (two_begun ++ by 1 (Mark 2 ∷ [])) 0 ≡ [])

-- FREES AT THEIR WORD

-- the same run, but frees are taken at their word
abbrev pub weakly : Setting → Setting
weakly setting = record setting { weak = true }

-- Frees that are taken at their word may visit what was not noted and end early. A mark still only changes what points
-- into the block, and a free still begins before it ends.
abbrev pub frees_at_their_word : List Trial
frees_at_their_word =
    trial (weakly freeing) (noted ++ by 0 (BeginFree 0 1 ∷ [])) (by 0 (Mark 2 ∷ Seen 4 ∷ EndFree 0 ∷ []))
    (by 0 (Mark 4 ∷ Seen 2 ∷ EndFree 1 ∷ End ∷ []))
    ∷ trial (weakly freeing) noted (by 0 (BeginFree 0 1 ∷ [])) (by 0 (Mark 2 ∷ Seen 4 ∷ EndFree 0 ∷ Trap ∷ []))
    ∷ []
