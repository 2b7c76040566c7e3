-- The rows of a thread that starts another one.
use Rattle.std.specs.Prelude.{ℕ, ◌<◌, nat_lt, if◌then◌else◌}
use Rattle.ds_map.specs.Bounds.{Bounds}
use Rattle.ds_map.specs.Regions.{program_words}
use Rattle.ds_map.specs.Words.{word_of}
use Rattle.ds_step.specs.declared.OpKind.TheVariants.{Add}
use Rattle.ds_step.specs.declared.WordOp.{WordOp}
use Rattle.ds_step.specs.declared.Event.{Event}
use Rattle.ds_step.specs.declared.Event.TheVariants as events
use Rattle.ds_plain.specs.declared.SpawnAt.{SpawnAt}
use Rattle.ds_plain.specs.declared.SpawnAt.TheVariants.{DrawThread, StoreNumber, StoreFunction, StoreArgument, OpenThread}
use Rattle.ds_plain.specs.Operations.{store_of, swap_of}
use Rattle.ds_plain.specs.Starting.{start_word, function_word, argument_word}

-- the word that counts the numbers of threads that were given out
abbrev pub given_word : ℕ
given_word = 1

-- ROWS

abbrev pub spawn_op : Bounds → SpawnAt → WordOp
spawn_op lim (DrawThread loc function arg) = record { kind = Add; word = given_word; a = 1; b = 0 }
spawn_op lim (StoreNumber n loc function arg) = store_of (word_of lim loc) n
spawn_op lim (StoreFunction n function arg) = store_of (function_word n) function
spawn_op lim (StoreArgument n arg) = store_of (argument_word n) arg
spawn_op lim (OpenThread n) = swap_of (start_word n) 0 1

abbrev pub spawn_row : SpawnAt → ℕ
spawn_row (DrawThread loc function arg) = 5
spawn_row (StoreNumber n loc function arg) = 9
spawn_row (StoreFunction n function arg) = 6
spawn_row (StoreArgument n arg) = 7
spawn_row (OpenThread n) = 8

-- EVENTS

-- a number below 16 is that of a thread
abbrev pub thread_drawn : (function arg drawn : ℕ) → Event
thread_drawn function arg drawn = if nat_lt drawn 16 then events.Spawn drawn function arg else events.SpawnRefused

abbrev pub spawn_event : SpawnAt → (old : ℕ) → Event
spawn_event (DrawThread loc function arg) old = thread_drawn function arg old
spawn_event (StoreNumber n loc function arg) old = events.Store loc n
spawn_event (StoreFunction n function arg) old = events.Log
spawn_event (StoreArgument n arg) old = events.Log
spawn_event (OpenThread n) old = events.Log

-- WHAT COMES NEXT

-- what comes of a step of a thread that starts another one
pub data SpawnNext : Type 0 where
  -- it goes on with this row
  SpawnsOn : SpawnAt → SpawnNext
  -- it is done, and the thread is told this
  SpawnTells : (answer : ℕ) → SpawnNext

-- where no number is left the thread is told 11
abbrev pub behind_draw : (loc function arg drawn : ℕ) → SpawnNext
behind_draw loc function arg drawn =
    if nat_lt drawn 16 then SpawnsOn (StoreNumber drawn loc function arg) else SpawnTells 11

-- whether the thread was let begin, or had ended before, is not told
abbrev pub spawn_next : SpawnAt → (old : ℕ) → SpawnNext
spawn_next (DrawThread loc function arg) old = behind_draw loc function arg old
spawn_next (StoreNumber n loc function arg) old = SpawnsOn (StoreFunction n function arg)
spawn_next (StoreFunction n function arg) old = SpawnsOn (StoreArgument n arg)
spawn_next (StoreArgument n arg) old = SpawnsOn (OpenThread n)
spawn_next (OpenThread n) old = SpawnTells 0

-- WHICH POSITIONS ARE REACHED: no clause of the top call speaks of it

-- a thread that starts another one reaches this position
abbrev pub IsSpawnAt : Bounds → SpawnAt → Type 0
IsSpawnAt lim (DrawThread loc function arg) = loc < program_words lim
IsSpawnAt lim (StoreNumber n loc function arg) = (n < 16) × (loc < program_words lim)
IsSpawnAt lim (StoreFunction n function arg) = n < 16
IsSpawnAt lim (StoreArgument n arg) = n < 16
IsSpawnAt lim (OpenThread n) = n < 16
