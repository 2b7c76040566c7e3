-- A recorded thread: where the steps of its trace leave it, and which trace follows the step table.
use Rattle.std.specs.Prelude.{◌≡◌, ℕ, ◌+◌, Bool, true, false, nat_le, nat_lt, if◌then◌else◌, List, [], ◌∷◌, replicate}
use Rattle.std.specs.Prelude.{slice_set}
use Rattle.ds_map.specs.Bounds.{Bounds}
use Rattle.ds_map.specs.Blocks.{block_start}
use Rattle.ds_step.specs.declared.FreeTrap.{FreeTrap}
use Rattle.ds_step.specs.declared.FreeTrap.TheVariants as traps
use Rattle.ds_step.specs.declared.Step.{Step}
use Rattle.ds_plain.specs.declared.Stop.{Stop}
use Rattle.ds_plain.specs.declared.Stop.TheVariants.{Idle, Running, Full, Fuel}
use Rattle.ds_plain.specs.declared.StartAt.TheVariants.{LoadStart}
use Rattle.ds_plain.specs.declared.TrapKind.{TrapKind}
use Rattle.ds_plain.specs.declared.TrapKind.TheVariants.{BadFree, DoubleFree, BadJoin}
use Rattle.ds_plain.specs.declared.FreeAt.{FreeAt}
use Rattle.ds_plain.specs.declared.FreeAt.TheVariants as frees
use Rattle.ds_plain.specs.declared.Position.{Position}
use Rattle.ds_plain.specs.declared.Position.TheVariants.{Start, Access, Malloc, Note, Free, Spawn, Join}
use Rattle.ds_plain.specs.declared.Position.TheVariants.{DrawPrint, StoreEnded, Over, NoRow}
use Rattle.ds_plain.specs.Behaviour.{Asked, Asks, Silent, place_in_text, Behaviour, told, silent, Program}
use Rattle.ds_plain.specs.Plain.{trap_stop}
use Rattle.ds_plain.specs.Starting.{StartNext, StartsOn, Begins, start_next}
use Rattle.ds_plain.specs.Spawning.{SpawnNext, SpawnsOn, SpawnTells, spawn_next}
use Rattle.ds_plain.specs.Joining.{JoinNext, JoinsOn, Joined, FailsJoin, join_next}
use Rattle.ds_plain.specs.Accessing.{AccessNext, AccessesOn, Tells, access_next}
use Rattle.ds_plain.specs.Searching.{AllocNext, Looks, Takes, TakesNone, place_behind, alloc_next}
use Rattle.ds_plain.specs.Noting.{NoteNext, NotesOn, HasNoted, HasSkipped, FailsNote, note_next}
use Rattle.ds_plain.specs.Freeing.{FreeNext, FreesOn, Freed, FailsFree, free_next}
use Rattle.ds_plain.specs.Table.{step_at, position_of, is_over}

pub record Thread : Type 0 where
  -- how it behaves from its present request on; before it begins nothing is known of that
  pub rest : Behaviour
  pub position : Position
  -- what it has spent
  pub units : ℕ
  pub began : Bool
  -- the places at which it begins to look for a block, by size class
  pub cursors : List ℕ

-- at first a thread looks for blocks of each class from the first place on
abbrev pub first_cursors : List ℕ
first_cursors = replicate 15 0

-- A thread that has spent these units stands at this position where its fuel pays for the step there, and else at its
-- last step.
abbrev pub paying : Bounds → (cursors : List ℕ) → Behaviour → ℕ → Bool → Position → Thread
paying lim cursors rest units began position =
    if nat_lt units lim.fuel
    then record { rest = rest; position = position; units = units; began = began; cursors = cursors }
    else record { rest = rest; position = StoreEnded Fuel; units = units; began = began; cursors = cursors }

-- A thread that has spent these units and comes to this position. The last step costs nothing.
abbrev pub standing : Bounds → (cursors : List ℕ) → Behaviour → ℕ → Bool → Position → Thread
standing lim cursors rest units began (Start at) = paying lim cursors rest units began (Start at)
standing lim cursors rest units began (Access at) = paying lim cursors rest units began (Access at)
standing lim cursors rest units began (Malloc at) = paying lim cursors rest units began (Malloc at)
standing lim cursors rest units began (Note at) = paying lim cursors rest units began (Note at)
standing lim cursors rest units began (Free at) = paying lim cursors rest units began (Free at)
standing lim cursors rest units began (Spawn at) = paying lim cursors rest units began (Spawn at)
standing lim cursors rest units began (Join at) = paying lim cursors rest units began (Join at)
standing lim cursors rest units began (DrawPrint value) = paying lim cursors rest units began (DrawPrint value)
standing lim cursors rest units began (StoreEnded stop) =
    record { rest = rest; position = StoreEnded stop; units = units; began = began; cursors = cursors }
standing lim cursors rest units began (Over stop) =
    record { rest = rest; position = Over stop; units = units; began = began; cursors = cursors }
standing lim cursors rest units began NoRow = paying lim cursors rest units began NoRow

-- A thread that runs begins its local instructions, each for one unit, and comes to its request; or its fuel runs out
-- before.
abbrev pub arriving : Bounds → (cursors : List ℕ) → Behaviour → ℕ → Asked → Thread
arriving lim cursors rest units (Asks begun place request) =
    if nat_le (units + begun) lim.fuel
    then standing lim cursors rest (units + begun) true (position_of lim cursors request)
    else record { rest = rest; position = StoreEnded Fuel; units = lim.fuel; began = true; cursors = cursors }
arriving lim cursors rest units Silent =
    record { rest = rest; position = StoreEnded Fuel; units = lim.fuel; began = true; cursors = cursors }

-- a thread that has spent these units goes on so
abbrev pub going_on : Bounds → (cursors : List ℕ) → ℕ → Behaviour → Thread
going_on lim cursors units rest = arriving lim cursors rest units (rest [])

-- the thread after the step at a position, by its answer; each step but the last costs one unit

-- a thread that has not begun goes on, or begins its function
abbrev pub moved_from_start : Program → Bounds → (t : ℕ) → Thread → StartNext → Thread
moved_from_start program lim t a (StartsOn at) = standing lim a.cursors a.rest (a.units + 1) a.began (Start at)
moved_from_start program lim t a (Begins function argument) =
    going_on lim a.cursors (a.units + 1) (program.behaves t function argument)

-- an access goes on, or the thread is told an answer
abbrev pub moved_from_access : Bounds → Thread → AccessNext → Thread
moved_from_access lim a (AccessesOn at) = standing lim a.cursors a.rest (a.units + 1) a.began (Access at)
moved_from_access lim a (Tells answer) = going_on lim a.cursors (a.units + 1) (told a.rest answer)

-- A malloc is told where its block starts, or 0. The next one of its class begins to look behind that block.
abbrev pub moved_from_malloc : Bounds → Thread → AllocNext → Thread
moved_from_malloc lim a (Looks at) = standing lim a.cursors a.rest (a.units + 1) a.began (Malloc at)
moved_from_malloc lim a (Takes class place life) =
    going_on lim (slice_set a.cursors class (place_behind lim class place)) (a.units + 1)
    (told a.rest (block_start place class))
moved_from_malloc lim a TakesNone = going_on lim a.cursors (a.units + 1) (told a.rest 0)

-- a note goes on, is done, or stops its thread by a full table
abbrev pub moved_from_note : Bounds → Thread → NoteNext → Thread
moved_from_note lim a (NotesOn at) = standing lim a.cursors a.rest (a.units + 1) a.began (Note at)
moved_from_note lim a HasNoted = going_on lim a.cursors (a.units + 1) (told a.rest 0)
moved_from_note lim a HasSkipped = going_on lim a.cursors (a.units + 1) (told a.rest 0)
moved_from_note lim a (FailsNote what) =
    standing lim a.cursors a.rest (a.units + 1) a.began (StoreEnded (Full (place_in_text (a.rest [])) what))

-- the address that a free is asked for; it is not needed any more once the block is taken
abbrev pub freed_address : FreeAt → ℕ
freed_address (frees.LoadPage address) = address
freed_address (frees.LoadBlock address place) = address
freed_address (frees.SwapBlock address place life) = address
freed_address (frees.StoreFree place life) = 0

-- why the free of an address traps
abbrev pub trap_kind : (address : ℕ) → FreeTrap → TrapKind
trap_kind address traps.BadFree = BadFree address
trap_kind address (traps.DoubleFree seen) = DoubleFree address seen

-- a free of this address goes on, is done, or stops its thread by a trap
abbrev pub moved_from_free : Bounds → Thread → (address : ℕ) → FreeNext → Thread
moved_from_free lim a address (FreesOn at) = standing lim a.cursors a.rest (a.units + 1) a.began (Free at)
moved_from_free lim a address Freed = going_on lim a.cursors (a.units + 1) (told a.rest 0)
moved_from_free lim a address (FailsFree trap) =
    standing lim a.cursors a.rest (a.units + 1) a.began
    (StoreEnded (trap_stop (place_in_text (a.rest [])) (trap_kind address trap)))

-- a thread that starts another one goes on, or is told an answer
abbrev pub moved_from_spawn : Bounds → Thread → SpawnNext → Thread
moved_from_spawn lim a (SpawnsOn at) = standing lim a.cursors a.rest (a.units + 1) a.began (Spawn at)
moved_from_spawn lim a (SpawnTells answer) = going_on lim a.cursors (a.units + 1) (told a.rest answer)

-- a thread that waits for another one goes on, is done, or stops by a trap
abbrev pub moved_from_join : Bounds → Thread → JoinNext → Thread
moved_from_join lim a (JoinsOn at) = standing lim a.cursors a.rest (a.units + 1) a.began (Join at)
moved_from_join lim a Joined = going_on lim a.cursors (a.units + 1) (told a.rest 0)
moved_from_join lim a (FailsJoin number) =
    standing lim a.cursors a.rest (a.units + 1) a.began
    (StoreEnded (trap_stop (place_in_text (a.rest [])) (BadJoin number)))

abbrev pub moved_from : Program → Bounds → ℕ → Thread → Position → ℕ → Thread
moved_from program lim t a (Start at) old = moved_from_start program lim t a (start_next program t at old)
moved_from program lim t a (Access at) old = moved_from_access lim a (access_next at old)
moved_from program lim t a (Malloc at) old = moved_from_malloc lim a (alloc_next lim at old)
moved_from program lim t a (Note at) old = moved_from_note lim a (note_next lim at old)
moved_from program lim t a (Free at) old = moved_from_free lim a (freed_address at) (free_next at old)
moved_from program lim t a (Spawn at) old = moved_from_spawn lim a (spawn_next at old)
moved_from program lim t a (Join at) old = moved_from_join lim a (join_next t at old)
moved_from program lim t a (DrawPrint value) old = going_on lim a.cursors (a.units + 1) (told a.rest 0)
moved_from program lim t a (StoreEnded stop) old =
    record { rest = a.rest; position = Over stop; units = a.units; began = a.began; cursors = a.cursors }
moved_from program lim t a (Over stop) old = a
moved_from program lim t a NoRow old = a

abbrev pub moved : Program → Bounds → ℕ → Thread → ℕ → Thread
moved program lim t a old = moved_from program lim t a a.position old

-- a thread before its first step
abbrev pub first_thread : Bounds → Thread
first_thread lim = standing lim first_cursors silent 0 false (Start LoadStart)

-- each step of the trace is the one that the step table has where the steps before it leave the thread
abbrev pub Follows : Program → Bounds → ℕ → Thread → List Step → Type 0
Follows program lim t a [] = Unit {0}
Follows program lim t a (s ∷ ss) =
    (is_over a.position ≡ false) × (s ≡ step_at lim t a.position s.old)
    × Follows program lim t (moved program lim t a s.old) ss

-- where the steps leave the thread
abbrev pub thread_after : Program → Bounds → ℕ → Thread → List Step → Thread
thread_after program lim t a [] = a
thread_after program lim t a (s ∷ ss) = thread_after program lim t (moved program lim t a s.old) ss

-- how a thread at this position stands
abbrev pub stop_at : Bool → Position → Stop
stop_at began (Start at) = Idle
stop_at began (Access at) = Running
stop_at began (Malloc at) = Running
stop_at began (Note at) = Running
stop_at began (Free at) = Running
stop_at began (Spawn at) = Running
stop_at began (Join at) = Running
stop_at began (DrawPrint value) = Running
stop_at began (StoreEnded stop) = if began then Running else Idle
stop_at began (Over stop) = stop
stop_at began NoRow = Running

abbrev pub stop_of : Thread → Stop
stop_of a = stop_at a.began a.position
