-- The step table: for each position of a thread its operation, its row, and what an answer means.
use Rattle.std.specs.Prelude.{ℕ, Bool, true, false, if◌then◌else◌, List, Option, Some, None}
use Rattle.std.specs.Prelude.{slice_index}
use Rattle.ds_map.specs.Bounds.{Bounds}
use Rattle.ds_map.specs.Blocks.{class_of}
use Rattle.ds_step.specs.declared.OpKind.TheVariants.{Add}
use Rattle.ds_step.specs.declared.WordOp.{WordOp}
use Rattle.ds_step.specs.declared.Event.{Event}
use Rattle.ds_step.specs.declared.Event.TheVariants as events
use Rattle.ds_step.specs.declared.Step.{Step}
use Rattle.ds_plain.specs.declared.Stop.{Stop}
use Rattle.ds_plain.specs.declared.Stop.TheVariants.{Idle, Running, Returned, Trap, Full, Fuel}
use Rattle.ds_plain.specs.declared.Request.{Request}
use Rattle.ds_plain.specs.declared.Request.TheVariants as requests
use Rattle.ds_plain.specs.declared.SpawnAt.TheVariants.{DrawThread}
use Rattle.ds_plain.specs.declared.JoinAt.TheVariants.{LoadGiven}
use Rattle.ds_plain.specs.declared.Change.TheVariants.{Put, Combine, Replace}
use Rattle.ds_plain.specs.declared.AccessAt.TheVariants.{LoadWord, StoreWord, CombineWord, ReplaceWord}
use Rattle.ds_plain.specs.declared.AllocAt.TheVariants as allocs
use Rattle.ds_plain.specs.declared.NoteAt.TheVariants as notes
use Rattle.ds_plain.specs.declared.FreeAt.TheVariants as frees
use Rattle.ds_plain.specs.declared.Position.{Position}
use Rattle.ds_plain.specs.declared.Position.TheVariants.{Start, Access, Malloc, Note, Free, Spawn, Join}
use Rattle.ds_plain.specs.declared.Position.TheVariants.{DrawPrint, StoreEnded, Over, NoRow}
use Rattle.ds_plain.specs.Operations.{load_of, store_of}
use Rattle.ds_plain.specs.Starting.{start_word, start_op, start_row, start_event}
use Rattle.ds_plain.specs.Spawning.{spawn_op, spawn_row, spawn_event}
use Rattle.ds_plain.specs.Joining.{join_op, join_row, join_event}
use Rattle.ds_plain.specs.Accessing.{access_op, access_row, access_event, changing_at}
use Rattle.ds_plain.specs.Searching.{search_from, alloc_op, alloc_row, alloc_event}
use Rattle.ds_plain.specs.Noting.{note_op, note_row, note_event, is_notable}
use Rattle.ds_plain.specs.Freeing.{free_op, free_row, free_event, is_freeable}

-- the word that counts the prints
abbrev pub prints_word : ℕ
prints_word = 2

-- OPERATIONS

-- the operation that thread t makes at a position; a thread that makes no step makes none
abbrev pub op_at : Bounds → ℕ → Position → WordOp
op_at lim t (Start at) = start_op t at
op_at lim t (Access at) = access_op lim at
op_at lim t (Malloc at) = alloc_op lim at
op_at lim t (Note at) = note_op lim t at
op_at lim t (Free at) = free_op lim at
op_at lim t (Spawn at) = spawn_op lim at
op_at lim t (Join at) = join_op at
op_at lim t (DrawPrint value) = record { kind = Add; word = prints_word; a = 1; b = 0 }
op_at lim t (StoreEnded stop) = store_of (start_word t) 2
op_at lim t (Over stop) = load_of 0
op_at lim t NoRow = load_of 0

-- ROWS

-- the number of the row; 0 is none
abbrev pub row_at : Position → ℕ
row_at (Start at) = start_row at
row_at (Access at) = access_row at
row_at (Malloc at) = alloc_row at
row_at (Note at) = note_row at
row_at (Free at) = free_row at
row_at (Spawn at) = spawn_row at
row_at (Join at) = join_row at
row_at (DrawPrint value) = 13
row_at (StoreEnded stop) = 12
row_at (Over stop) = 0
row_at NoRow = 0

-- EVENTS

-- what the answer means
abbrev pub event_at : Bounds → ℕ → Position → ℕ → Event
event_at lim t (Start at) old = start_event t at old
event_at lim t (Access at) old = access_event at old
event_at lim t (Malloc at) old = alloc_event lim at old
event_at lim t (Note at) old = note_event lim at old
event_at lim t (Free at) old = free_event at old
event_at lim t (Spawn at) old = spawn_event at old
event_at lim t (Join at) old = join_event t at old
event_at lim t (DrawPrint value) old = events.Print old value
event_at lim t (StoreEnded stop) old = events.End
event_at lim t (Over stop) old = events.Log
event_at lim t NoRow old = events.Log

-- the step that thread t makes at a position, by its answer
abbrev pub step_at : Bounds → ℕ → Position → ℕ → Step
step_at lim t position old =
    record { op = op_at lim t position; old = old; row = row_at position; event = event_at lim t position old }

-- POSITIONS

-- a thread that asks for a stop ends with it, if it returned or trapped: no other stop is asked for
abbrev pub end_by : Stop → Position
end_by Idle = NoRow
end_by Running = NoRow
end_by (Returned value) = StoreEnded (Returned value)
end_by (Trap trap) = StoreEnded (Trap trap)
end_by (Full place what) = NoRow
end_by Fuel = NoRow

-- where a thread begins to look for a block of a class: behind the one of that class which it took last
abbrev pub looking_for : (cursors : List ℕ) → Option ℕ → Position
looking_for cursors None = NoRow
looking_for cursors (Some class) = Malloc (allocs.LoadPage (search_from class (slice_index cursors class)))

-- where a thread begins to free an address; nothing else than one of the heap, and a multiple of 8, is asked
abbrev pub freeing_at : Bounds → ℕ → Position
freeing_at lim address = if is_freeable lim address then Free (frees.LoadPage address) else NoRow

-- where a thread begins to note a value; nothing else than one of the heap, at a location, is asked
abbrev pub noting_at : Bounds → (loc value : ℕ) → Position
noting_at lim loc value = if is_notable lim loc value then Note (notes.LoadPage loc value) else NoRow

-- the first position of a request of a thread that looks for blocks from these places on, by size class
abbrev pub position_of : Bounds → (cursors : List ℕ) → Request → Position
position_of lim cursors (requests.Load access) = Access (LoadWord access.loc)
position_of lim cursors (requests.Store access value) =
    Access (changing_at access (StoreWord access.loc value) (Put value))
position_of lim cursors (requests.Rmw access op value) =
    Access (changing_at access (CombineWord access.loc op value) (Combine op value))
position_of lim cursors (requests.Cas access expected new) =
    Access (changing_at access (ReplaceWord access.loc expected new) (Replace expected new))
position_of lim cursors (requests.Malloc bytes) = looking_for cursors (class_of bytes)
position_of lim cursors (requests.Free address) = freeing_at lim address
position_of lim cursors (requests.Note loc value) = noting_at lim loc value
position_of lim cursors (requests.Print value) = DrawPrint value
position_of lim cursors (requests.Spawn loc function arg) = Spawn (DrawThread loc function arg)
position_of lim cursors (requests.Join number) = Join (LoadGiven number)
position_of lim cursors (requests.Stop stop) = end_by stop

-- a thread at this position makes no step
abbrev pub is_over : Position → Bool
is_over (Start at) = false
is_over (Access at) = false
is_over (Malloc at) = false
is_over (Note at) = false
is_over (Free at) = false
is_over (Spawn at) = false
is_over (Join at) = false
is_over (DrawPrint value) = false
is_over (StoreEnded stop) = false
is_over (Over stop) = true
is_over NoRow = true
