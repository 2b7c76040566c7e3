-- The rows of a thread that has not begun: it waits until it may, and learns what it is to run.
use Rattle.std.specs.Prelude.{ℕ, ◌+◌, ◌^◌, Bool, ◌==◌, ◌&&◌, nat_lt, if◌then◌else◌}
use Rattle.ds_step.specs.declared.WordOp.{WordOp}
use Rattle.ds_step.specs.declared.Event.{Event}
use Rattle.ds_step.specs.declared.Event.TheVariants as events
use Rattle.ds_plain.specs.declared.StartAt.{StartAt}
use Rattle.ds_plain.specs.declared.StartAt.TheVariants.{LoadStart, LoadFunction, LoadArgument}
use Rattle.ds_plain.specs.Behaviour.{Program}
use Rattle.ds_plain.specs.Operations.{load_of}

-- the start word of a thread: 0 until it may begin, 1 from then on, and 2 once it has ended
abbrev pub start_word : ℕ → ℕ
start_word t = 16 + t

-- the word with the number of the function that a thread is to run
abbrev pub function_word : ℕ → ℕ
function_word t = 32 + t

-- the word with the argument of that function
abbrev pub argument_word : ℕ → ℕ
argument_word t = 48 + t

-- ROWS

abbrev pub start_op : ℕ → StartAt → WordOp
start_op t LoadStart = load_of (start_word t)
start_op t LoadFunction = load_of (function_word t)
start_op t (LoadArgument function) = load_of (argument_word t)

abbrev pub start_row : StartAt → ℕ
start_row LoadStart = 1
start_row LoadFunction = 2
start_row (LoadArgument function) = 3

-- EVENTS

-- thread 0 begins where its start word is 1
abbrev pub begins : ℕ → ℕ → Bool
begins t old = (t == 0) && (old == 1)

abbrev pub start_event : ℕ → StartAt → (old : ℕ) → Event
start_event t LoadStart old = if begins t old then events.Begin else events.Log
start_event t LoadFunction old = events.Log
start_event t (LoadArgument function) old = events.Begin

-- WHAT COMES NEXT

-- what comes of a step of a thread that has not begun
pub data StartNext : Type 0 where
  -- it goes on with this row
  StartsOn : StartAt → StartNext
  -- it begins this function with this argument
  Begins : (function argument : ℕ) → StartNext

-- a thread that may begin: main does, and another one has to learn what it is to run
abbrev pub may_begin : Program → ℕ → StartNext
may_begin program t = if t == 0 then Begins program.main 0 else StartsOn LoadFunction

-- what is no start word that lets it begin, or no number of a function that may run as a thread, is loaded again
abbrev pub start_next : Program → ℕ → StartAt → (old : ℕ) → StartNext
start_next program t LoadStart old = if old == 1 then may_begin program t else StartsOn LoadStart
start_next program t LoadFunction old =
    if nat_lt old (2 ^ 32) && program.may_start old then StartsOn (LoadArgument old) else StartsOn LoadFunction
start_next program t (LoadArgument function) old = Begins function old
