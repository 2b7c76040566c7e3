-- The rows of a thread that waits for the end of another one.
use Rattle.std.specs.Prelude.{ℕ, ◌<◌, Bool, ◌==◌, ◌||◌, nat_le, if◌then◌else◌}
use Rattle.ds_step.specs.declared.WordOp.{WordOp}
use Rattle.ds_step.specs.declared.Event.{Event}
use Rattle.ds_step.specs.declared.Event.TheVariants as events
use Rattle.ds_plain.specs.declared.JoinAt.{JoinAt}
use Rattle.ds_plain.specs.declared.JoinAt.TheVariants.{LoadGiven, LoadEnded}
use Rattle.ds_plain.specs.Operations.{load_of}
use Rattle.ds_plain.specs.Starting.{start_word}
use Rattle.ds_plain.specs.Spawning.{given_word}

-- ROWS

abbrev pub join_op : JoinAt → WordOp
join_op (LoadGiven number) = load_of given_word
join_op (LoadEnded n) = load_of (start_word n)

abbrev pub join_row : JoinAt → ℕ
join_row (LoadGiven number) = 10
join_row (LoadEnded n) = 11

-- EVENTS

-- thread t cannot join this number: it is its own, or was not given out
abbrev pub is_bad_join : (t number given : ℕ) → Bool
is_bad_join t number given = (number == t) || (nat_le 16 number || nat_le given number)

abbrev pub join_event : (t : ℕ) → JoinAt → (old : ℕ) → Event
join_event t (LoadGiven number) old = if is_bad_join t number old then events.Trap else events.Log
join_event t (LoadEnded n) old = if old == 2 then events.Join n else events.Log

-- WHAT COMES NEXT

-- what comes of a step of a thread that waits for another one
pub data JoinNext : Type 0 where
  -- it goes on with this row
  JoinsOn : JoinAt → JoinNext
  -- the thread has ended
  Joined : JoinNext
  -- this number cannot be joined
  FailsJoin : (number : ℕ) → JoinNext

abbrev pub join_next : (t : ℕ) → JoinAt → (old : ℕ) → JoinNext
join_next t (LoadGiven number) old = if is_bad_join t number old then FailsJoin number else JoinsOn (LoadEnded number)
join_next t (LoadEnded n) old = if old == 2 then Joined else JoinsOn (LoadEnded n)

-- WHICH POSITIONS ARE REACHED: no clause of the top call speaks of it

-- a thread that waits for another one reaches this position
abbrev pub IsJoinAt : JoinAt → Type 0
IsJoinAt (LoadGiven number) = Unit {0}
IsJoinAt (LoadEnded n) = n < 16
