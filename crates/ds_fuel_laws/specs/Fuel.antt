-- What the fuel of a thread pays for, counted by what the thread asks: each instruction that begins costs one unit,
-- and so does each step but the last.
use Rattle.std.specs.Prelude.{◌≡◌, ◌↔◌, ℕ, ◌+◌, ◌<◌, List, [], ◌∷◌, Option, Some, None}
use Rattle.ds_map.specs.Bounds.{Bounds}
use Rattle.ds_map.specs.Blocks.{block_start}
use Rattle.ds_step.specs.declared.Step.{Step}
use Rattle.ds_plain.specs.declared.Stop.{Stop}
use Rattle.ds_plain.specs.declared.Stop.TheVariants.{Idle, Running, Returned, Trap, Full, Fuel}
use Rattle.ds_plain.specs.declared.Request.{Request}
use Rattle.ds_plain.specs.declared.Request.TheVariants as requests
use Rattle.ds_plain.specs.declared.Position.{Position}
use Rattle.ds_plain.specs.declared.Position.TheVariants.{Start, Access, Malloc, Note, Free, Spawn, Join}
use Rattle.ds_plain.specs.declared.Position.TheVariants.{DrawPrint, StoreEnded, Over, NoRow}
use Rattle.ds_plain.specs.Behaviour.{Asked, Asks, Silent, Behaviour, told, Program}
use Rattle.ds_plain.specs.Starting.{StartNext, StartsOn, Begins, start_next}
use Rattle.ds_plain.specs.Spawning.{SpawnNext, SpawnsOn, SpawnTells, spawn_next}
use Rattle.ds_plain.specs.Joining.{JoinNext, JoinsOn, Joined, FailsJoin, join_next}
use Rattle.ds_plain.specs.Accessing.{AccessNext, AccessesOn, Tells, access_next}
use Rattle.ds_plain.specs.Searching.{AllocNext, Looks, Takes, TakesNone, alloc_next}
use Rattle.ds_plain.specs.Noting.{NoteNext, NotesOn, HasNoted, HasSkipped, FailsNote, note_next}
use Rattle.ds_plain.specs.Freeing.{FreeNext, FreesOn, Freed, FailsFree, free_next}
use Rattle.ds_plain.specs.Thread.{Thread, first_thread, moved, thread_after}

-- PRICES

-- what the step for a stop costs: nothing, where a thread may ask for it
abbrev pub stop_cost : Stop → ℕ
stop_cost Idle = 1
stop_cost Running = 1
stop_cost (Returned value) = 0
stop_cost (Trap trap) = 0
stop_cost (Full place what) = 1
stop_cost Fuel = 1

-- what the first step for a request costs: one unit, and nothing where it is the last one of the thread
abbrev pub step_cost : Request → ℕ
step_cost (requests.Load access) = 1
step_cost (requests.Store access value) = 1
step_cost (requests.Rmw access op value) = 1
step_cost (requests.Cas access expected new) = 1
step_cost (requests.Malloc bytes) = 1
step_cost (requests.Free address) = 1
step_cost (requests.Note loc value) = 1
step_cost (requests.Print value) = 1
step_cost (requests.Spawn loc function arg) = 1
step_cost (requests.Join number) = 1
step_cost (requests.Stop stop) = stop_cost stop

-- what comes next for a thread
pub data Next : Type 0 where
  -- its instructions up to what it asks, and the first step for that
  ComesTo : Asked → Next
  -- one step more: for what it asked, or to see whether it may begin
  StepsOn : Next
  -- its last step, since a free or a join failed, or a table was full
  Fails : Next

-- What that costs: one unit for each instruction that begins, the one that asks too, and one for the step, but for the
-- last. No fuel pays for instructions that never come to a request.
abbrev pub price_of : Next → Option ℕ
price_of (ComesTo (Asks begun place request)) = Some (begun + step_cost request)
price_of (ComesTo Silent) = None
price_of StepsOn = Some 1
price_of Fails = Some 0

-- the fuel does not pay for this price too, where so much was paid before
abbrev pub Exceeds : (fuel paid : ℕ) → Option ℕ → Type 0
Exceeds fuel paid None = Unit {0}
Exceeds fuel paid (Some cost) = fuel < paid + cost

-- what is paid with this price, where so much was paid before
abbrev pub and_paid : (paid : ℕ) → Option ℕ → ℕ
and_paid paid None = paid
and_paid paid (Some cost) = paid + cost

-- WHAT COMES NEXT

-- what comes next for a thread that is told an answer
abbrev pub once_told : Behaviour → (answer : ℕ) → Next
once_told rest answer = ComesTo (told rest answer [])

-- what comes next behind a step, by its answer
abbrev pub next_from_start : Program → (t : ℕ) → StartNext → Next
next_from_start program t (StartsOn at) = StepsOn
next_from_start program t (Begins function argument) = ComesTo (program.behaves t function argument [])

abbrev pub next_from_access : Behaviour → AccessNext → Next
next_from_access rest (AccessesOn at) = StepsOn
next_from_access rest (Tells answer) = once_told rest answer

abbrev pub next_from_malloc : Behaviour → AllocNext → Next
next_from_malloc rest (Looks at) = StepsOn
next_from_malloc rest (Takes class place life) = once_told rest (block_start place class)
next_from_malloc rest TakesNone = once_told rest 0

abbrev pub next_from_note : Behaviour → NoteNext → Next
next_from_note rest (NotesOn at) = StepsOn
next_from_note rest HasNoted = once_told rest 0
next_from_note rest HasSkipped = once_told rest 0
next_from_note rest (FailsNote what) = Fails

abbrev pub next_from_free : Behaviour → FreeNext → Next
next_from_free rest (FreesOn at) = StepsOn
next_from_free rest Freed = once_told rest 0
next_from_free rest (FailsFree trap) = Fails

abbrev pub next_from_spawn : Behaviour → SpawnNext → Next
next_from_spawn rest (SpawnsOn at) = StepsOn
next_from_spawn rest (SpawnTells answer) = once_told rest answer

abbrev pub next_from_join : Behaviour → JoinNext → Next
next_from_join rest (JoinsOn at) = StepsOn
next_from_join rest Joined = once_told rest 0
next_from_join rest (FailsJoin number) = Fails

-- ACCOUNTS

-- what a thread had paid by its last answer, and what comes next for it
pub record Account : Type 0 where
  pub paid : ℕ
  pub next : Next

-- before its first step
abbrev pub first_account : Account
first_account = record { paid = 0; next = StepsOn }

-- what came next is paid, and then this comes next
abbrev pub paid_for : Account → Next → Account
paid_for account next = record { paid = and_paid account.paid (price_of account.next); next = next }

-- behind the step at a position, by its answer; behind the last one nothing comes that was not there before
abbrev pub account_from : Program → Bounds → (t : ℕ) → Thread → Position → (old : ℕ) → Account → Account
account_from program lim t a (Start at) old account =
    paid_for account (next_from_start program t (start_next program t at old))
account_from program lim t a (Access at) old account = paid_for account (next_from_access a.rest (access_next at old))
account_from program lim t a (Malloc at) old account =
    paid_for account (next_from_malloc a.rest (alloc_next lim at old))
account_from program lim t a (Note at) old account = paid_for account (next_from_note a.rest (note_next lim at old))
account_from program lim t a (Free at) old account = paid_for account (next_from_free a.rest (free_next at old))
account_from program lim t a (Spawn at) old account = paid_for account (next_from_spawn a.rest (spawn_next at old))
account_from program lim t a (Join at) old account = paid_for account (next_from_join a.rest (join_next t at old))
account_from program lim t a (DrawPrint value) old account = paid_for account (once_told a.rest 0)
account_from program lim t a (StoreEnded stop) old account = account
account_from program lim t a (Over stop) old account = account
account_from program lim t a NoRow old account = account

-- behind the steps of a trace
abbrev pub account_after : Program → Bounds → (t : ℕ) → Thread → Account → List Step → Account
account_after program lim t a account [] = account
account_after program lim t a account (s ∷ ss) =
    account_after program lim t (moved program lim t a s.old) (account_from program lim t a a.position s.old account)
    ss

-- of a thread with this trace
abbrev pub account_of : Program → Bounds → (t : ℕ) → List Step → Account
account_of program lim t trace = account_after program lim t (first_thread lim) first_account trace

-- ENDS

-- The thread with this trace and this stop ended for want of fuel exactly where its fuel did not pay for what came
-- next behind its last answer.
pub record EndsByFuel (program : Program) (lim : Bounds) (t : ℕ) (trace : List Step) (stop : Stop) : Type 0 where
  pub exactly : (stop ≡ Fuel)
      ↔ Exceeds lim.fuel (account_of program lim t trace).paid (price_of (account_of program lim t trace).next)
  -- it had then spent all its fuel
  pub all_spent : stop ≡ Fuel → (thread_after program lim t (first_thread lim) trace).units ≡ lim.fuel
  -- and else what it had asked for
  pub as_asked : (stop ≡ Fuel → ⊥)
      → (thread_after program lim t (first_thread lim) trace).units
      ≡ and_paid (account_of program lim t trace).paid (price_of (account_of program lim t trace).next)
