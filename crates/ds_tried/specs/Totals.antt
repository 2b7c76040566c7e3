-- What a report counts.
use Rattle.std.specs.Prelude.{ℕ, ◌==◌, Bool, true, false, List, count_by}
use Rattle.ds_step.specs.declared.Event.{Event}
use Rattle.ds_step.specs.declared.Event.TheVariants as events
use Rattle.ds_plain.specs.declared.Stop.{Stop}
use Rattle.ds_plain.specs.declared.Stop.TheVariants.{Idle, Running, Returned, Trap, Full, Fuel}
use Rattle.ds_tried.specs.Programs.{Events}

-- how many prints there were, blocks given out, frees that ended, notes, marks, and threads that a trap stopped
pub record Totals : Type 0 where
  pub prints : ℕ
  pub mallocs : ℕ
  pub frees : ℕ
  pub notes : ℕ
  pub marks : ℕ
  pub traps : ℕ

abbrev pub totals : (prints mallocs frees notes marks traps : ℕ) → Totals
totals prints mallocs frees notes marks traps =
    record { prints = prints; mallocs = mallocs; frees = frees; notes = notes; marks = marks; traps = traps }

-- where an event is counted: 1 for prints, 2 for mallocs, 3 for frees, 4 for notes, 5 for marks, and 0 for none
abbrev pub counted_as : Event → ℕ
counted_as (events.Print number value) = 1
counted_as (events.Block place start life) = 2
counted_as (events.EndFree place) = 3
counted_as (events.Noted place life loc) = 4
counted_as (events.Mark loc) = 5
counted_as events.Begin = 0
counted_as (events.Spawn n function arg) = 0
counted_as events.SpawnRefused = 0
counted_as (events.Join n) = 0
counted_as events.End = 0
counted_as (events.Load loc value) = 0
counted_as (events.Store loc value) = 0
counted_as (events.Exchange loc value) = 0
counted_as (events.Assign page class) = 0
counted_as (events.Taken place) = 0
counted_as (events.TakenPage page) = 0
counted_as (events.Found place start life) = 0
counted_as events.Skip = 0
counted_as (events.BeginFree place life) = 0
counted_as (events.Seen loc) = 0
counted_as events.Trap = 0
counted_as (events.Full what) = 0
counted_as events.Log = 0

abbrev pub is_trap : Stop → Bool
is_trap Idle = false
is_trap Running = false
is_trap (Returned value) = false
is_trap (Trap trap) = true
is_trap (Full place what) = false
is_trap Fuel = false

-- how many of the events are counted so
abbrev pub count : ℕ → Events → ℕ
count kind made = count_by (λ e. counted_as e.1 == kind) made

abbrev pub totals_of : Events → List Stop → Totals
totals_of made stops =
    totals (count 1 made) (count 2 made) (count 3 made) (count 4 made) (count 5 made) (count_by is_trap stops)
