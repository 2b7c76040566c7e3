-- What the summary counts.
use Rattle.std.specs.Prelude.{ℕ, ◌==◌, Bool, List, count_by}
use Rattle.std.specs.List.{sum_by}
use Rattle.ds_step.specs.declared.Event.{Event}
use Rattle.ds_step.specs.declared.Event.TheVariants as events
use Rattle.ds_step.specs.declared.Step.{Step}
use Rattle.ds_report.specs.declared.counts.Tally.{Tally}
use Rattle.ds_report.specs.declared.counts.Tally.TheVariants.{Malloc, Free, Note, Mark, Nothing}

-- what an event counts as
abbrev pub tally_of : Event → Tally
tally_of events.Begin = Nothing
tally_of (events.Spawn n function arg) = Nothing
tally_of events.SpawnRefused = Nothing
tally_of (events.Join n) = Nothing
tally_of events.End = Nothing
tally_of (events.Print number value) = Nothing
tally_of (events.Load loc value) = Nothing
tally_of (events.Store loc value) = Nothing
tally_of (events.Exchange loc value) = Nothing
tally_of (events.Assign page class) = Nothing
tally_of (events.Taken place) = Nothing
tally_of (events.TakenPage page) = Nothing
tally_of (events.Block place start life) = Malloc
tally_of (events.Found place start life) = Nothing
tally_of events.Skip = Nothing
tally_of (events.Noted place life loc) = Note
tally_of (events.BeginFree place life) = Nothing
tally_of (events.Mark loc) = Mark
tally_of (events.Seen loc) = Nothing
tally_of (events.EndFree place) = Free
tally_of events.Trap = Nothing
tally_of (events.Full what) = Nothing
tally_of events.Log = Nothing

-- the number of a tally among them, by which they are told apart
abbrev pub number_of : Tally → ℕ
number_of Malloc = 0
number_of Free = 1
number_of Note = 2
number_of Mark = 3
number_of Nothing = 4

-- the event counts as this
abbrev pub is_tally : Tally → Event → Bool
is_tally tally event = number_of (tally_of event) == number_of tally

-- how many steps of a trace count as this
abbrev pub count_in : Tally → List Step → ℕ
count_in tally steps = count_by (λ step. is_tally tally step.event) steps

-- how many steps of all traces do
abbrev pub count_of : List (List Step) → Tally → ℕ
count_of traces tally = sum_by (count_in tally) traces
