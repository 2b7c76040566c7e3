-- The prints of a run.
use Rattle.std.specs.Prelude.{List, [], ◌∷◌}
use Rattle.std.specs.List.{flat_map}
use Rattle.std.specs.List.Sorted.{IsPermutation, IsNonDecreasingBy}
use Rattle.ds_step.specs.declared.Event.{Event}
use Rattle.ds_step.specs.declared.Event.TheVariants as events
use Rattle.ds_step.specs.declared.Step.{Step}
use Rattle.ds_report.specs.declared.prints.Print.{Print}

-- the print that an event is, if it is one
abbrev pub prints_by : Event → List Print
prints_by (events.Print number value) = record { number = number; value = value } ∷ []
prints_by events.Begin = []
prints_by (events.Spawn n function arg) = []
prints_by events.SpawnRefused = []
prints_by (events.Join n) = []
prints_by events.End = []
prints_by (events.Load loc value) = []
prints_by (events.Store loc value) = []
prints_by (events.Exchange loc value) = []
prints_by (events.Assign page class) = []
prints_by (events.Taken place) = []
prints_by (events.TakenPage page) = []
prints_by (events.Block place start life) = []
prints_by (events.Found place start life) = []
prints_by events.Skip = []
prints_by (events.Noted place life loc) = []
prints_by (events.BeginFree place life) = []
prints_by (events.Mark loc) = []
prints_by (events.Seen loc) = []
prints_by (events.EndFree place) = []
prints_by events.Trap = []
prints_by (events.Full what) = []
prints_by events.Log = []

-- the prints of one trace, in its order
abbrev pub prints_in : List Step → List Print
prints_in steps = flat_map (λ step. prints_by step.event) steps

-- the prints of all traces, thread by thread
abbrev pub all_prints : List (List Step) → List Print
all_prints traces = flat_map prints_in traces

-- the same prints, in the order of their numbers
pub record IsInOrder (prints ordered : List Print) : Type 0 where
  pub same : IsPermutation prints ordered
  pub rises : IsNonDecreasingBy (λ p. p.number) ordered
