-- The statements of the laws.
use Rattle.std.specs.Prelude.{◌≡◌, ◌↔◌, ℕ, ◌*◌, ◌<◌, List, take, Contains}
use Rattle.ds_map.specs.Bounds.{Bounds, IsInRange}
use Rattle.ds_step.specs.declared.FullWhat.TheVariants.{Logs, Hash}
use Rattle.ds_step.specs.declared.Step.{Step}
use Rattle.ds_plain.specs.declared.Place.{Place}
use Rattle.ds_plain.specs.declared.Stop.{Stop}
use Rattle.ds_plain.specs.declared.Stop.TheVariants.{Full}
use Rattle.ds_plain.specs.Behaviour.{Program}
use Rattle.ds_plain.specs.History.{History, Interleaves}
use Rattle.ds_plain.specs.Explained.{trace_of, stop_in, words_behind, state_behind, IsRecord, IsLegalRun}
use Rattle.ds_log_laws.specs.Full.{FullLogs, FullHash}
use Rattle.ds_log_laws.specs.Reading.{logged}

-- where a thread of a recorded run, in any legal order of its traces, ended for want of a log, all logs are drawn
abbrev pub FullLogsAreDrawn : Type 0
FullLogsAreDrawn = (program : Program) (lim : Bounds) (stops : List Stop) (traces : List (List Step)) →
    IsInRange lim → IsRecord program lim stops traces
    → (h : History) → Interleaves traces h → IsLegalRun program lim h
    → (t : ℕ) (place : Place) → t < 16 → stop_in stops t ≡ Full place Logs → FullLogs lim traces

-- where a thread ended for want of a hash chunk, the entries of its log are used
abbrev pub FullEntriesAreUsed : Type 0
FullEntriesAreUsed = (program : Program) (lim : Bounds) (stops : List Stop) (traces : List (List Step)) →
    IsInRange lim → IsRecord program lim stops traces
    → (h : History) → Interleaves traces h → IsLegalRun program lim h
    → (t : ℕ) (place : Place) → t < 16 → stop_in stops t ≡ Full place Hash → FullHash (trace_of traces t)

-- at every moment of a recorded run a thread has noted a location for the present life of a block exactly where the
-- words say that it is logged
abbrev pub NotesAreLogged : Type 0
NotesAreLogged = (program : Program) (lim : Bounds) (stops : List Stop) (traces : List (List Step)) →
    IsInRange lim → IsRecord program lim stops traces
    → (h : History) → Interleaves traces h → IsLegalRun program lim h
    → (k t place loc : ℕ) → t < 16 → place < 256 * lim.pages
    → let words = words_behind program lim (take k h) in
    let s = state_behind program lim stops (take k h) in
    let life = (s.blocks place).life in
    Contains s.noted (record { place = place; life = life; loc = loc; thread = t })
    ↔ Contains (logged lim words place life t) loc
