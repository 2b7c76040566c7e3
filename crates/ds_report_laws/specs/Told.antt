-- The report of a run of the plain machine, by the events of that run and the state that they lead to. Nothing here
-- speaks of a record: not of traces, nor of the order of their steps, nor of log steps.
use Rattle.std.specs.Prelude.{◌≡◌, ℕ, Bool, ◌==◌, if◌then◌else◌, List, [], ◌++◌, length, map, count_by}
use Rattle.std.specs.List.{flat_map, range_with_len}
use Rattle.ds_ast.specs.declared.name.Name.{Name}
use Rattle.ds_step.specs.declared.Event.{Event}
use Rattle.ds_plain.specs.declared.Stop.{Stop}
use Rattle.ds_plain.specs.State.{State, Setting, first_state, stop_of_phase}
use Rattle.ds_plain.specs.Plain.{IsPlainRun, state_after}
use Rattle.ds_report.specs.declared.counts.Tally.{Tally}
use Rattle.ds_report.specs.Trace.{event_line}
use Rattle.ds_report.specs.Stop.{stop_lines, is_trap}
use Rattle.ds_report.specs.Counts.{is_tally}
use Rattle.ds_report.specs.Report.{value_line, summary_line}

-- what a thread did: the lines of its events, in their order
abbrev pub lines_of_thread : List (ℕ × Event) → (thread : ℕ) → List ℕ
lines_of_thread events thread = flat_map (λ e. if thread == e.0 then event_line thread e.1 else []) events

-- what the 16 threads did, in number order
abbrev pub lines_of_threads : List (ℕ × Event) → List ℕ
lines_of_threads events = flat_map (λ thread. lines_of_thread events thread) (range_with_len 0 16)

-- how the 16 threads stand in a state, in number order
abbrev pub stops_of : State → List Stop
stops_of s = map (λ thread. stop_of_phase (s.threads thread)) (range_with_len 0 16)

-- how many of the events count as this
abbrev pub count_among : List (ℕ × Event) → Tally → ℕ
count_among events tally = count_by (λ e. is_tally tally e.1) events

-- The report of a run that made these events and ended in this state: a line for each value that was printed, the
-- oldest first; where the trace is asked for, what the threads did; a line for each thread that trapped, met a full
-- table or spent its fuel; and last how main stands, how many values were printed, how many events count as what, and
-- how many threads trapped.
abbrev pub report_of : List Name → (trace : Bool) → List (ℕ × Event) → State → List ℕ
report_of names trace events s =
    flat_map value_line s.out ++ (if trace then lines_of_threads events else [])
    ++ stop_lines names (stops_of s)
    ++ summary_line (stop_of_phase (s.threads 0)) (length s.out) (count_among events)
    (count_by is_trap (stops_of s))

-- the state once these events were made, from the start of the program
abbrev pub last_state : Setting → List (ℕ × Event) → State
last_state setting events = state_after setting (first_state setting.program setting.lim) events

-- These events are a run of the plain machine from the start of the program, and the text is the report of that run.
-- The names are those of the functions of the module.
pub record IsReportOfRun (names : List Name) (trace : Bool) (setting : Setting) (events : List (ℕ × Event))
    (text : List ℕ) : Type 0 where
  pub run : IsPlainRun setting (first_state setting.program setting.lim) events
  pub told : text ≡ report_of names trace events (last_state setting events)

-- the text is the report of some run of the plain machine
abbrev pub IsReportOfSomeRun : List Name → (trace : Bool) → Setting → List ℕ → Type 0
IsReportOfSomeRun names trace setting text =
    ∥ ((events : List (ℕ × Event)) × IsReportOfRun names trace setting events text) ∥₁
