-- The report of a record is that of the plain run which explains it.
use Rattle.std.proofs.Common.{◌≡◌, ℕ, Bool, false, cond, if◌then◌else◌, List, [], ◌∷◌, ◌++◌, length, count_by}
use Rattle.std.proofs.Common.{refl, sym, ap, ◌∙◌, arith}
use Rattle.std.specs.List.{sum_by, flat_map}
use Rattle.std.proofs.lemmas.List.{length-map}
use Rattle.std.proofs.lemmas.List.FromFn.{fill_by_all}
use Rattle.std.proofs.lemmas.List.Sorted.{sum_by-IsPermutation}
use mathlib.Core.Logic.{∥∥₁_map}
use Rattle.ds_ast.specs.declared.name.Name.{Name}
use Rattle.ds_map.specs.Bounds.{Bounds}
use Rattle.ds_step.specs.declared.Event.{Event}
use Rattle.ds_step.specs.declared.Event.TheVariants as events
use Rattle.ds_step.specs.declared.Step.{Step}
use Rattle.ds_plain.specs.declared.Stop.{Stop}
use Rattle.ds_plain.specs.declared.Stop.TheVariants.{Idle}
use Rattle.ds_plain.specs.Behaviour.{Program}
use Rattle.ds_plain.specs.State.{State, stop_of_phase, first_state}
use Rattle.ds_plain.specs.History.{History, Interleaves, erase}
use Rattle.ds_plain.specs.Explained.{setting_of, state_behind, stop_in, IsExplained, IsLegalRun, IsRunOf}
use Rattle.ds_report.specs.declared.prints.Print.{Print}
use Rattle.ds_report.specs.declared.counts.Tally.{Tally}
use Rattle.ds_report.specs.declared.counts.Tally.TheVariants.{Malloc, Free, Note, Mark}
use Rattle.ds_report.specs.Prints.{prints_by, prints_in, all_prints, IsInOrder}
use Rattle.ds_report.specs.Trace.{trace_lines}
use Rattle.ds_report.specs.Stop.{stop_lines, is_trap}
use Rattle.ds_report.specs.Counts.{is_tally, count_of}
use Rattle.ds_report.specs.Report.{value_line, summary_line, IsReport}
use Rattle.ds_report_laws.specs.Told.{lines_of_threads, stops_of, count_among, report_of, IsReportOfRun}
use Rattle.ds_report_laws.specs.Told.{IsReportOfSomeRun}
use Rattle.ds_report_laws.proofs.Totals.{sum_by_same, sum_by-flat_map, events_sum}
use Rattle.ds_report_laws.proofs.Numbers.{one_order}
use Rattle.ds_report_laws.proofs.Lines.{same_trace}
use Rattle.ds_report_laws.proofs.Outs.{prints_among, values, run_prints}

-- the lines of prints are those of their values
lines_of_values : (ps : List Print)
    → flat_map (λ (p : Print). value_line p.value) ps ≡ flat_map value_line (values ps)
lines_of_values [] = refl
lines_of_values (p ∷ ps) = ap (λ (lines : List ℕ). value_line p.value ++ lines) (lines_of_values ps)

-- the summary says of the events four counts alone
summary_same : (main : Stop) (prints traps : ℕ) (c d : Tally → ℕ) → c Malloc ≡ d Malloc → c Free ≡ d Free
    → c Note ≡ d Note → c Mark ≡ d Mark → summary_line main prints c traps ≡ summary_line main prints d traps
summary_same main prints traps c d mallocs frees notes marks = rw mallocs (rw frees (rw notes (rw marks refl)))

-- four pieces that are the same
four_same : (a a' b b' c c' d d' : List ℕ) → a ≡ a' → b ≡ b' → c ≡ c' → d ≡ d' → a ++ b ++ c ++ d ≡ a' ++ b' ++ c' ++ d'
four_same a a' b b' c c' d d' p q r s = rw p (rw q (rw r (rw s refl)))

module _ (program : Program) (lim : Bounds) (stops : List Stop) (traces : List (List Step)) (h : History)
    (sixteen : length stops ≡ 16) (sixteen_traces : length traces ≡ 16)
    (takes : Interleaves traces h)
    (explained : IsExplained program lim stops h) where
  abbrev made : List (ℕ × Event)
  made = erase h

  abbrev last : State
  last = state_behind program lim stops h

  same_stops : stops ≡ stops_of last
  same_stops =
      fill_by_all (λ (t : ℕ). stop_of_phase (last.threads t)) stops 16 Idle sixteen (λ t lt. explained.ends t lt)

  -- log steps count as nothing that the summary tells
  same_count : (tally : Tally) → is_tally tally events.Log ≡ false → count_of traces tally ≡ count_among made tally
  same_count tally log =
      events_sum (λ (event : Event). cond (is_tally tally event) 1 0) (ap (λ (b : Bool). cond b 1 0) log) h traces takes

  same_sums : (f : Print → ℕ) → sum_by f (all_prints traces) ≡ sum_by f (prints_among made)
  same_sums f =
      let inner : (steps : List Step)
      → sum_by f (prints_in steps) ≡ sum_by (λ (step : Step). sum_by f (prints_by step.event)) steps =
      λ steps. sum_by-flat_map f (λ (step : Step). prints_by step.event) steps in
      sum_by-flat_map f prints_in traces
      ∙ (sum_by_same (λ (steps : List Step). sum_by f (prints_in steps))
      (λ (steps : List Step). sum_by (λ (step : Step). sum_by f (prints_by step.event)) steps) traces inner
      ∙ (events_sum (λ (event : Event). sum_by f (prints_by event)) refl h traces takes
      ∙ sym (sum_by-flat_map f (λ (e : ℕ × Event). prints_by e.1) made)))

  -- the prints in the order of their numbers are those of the plain run in its order
  same_prints : (prints : List Print) → IsInOrder (all_prints traces) prints → prints ≡ prints_among made
  same_prints prints ordered =
      one_order 0 (prints_among made) prints
      (run_prints (setting_of program lim stops) made (first_state program lim) explained.plain).numbered ordered.rises
      (λ f. sum_by-IsPermutation f (all_prints traces) prints ordered.same ∙ same_sums f)

  same_values : (prints : List Print) → IsInOrder (all_prints traces) prints → values prints ≡ last.out
  same_values prints ordered =
      ap values (same_prints prints ordered)
      ∙ sym (run_prints (setting_of program lim stops) made (first_state program lim) explained.plain).out

  module _ (names : List Name) (trace : Bool) (text : List ℕ) (report : IsReport names stops traces trace text) where
    same_lines : flat_map (λ (p : Print). value_line p.value) report.0 ≡ flat_map value_line last.out
    same_lines =
        lines_of_values report.0 ∙ ap (λ (out : List ℕ). flat_map value_line out) (same_values report.0 report.1)

    same_length : length report.0 ≡ length last.out
    same_length = sym (length-map report.0 (λ (p : Print). p.value)) ∙ ap length (same_values report.0 report.1)

    same_shown : (if trace then trace_lines traces else []) ≡ (if trace then lines_of_threads made else [])
    same_shown = ap (λ (lines : List ℕ). if trace then lines else []) (same_trace h traces sixteen_traces takes)

    same_summary : summary_line (stop_in stops 0) (length report.0) (count_of traces) (count_by is_trap stops)
        ≡ summary_line (stop_of_phase (last.threads 0)) (length last.out) (count_among made)
        (count_by is_trap (stops_of last))
    same_summary =
        ap (λ (n : ℕ). summary_line (stop_in stops 0) n (count_of traces) (count_by is_trap stops)) same_length
        ∙ (summary_same (stop_in stops 0) (length last.out) (count_by is_trap stops) (count_of traces)
        (count_among made) (same_count Malloc refl) (same_count Free refl) (same_count Note refl)
        (same_count Mark refl)
        ∙ (ap (λ (main : Stop). summary_line main (length last.out) (count_among made) (count_by is_trap stops))
        (explained.ends 0 (omega arith))
        ∙ ap (λ (stood : List Stop). summary_line (stop_of_phase (last.threads 0)) (length last.out)
        (count_among made) (count_by is_trap stood)) same_stops))

    pub told : text ≡ report_of names trace made last
    told =
        report.2
        ∙ four_same (flat_map (λ (p : Print). value_line p.value) report.0) (flat_map value_line last.out)
        (if trace then trace_lines traces else []) (if trace then lines_of_threads made else [])
        (stop_lines names stops) (stop_lines names (stops_of last))
        (summary_line (stop_in stops 0) (length report.0) (count_of traces) (count_by is_trap stops))
        (summary_line (stop_of_phase (last.threads 0)) (length last.out) (count_among made)
        (count_by is_trap (stops_of last)))
        same_lines same_shown (ap (λ (stood : List Stop). stop_lines names stood) same_stops) same_summary

-- THE LAWS

pub explained_report : (names : List Name) (trace : Bool) (program : Program) (lim : Bounds) (stops : List Stop)
    (traces : List (List Step)) (text : List ℕ) (h : History) → length stops ≡ 16 → length traces ≡ 16
    → Interleaves traces h → IsExplained program lim stops h → IsReport names stops traces trace text
    → IsReportOfRun names trace (setting_of program lim stops) (erase h) text
explained_report names trace program lim stops traces text h sixteen sixteen_traces takes explained report =
    record {
      run = explained.plain;
      told = told program lim stops traces h sixteen sixteen_traces takes explained names trace text report;
    }

pub report_of_run : (names : List Name) (trace : Bool) (program : Program) (lim : Bounds) (stops : List Stop)
    (traces : List (List Step)) (text : List ℕ) → length stops ≡ 16 → IsRunOf program lim stops traces
    → IsReport names stops traces trace text
    → IsReportOfSomeRun names trace (setting_of program lim stops) text
    × ((h : History) → Interleaves traces h → IsLegalRun program lim h
    → IsReportOfRun names trace (setting_of program lim stops) (erase h) text)
report_of_run names trace program lim stops traces text sixteen run report =
    let every : (h : History) → Interleaves traces h → IsLegalRun program lim h
    → IsReportOfRun names trace (setting_of program lim stops) (erase h) text =
    λ h takes legal. explained_report names trace program lim stops traces text h sixteen run.recorded.sixteen_traces
    takes (run.every_order h takes legal) report in
    (∥∥₁_map run.some_order (λ o. (erase o.0, every o.0 o.1 o.2)), every)
