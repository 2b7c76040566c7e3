-- The report of a run.
use Rattle.std.specs.Prelude.{◌≡◌, ℕ, Bool, if◌then◌else◌, List, [], ◌++◌, length, count_by, codes, decimal}
use Rattle.std.specs.List.{flat_map}
use Rattle.ds_ast.specs.declared.name.Name.{Name}
use Rattle.ds_step.specs.declared.Step.{Step}
use Rattle.ds_plain.specs.declared.Stop.{Stop}
use Rattle.ds_plain.specs.Explained.{stop_in}
use Rattle.ds_report.specs.declared.prints.Print.{Print}
use Rattle.ds_report.specs.declared.counts.Tally.{Tally}
use Rattle.ds_report.specs.declared.counts.Tally.TheVariants.{Malloc, Free, Note, Mark}
use Rattle.ds_report.specs.Text.{signed_text}
use Rattle.ds_report.specs.Prints.{all_prints, IsInOrder}
use Rattle.ds_report.specs.Trace.{trace_lines}
use Rattle.ds_report.specs.Stop.{stop_lines, how_text, is_trap}
use Rattle.ds_report.specs.Counts.{count_of}

-- the line of a value that was printed
abbrev pub value_line : ℕ → List ℕ
value_line value = signed_text value ++ codes "\n"

-- the number of events that count as this, behind what they are called
abbrev pub count_text : List ℕ → ℕ → List ℕ
count_text what count = codes " " ++ what ++ codes " " ++ decimal count

-- the last line: how main ended, the number of prints, how many events count as what, and how many threads trapped
abbrev pub summary_line : Stop → (prints : ℕ) → (Tally → ℕ) → (traps : ℕ) → List ℕ
summary_line main prints count traps =
    codes "main " ++ how_text main ++ codes ";" ++ count_text (codes "prints") prints
    ++ count_text (codes "mallocs") (count Malloc) ++ count_text (codes "frees") (count Free)
    ++ count_text (codes "notes") (count Note) ++ count_text (codes "marks") (count Mark)
    ++ count_text (codes "traps") traps ++ codes "\n"

-- The report of a run of the module whose functions have these names: a line for each print, in the order of their
-- numbers; the trace where it is asked for; the stop lines in the order of the threads; and the summary.
abbrev pub IsReport : List Name → List Stop → List (List Step) → (trace : Bool) → List ℕ → Type 0
IsReport names stops traces trace text =
    (prints : List Print) × IsInOrder (all_prints traces) prints
    × (text ≡ flat_map (λ print. value_line print.value) prints ++ (if trace then trace_lines traces else [])
    ++ stop_lines names stops
    ++ summary_line (stop_in stops 0) (length prints) (count_of traces) (count_by is_trap stops))
