-- The report of a run that was worked, by its prints, its stops and its events.
use Rattle.std.proofs.Common.{◌≡◌, ℕ, false, List, [], ◌++◌, length, refl, sym, ap, ◌∙◌}
use Rattle.std.specs.Prelude.{count_by}
use Rattle.std.specs.List.{flat_map}
use Rattle.ds_ast.specs.declared.name.Name.{Name}
use Rattle.ds_plain.specs.declared.Stop.{Stop}
use Rattle.ds_plain.specs.Explained.{stop_in}
use Rattle.ds_report.specs.Stop.{stop_lines, is_trap}
use Rattle.ds_report.specs.Report.{value_line, summary_line}
use Rattle.ds_tried.specs.Programs.{Events}
use Rattle.ds_tried.specs.Modules.{Example, IsWorked, end_of, stops_in}
use Rattle.ds_report_laws.specs.Told.{count_among}
use Rattle.ds_report_laws.specs.Worked.{names_in, Reports}

-- the report by what was printed, the stops and the events
abbrev pub report_by : List Name → (out : List ℕ) → List Stop → Events → List ℕ
report_by names out stops made =
    flat_map value_line out ++ [] ++ stop_lines names stops
    ++ summary_line (stop_in stops 0) (length out) (count_among made) (count_by is_trap stops)

pub worked : (e : Example) (text : List ℕ) → IsWorked e → text ≡ report_by (names_in e) e.out e.stops e.made
    → Reports e text
worked e text w t =
    let prints = ap (λ (out : List ℕ). report_by (names_in e) out (stops_in (end_of e)) e.made) w.prints in
    let stops = ap (λ (stops : List Stop). report_by (names_in e) e.out stops e.made) w.ends in
    record { run = w.run; told = t ∙ sym (prints ∙ stops) }
