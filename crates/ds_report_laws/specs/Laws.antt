-- The statements of the laws.
use Rattle.std.specs.Prelude.{◌≡◌, ℕ, Bool, List, length}
use Rattle.ds_ast.specs.declared.name.Name.{Name}
use Rattle.ds_map.specs.Bounds.{Bounds}
use Rattle.ds_step.specs.declared.Step.{Step}
use Rattle.ds_plain.specs.declared.Stop.{Stop}
use Rattle.ds_plain.specs.Behaviour.{Program}
use Rattle.ds_plain.specs.History.{History, Interleaves, erase}
use Rattle.ds_plain.specs.Explained.{setting_of, IsExplained, IsLegalRun, IsRunOf}
use Rattle.ds_report.specs.Report.{IsReport}
use Rattle.ds_report_laws.specs.Told.{IsReportOfRun, IsReportOfSomeRun}

-- Where an order of the traces is explained, the report of the record is that of the run of the plain machine which
-- this order is without log steps.
abbrev pub ExplainedReports : Type 0
ExplainedReports = (names : List Name) (trace : Bool) (program : Program) (lim : Bounds) (stops : List Stop)
    (traces : List (List Step)) (text : List ℕ) (h : History) →
    length stops ≡ 16 → length traces ≡ 16 → Interleaves traces h → IsExplained program lim stops h
    → IsReport names stops traces trace text
    → IsReportOfRun names trace (setting_of program lim stops) (erase h) text

-- The report of a record that is of a run of the program is the report of a run of the plain machine on that program;
-- and whichever legal order of the traces is taken, it is that of the run which this order is without log steps.
abbrev pub ReportsOfRuns : Type 0
ReportsOfRuns = (names : List Name) (trace : Bool) (program : Program) (lim : Bounds) (stops : List Stop)
    (traces : List (List Step)) (text : List ℕ) →
    length stops ≡ 16 → IsRunOf program lim stops traces → IsReport names stops traces trace text
    → IsReportOfSomeRun names trace (setting_of program lim stops) text
    × ((h : History) → Interleaves traces h → IsLegalRun program lim h
    → IsReportOfRun names trace (setting_of program lim stops) (erase h) text)
