-- What a run that was reported says of the plain machine.
use Rattle.std.specs.Prelude.{ℕ, false, List}
use Rattle.ds_ast.specs.declared.module.Module.{Module}
use Rattle.ds_map.specs.Bounds.{Bounds}
use Rattle.ds_plain.specs.History.{History, Interleaves, erase}
use Rattle.ds_plain.specs.Explained.{setting_of, IsLegalRun}
use Rattle.ds_core.specs.declared.record.RunRecord.{RunRecord}
use Rattle.ds_report_laws.specs.Told.{IsReportOfRun}
use Rattle.ds_main.specs.Input.{function_names}
use Rattle.ds_main.specs.Run.{read_program}

-- Whichever legal order of the recorded steps is taken, the text is the report of the run of the plain machine on the
-- module that this order is without log steps: of what that run printed, how it left its threads, and its events.
abbrev pub IsReportOfEachOrder : Bounds → Module → RunRecord → List ℕ → Type 0
IsReportOfEachOrder lim m run text =
    (h : History) → Interleaves run.traces h → IsLegalRun (read_program lim m) lim h
    → IsReportOfRun (function_names m) false (setting_of (read_program lim m) lim run.stops) (erase h) text
