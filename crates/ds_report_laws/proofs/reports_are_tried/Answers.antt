use Rattle.ds_report_laws.proofs.Tried.{tells_run, tells_trace, tells_stops}
use Rattle.ds_report_laws.proofs.reports_are_tried.Goals as goal

pub returns-clause-tells_a_run : goal.returns-clause-tells_a_run
returns-clause-tells_a_run c = tells_run

pub returns-clause-tells_a_trace : goal.returns-clause-tells_a_trace
returns-clause-tells_a_trace c = tells_trace

pub returns-clause-tells_stops_and_counts : goal.returns-clause-tells_stops_and_counts
returns-clause-tells_stops_and_counts c = tells_stops
