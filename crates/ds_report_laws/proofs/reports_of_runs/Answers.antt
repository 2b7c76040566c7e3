use Rattle.ds_report_laws.proofs.Reports.{report_of_run}
use Rattle.ds_report_laws.proofs.reports_of_runs.Goals as goal

pub returns : goal.returns
returns c = report_of_run
