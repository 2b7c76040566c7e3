use Rattle.ds_report_laws.proofs.Reports.{explained_report}
use Rattle.ds_report_laws.proofs.explained_reports.Goals as goal

pub returns : goal.returns
returns c = explained_report
