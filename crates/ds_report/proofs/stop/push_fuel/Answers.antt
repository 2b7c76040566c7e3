use Rattle.ds_report.proofs.Pieces.{three_more}
use Rattle.ds_report.proofs.stop.push_fuel.Goals as goal

pub returns : goal.returns
returns c = three_more _ _ _ _ _ _ _ c.in_ok-push.ensures c.in_ok-push_number.ensures c.in_ok-push-2.ensures
