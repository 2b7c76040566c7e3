use Rattle.ds_report.proofs.Pieces.{one_more}
use Rattle.ds_report.proofs.stop.push_stopped_at.Goals as goal

pub returns : goal.returns
returns c =
    let old = c.args.text.now.items in
    let two = one_more old _ _ _ _ c.in_ok-push.ensures c.in_ok-push-2.ensures in
    let three = one_more old _ _ _ _ two c.in_ok-push_number.ensures in
    let four = one_more old _ _ _ _ three c.in_ok-push_function.ensures in
    let five = one_more old _ _ _ _ four c.in_ok-push-3.ensures in
    let six = one_more old _ _ _ _ five c.in_ok-push_number-2.ensures in
    one_more old _ _ _ _ six c.in_ok-push-4.ensures
