use Rattle.ds_core.proofs.Firsts.{one_first}
use Rattle.ds_core.proofs.replaying.first_actors.Goals as goal

pub loop-number-preserved : goal.loop-number-preserved
loop-number-preserved c =
    one_first c.args.code.now c.args.limits.now c.loop-number.number _ _ c.in_ok-new.field-0 c.in_ok-push.ensures.items
    c.in_ok-new.ensures.first c.in_ok-new.ensures.at c.loop-number.invariant
