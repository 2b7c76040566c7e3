use Rattle.ds_print.specs.Canonical.{arm_pieces}
use Rattle.ds_print.proofs.Pieces.{listed_item}
use Rattle.ds_print.proofs.selection.push_arms.Goals as goal

pub loop-index-preserved : goal.loop-index-preserved
loop-index-preserved c =
    listed_item (arm_pieces c.args.ty) c.args.arms.now c.loop-index.index _ c.loop-index-test.true
    c.index-arms-index.is _ _ _ _ c.loop-index.invariant c.in_ok-push_comma.ensures c.in_ok-push_arm.ensures
