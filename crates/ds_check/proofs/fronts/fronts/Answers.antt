use Rattle.std.proofs.Common.{subst}
use Rattle.ds_check.specs.Front.{IsFront}
use Rattle.ds_check.proofs.PhiFronts.{front_more}
use Rattle.ds_check.proofs.fronts.fronts.Goals as goal

-- src/fronts.rt:34:5
pub loop-block-preserved : goal.loop-block-preserved
loop-block-preserved c =
    front_more c.args.blocks.now c.loop-block.block-index c.block-item.result c.loop-block.fronts.items
    c.push.new.self.items c.front.result c.loop-block-test.true c.block-item.is
    c.loop-block.invariant (subst (λ code. IsFront code c.front.result) c.as_slice.ensures c.front.ensures)
    c.in_ok-push.ensures.items
