use Rattle.ds_print.specs.Canonical.{block_pieces}
use Rattle.ds_print.proofs.Pieces.{flat_step}
use Rattle.ds_print.proofs.functions.push_blocks.Goals as goal

pub loop-block-preserved : goal.loop-block-preserved
loop-block-preserved c = flat_step block_pieces c.args.blocks.now c.loop-block.block-index _ c.loop-block-test.true
    c.block-item.is _ _ _ c.loop-block.invariant c.in_ok-push_block.ensures
