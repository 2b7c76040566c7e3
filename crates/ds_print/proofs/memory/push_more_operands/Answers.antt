use Rattle.ds_print.specs.Canonical.{operand_pieces}
use Rattle.ds_print.proofs.Pieces.{more_item}
use Rattle.ds_print.proofs.memory.push_more_operands.Goals as goal

pub loop-operand-preserved : goal.loop-operand-preserved
loop-operand-preserved c =
    more_item operand_pieces c.args.operands.now c.loop-operand.operand-index _ c.loop-operand-test.true
    c.operand-item.is _ _ _ _ c.loop-operand.invariant c.in_ok-push.ensures c.in_ok-push_operand.ensures
