use Rattle.ds_print.specs.Canonical.{operand_pieces}
use Rattle.ds_print.proofs.Pieces.{listed_item}
use Rattle.ds_print.proofs.control.push_args.Goals as goal

pub loop-index-preserved : goal.loop-index-preserved
loop-index-preserved c =
    listed_item operand_pieces c.args.args.now c.loop-index.index _ c.loop-index-test.true c.index-args-index.is _ _ _
    _ c.loop-index.invariant c.in_ok-push_comma.ensures c.in_ok-push_operand.ensures
