use Rattle.ds_print.specs.Canonical.{type_pieces}
use Rattle.ds_print.proofs.Pieces.{spaced_item}
use Rattle.ds_print.proofs.structs.push_fields.Goals as goal

pub loop-index-preserved : goal.loop-index-preserved
loop-index-preserved c =
    spaced_item type_pieces c.args.fields.now c.loop-index.index _ c.loop-index-test.true c.index-fields-index.is _ _
    _ _ c.loop-index.invariant c.in_ok-push_space.ensures c.in_ok-push_type.ensures
