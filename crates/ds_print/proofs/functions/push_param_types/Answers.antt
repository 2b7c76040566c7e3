use Rattle.ds_print.specs.Canonical.{param_type}
use Rattle.ds_print.proofs.Pieces.{listed_item}
use Rattle.ds_print.proofs.functions.push_param_types.Goals as goal

pub loop-index-preserved : goal.loop-index-preserved
loop-index-preserved c =
    listed_item param_type c.args.params.now c.loop-index.index _ c.loop-index-test.true c.index-params-index.is _ _ _
    _ c.loop-index.invariant c.in_ok-push_comma.ensures c.in_ok-push_scalar.ensures
