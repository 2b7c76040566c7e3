use Rattle.ds_print.specs.Canonical.{function_pieces}
use Rattle.ds_print.proofs.Pieces.{flat_step}
use Rattle.ds_print.proofs.functions.push_functions.Goals as goal

pub loop-function-preserved : goal.loop-function-preserved
loop-function-preserved c = flat_step function_pieces c.args.functions.now c.loop-function.function-index _
    c.loop-function-test.true c.function-item.is _ _ _ c.loop-function.invariant c.in_ok-push_function.ensures
