use Rattle.ds_print.specs.Canonical.{global_pieces}
use Rattle.ds_print.proofs.Pieces.{flat_step}
use Rattle.ds_print.proofs.globals.push_globals.Goals as goal

pub loop-global-preserved : goal.loop-global-preserved
loop-global-preserved c = flat_step (global_pieces c.args.lines.now) c.args.globals.now c.loop-global.global-index _
    c.loop-global-test.true c.global-item.is _ _ _ c.loop-global.invariant c.in_ok-push_global_line.ensures
