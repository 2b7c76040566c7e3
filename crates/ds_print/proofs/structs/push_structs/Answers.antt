use Rattle.ds_print.specs.Canonical.{struct_pieces}
use Rattle.ds_print.proofs.Pieces.{flat_step}
use Rattle.ds_print.proofs.structs.push_structs.Goals as goal

pub loop-line-preserved : goal.loop-line-preserved
loop-line-preserved c = flat_step struct_pieces c.args.lines.now c.loop-line.line-index _ c.loop-line-test.true
    c.line-item.is _ _ _ c.loop-line.invariant c.in_ok-push_struct.ensures
