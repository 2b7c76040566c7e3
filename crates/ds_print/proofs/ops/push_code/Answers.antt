use Rattle.ds_print.specs.Canonical.{instr_pieces}
use Rattle.ds_print.proofs.Pieces.{flat_step}
use Rattle.ds_print.proofs.ops.push_code.Goals as goal

pub loop-instr-preserved : goal.loop-instr-preserved
loop-instr-preserved c = flat_step instr_pieces c.args.code.now c.loop-instr.instr-index _ c.loop-instr-test.true
    c.instr-item.is _ _ _ c.loop-instr.invariant c.in_ok-push_instr.ensures
