use Rattle.ds_print.specs.Canonical.{case_pieces}
use Rattle.ds_print.proofs.Pieces.{flat_step}
use Rattle.ds_print.proofs.control.push_cases.Goals as goal

pub loop-case-preserved : goal.loop-case-preserved
loop-case-preserved c = flat_step (case_pieces c.args.ty) c.args.cases.now c.loop-case.case-index _
    c.loop-case-test.true c.case-item.is _ _ _ c.loop-case.invariant c.in_ok-push_case.ensures
