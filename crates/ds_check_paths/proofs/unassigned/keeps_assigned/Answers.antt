use Rattle.ds_check_paths.proofs.Told.{arms_told}
use Rattle.ds_check_paths.proofs.unassigned.keeps_assigned.Goals as goal

pub returns : goal.returns
returns c =
    arms_told c.args.flow.now c.args.site c.op-op.result.now c.op-op.ensures c.in_ok-are_uses_assigned.field-0
    c.in_ok-are_uses_assigned.ensures c.if-not-branch.false c.are_arms_assigned.result
    c.are_arms_assigned.ensures
