use Rattle.std.proofs.Common.{take}
use Rattle.ds_shape.specs.Placed.{IsAssignedUse}
use Rattle.ds_shape.specs.Operands.{uses_of}
use Rattle.ds_check_paths.proofs.Told.{judged_more, judged_all}
use Rattle.ds_check_paths.proofs.unassigned.are_uses_assigned.Goals as goal

pub loop-n-preserved : goal.loop-n-preserved
loop-n-preserved c = λ b at.
    judged_more (IsAssignedUse c.args.flow.now b (take c.args.site.index b.code)) (uses_of c.args.op.now) c.loop-n.n
    c.use_count-n-end.result c.in_ok-is_assigned_at.field-0
    c.use_count-n-end.ensures c.loop-n-test.true (c.in_ok-is_assigned_at.ensures b at) (c.loop-n.invariant b at)
    c.if-not-branch.false

pub returns : goal.returns
returns c = λ b at.
    judged_all (IsAssignedUse c.args.flow.now b (take c.args.site.index b.code)) (uses_of c.args.op.now) c.loop-n.n
    c.use_count-n-end.result c.use_count-n-end.ensures c.loop-n-test.false
    (c.loop-n.invariant b at)
