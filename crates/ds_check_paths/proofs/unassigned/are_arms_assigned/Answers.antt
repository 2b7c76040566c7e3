use Rattle.std.proofs.Common.{sym, ◌∙◌, true≢false}
use Rattle.ds_shape.specs.Placed.{IsAssignedArm}
use Rattle.ds_shape.specs.Flow.{arms_of}
use Rattle.ds_shape.specs.Breaches.{item_breaks, item_kept, items_kept}
use Rattle.ds_check_paths.proofs.unassigned.are_arms_assigned.Goals as goal

pub returns-then-not-branch : goal.returns-then-not-branch
returns-then-not-branch c =
    item_breaks (IsAssignedArm c.args.flow.now) (arms_of c.args.op.now) c.arms-arm-items.result.now
    c.loop-arm.arm-index c.arm-item.result c.arms-arm-items.ensures c.loop-arm-test.true
    c.arm-item.is (λ a. true≢false (sym (c.in_ok-is_assigned_arm.ensures.1 a) ∙ c.if-not-branch.true))

pub loop-arm-preserved : goal.loop-arm-preserved
loop-arm-preserved c =
    item_kept (IsAssignedArm c.args.flow.now) (arms_of c.args.op.now) c.arms-arm-items.result.now c.loop-arm.arm-index
    c.arm-item.result c.arms-arm-items.ensures c.loop-arm-test.true
    c.arm-item.is c.loop-arm.invariant (c.in_ok-is_assigned_arm.ensures.0 c.if-not-branch.false)

pub returns : goal.returns
returns c =
    items_kept (IsAssignedArm c.args.flow.now) (arms_of c.args.op.now) c.arms-arm-items.result.now c.loop-arm.arm-index
    c.arms-arm-items.ensures c.loop-arm-test.false c.loop-arm.invariant
