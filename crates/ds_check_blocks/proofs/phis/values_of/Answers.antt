use Rattle.ds_check_blocks.proofs.Kept.{none_kept, one_kept, not_kept, all_kept}
use Rattle.ds_check_blocks.proofs.phis.values_of.Goals as goal

pub loop-arm-init : goal.loop-arm-init
loop-arm-init c = none_kept c.args.locals.now c.args.predecessors.now.keys c.args.arms.now c.new-values.result
    c.new-values.ensures.empty

pub returns-then-not-branch : goal.returns-then-not-branch
returns-then-not-branch c =
    not_kept c.args.locals.now c.args.predecessors.now.keys c.args.arms.now c.loop-arm.arm-index c.arm-item.result
    c.loop-arm.values c.keep.new.values c.in_ok-keep.field-0 c.loop-arm-test.true
    c.arm-item.is c.if-not-branch.true c.loop-arm.invariant c.in_ok-keep.ensures

pub loop-arm-preserved : goal.loop-arm-preserved
loop-arm-preserved c =
    one_kept c.args.locals.now c.args.predecessors.now.keys c.args.arms.now c.loop-arm.arm-index c.arm-item.result
    c.loop-arm.values c.keep.new.values c.in_ok-keep.field-0 c.loop-arm-test.true
    c.arm-item.is c.if-not-branch.false c.loop-arm.invariant c.in_ok-keep.ensures

pub returns : goal.returns
returns c = all_kept c.args.locals.now c.args.predecessors.now.keys c.args.arms.now c.loop-arm.arm-index
    c.loop-arm.values c.loop-arm-test.false c.loop-arm.invariant
