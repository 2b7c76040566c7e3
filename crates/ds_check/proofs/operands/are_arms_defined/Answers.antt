use Rattle.std.proofs.Common.{sym, ◌∙◌, true≢false}
use Rattle.ds_ast.specs.declared.operand.Arm.{Arm}
use Rattle.ds_shape.specs.Placed.{IsDefined}
use Rattle.ds_shape.specs.Flow.{arms_of}
use Rattle.ds_shape.specs.Breaches.{item_breaks, item_kept, items_kept}
use Rattle.ds_check.proofs.operands.are_arms_defined.Goals as goal

pub returns-then-not-is_defined : goal.returns-then-not-is_defined
returns-then-not-is_defined c =
    item_breaks (λ (a : Arm). IsDefined c.args.entities.now c.args.locals.now a.value) (arms_of c.args.op.now)
    c.arms-arm-items.result.now c.loop-arm.arm-index c.arm-item.result
    c.arms-arm-items.ensures c.loop-arm-test.true c.arm-item.is
    (λ d. true≢false (sym (c.is_defined.ensures.1 d) ∙ c.if-not-is_defined.true))

pub loop-arm-preserved : goal.loop-arm-preserved
loop-arm-preserved c =
    item_kept (λ (a : Arm). IsDefined c.args.entities.now c.args.locals.now a.value) (arms_of c.args.op.now)
    c.arms-arm-items.result.now c.loop-arm.arm-index c.arm-item.result
    c.arms-arm-items.ensures c.loop-arm-test.true c.arm-item.is c.loop-arm.invariant
    (c.is_defined.ensures.0 c.if-not-is_defined.false)

pub returns : goal.returns
returns c =
    items_kept (λ (a : Arm). IsDefined c.args.entities.now c.args.locals.now a.value) (arms_of c.args.op.now)
    c.arms-arm-items.result.now c.loop-arm.arm-index
    c.arms-arm-items.ensures c.loop-arm-test.false c.loop-arm.invariant
