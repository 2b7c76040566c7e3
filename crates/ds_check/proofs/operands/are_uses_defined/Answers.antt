use Rattle.ds_shape.specs.Placed.{IsDefined}
use Rattle.ds_shape.specs.Operands.{uses_of}
use Rattle.ds_check.proofs.Defined.{judged_more, judged_not, judged_all}
use Rattle.ds_check.proofs.operands.are_uses_defined.Goals as goal

pub returns-then-not-is_defined_at : goal.returns-then-not-is_defined_at
returns-then-not-is_defined_at c =
    judged_not (IsDefined c.args.entities.now c.args.locals.now) (uses_of c.args.op.now) c.loop-n.n
    c.use_count-n-end.result c.is_defined_at.result c.use_count-n-end.ensures
    c.loop-n-test.true c.is_defined_at.ensures c.if-not-is_defined_at.true

pub loop-n-preserved : goal.loop-n-preserved
loop-n-preserved c =
    judged_more (IsDefined c.args.entities.now c.args.locals.now) (uses_of c.args.op.now) c.loop-n.n
    c.use_count-n-end.result c.is_defined_at.result c.use_count-n-end.ensures
    c.loop-n-test.true c.is_defined_at.ensures c.loop-n.invariant c.if-not-is_defined_at.false

pub returns : goal.returns
returns c = judged_all (IsDefined c.args.entities.now c.args.locals.now) (uses_of c.args.op.now) c.loop-n.n
    c.use_count-n-end.result c.use_count-n-end.ensures c.loop-n-test.false c.loop-n.invariant
