use Rattle.ds_ast.specs.declared.operand.Arm.{Arm}
use Rattle.ds_shape.specs.Placed.{IsDefined}
use Rattle.ds_shape.specs.Operands.{uses_of}
use Rattle.ds_shape.specs.Flow.{arms_of}
use Rattle.ds_check.proofs.Defined.{all_operands}
use Rattle.ds_check.proofs.operands.are_operands_defined.Goals as goal

pub returns : goal.returns
returns c =
    all_operands (IsDefined c.args.entities.now c.args.locals.now) (λ (a : Arm). a.value) (uses_of c.args.op.now)
    (arms_of c.args.op.now) c.are_arms_defined.result
    (c.are_uses_defined.ensures.0 c.if-not-are_uses_defined.false) c.are_arms_defined.ensures
