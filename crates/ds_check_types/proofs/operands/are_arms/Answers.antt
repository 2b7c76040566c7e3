use Rattle.ds_ast.specs.declared.operand.Arm.{Arm}
use Rattle.ds_shape.specs.Operands.{typed}
use Rattle.ds_shape.specs.Types.{IsTypedOperand}
use Rattle.ds_check_types.proofs.Listed.{images}
use Rattle.ds_check_types.proofs.operands.are_arms.Goals as goal

pub returns : goal.returns
returns c = images (IsTypedOperand c.args.entities.now c.args.locals.now) (λ (a : Arm). typed c.args.ty a.value)
    c.args.arms.now c.have_type.result c.have_type.ensures
