use Rattle.ds_ast.specs.declared.instr.Instr.{Instr}
use Rattle.ds_shape.specs.Written.{types_of_op}
use Rattle.ds_shape.proofs.Lists.{flat_step}
use Rattle.ds_shape.proofs.lines.push_types_of_code.Goals as goal

pub loop-instr-preserved : goal.loop-instr-preserved
loop-instr-preserved c =
    flat_step (λ (i : Instr). types_of_op i.op) c.args.code.now c.loop-instr.instr-index _ c.loop-instr-test.true
    c.instr-item.is _ _ _ c.loop-instr.invariant c.in_ok-push_type_of_op.ensures
