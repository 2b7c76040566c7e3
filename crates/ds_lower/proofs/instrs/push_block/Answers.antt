use Rattle.std.specs.Prelude.{All}
use Rattle.ds_ast.specs.declared.instr.Instr.{Instr}
use Rattle.ds_shape.specs.Fits.{Fits}
use Rattle.ds_shape.specs.Written.{types_of_op}
use Rattle.ds_lower.proofs.Typed.{item_has}
use Rattle.ds_lower.proofs.instrs.push_block.Goals as goal

pub lower_instr-requires : goal.lower_instr-requires
lower_instr-requires c =
    item_has (λ (i : Instr). All (Fits c.args.scope.now.structs) (types_of_op i.op)) c.args.instrs.now c.loop-n.n
    c.index-instrs-n-in-loop-n.result c.requires c.loop-n-test.true c.index-instrs-n-in-loop-n.is
