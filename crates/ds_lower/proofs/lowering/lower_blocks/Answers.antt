use Rattle.std.proofs.Common.{sym, subst}
use Rattle.ds_ast.specs.declared.module.Block.{Block}
use Rattle.ds_lower.specs.Known.{AllFit}
use Rattle.ds_lower.proofs.Typed.{item_has}
use Rattle.ds_lower.proofs.lowering.lower_blocks.Goals as goal

pub push_block-requires : goal.push_block-requires
push_block-requires c =
    subst (λ is. AllFit c.args.scope.now.structs is) (sym c.as_slice.ensures)
    (item_has (λ (b : Block). AllFit c.args.scope.now.structs b.code) c.args.blocks.now c.loop-n.n
    c.index-blocks-n.result c.requires c.loop-n-test.true c.index-blocks-n.is)
