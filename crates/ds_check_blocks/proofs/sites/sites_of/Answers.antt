use Rattle.std.proofs.Common.{◌∙◌, ap, sym, length}
use Rattle.ds_ast.specs.declared.module.Block.{Block}
use Rattle.ds_check_blocks.proofs.SitesOf.{blocks_pushed}
use Rattle.ds_check_blocks.proofs.sites.sites_of.Goals as goal

-- src/sites.rt:34:5
pub loop-i-preserved : goal.loop-i-preserved
loop-i-preserved c =
    blocks_pushed c.args.blocks.now c.loop-i.i c.index-blocks-i.result c.loop-i.sites.items
    c.push_block.new.sites.items c.len.result c.loop-i-test.true c.index-blocks-i.is
    c.loop-i.invariant (c.len.ensures ∙ ap (λ (b : Block). length b.code) (sym c.index-blocks-i.is))
    c.in_ok-push_block.ensures
