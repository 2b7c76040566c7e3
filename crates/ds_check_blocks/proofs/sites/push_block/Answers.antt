use Rattle.ds_check_blocks.proofs.SitesOf.{pushed}
use Rattle.ds_check_blocks.proofs.sites.push_block.Goals as goal

-- src/sites.rt:23:5
pub loop-index-preserved : goal.loop-index-preserved
loop-index-preserved c = pushed c.args.sites.now.items c.loop-index.sites.items c.push.new.self.items c.args.block
    c.loop-index.index c.loop-index.invariant c.in_ok-push.ensures.items
