use Rattle.std.proofs.Common.{◌≡◌, ◌++◌}
use Rattle.ds_check_blocks.specs.Sites.{sites_in}
use Rattle.ds_check_blocks.proofs.sites.push_block.Given as goal

abbrev pub invariant-loop-index : goal.invariant-loop-index
invariant-loop-index l = l.sites.items ≡ l.fn.sites.items ++ sites_in l.fn.block 0 l.index
