use Rattle.std.proofs.Common.{◌≡◌, take}
use Rattle.ds_check_blocks.specs.Sites.{sites_from}
use Rattle.ds_check_blocks.proofs.sites.sites_of.Given as goal

abbrev pub invariant-loop-i : goal.invariant-loop-i
invariant-loop-i l = l.sites.items ≡ sites_from 0 (take l.i l.fn.blocks)
