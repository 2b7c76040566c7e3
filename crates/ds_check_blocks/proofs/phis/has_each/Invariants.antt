use Rattle.ds_check_blocks.proofs.Kept.{AreLeft}
use Rattle.ds_check_blocks.proofs.phis.has_each.Given as goal

abbrev pub invariant-loop-block : goal.invariant-loop-block
invariant-loop-block l = AreLeft l.values l.predecessors.keys l.block-iterator
