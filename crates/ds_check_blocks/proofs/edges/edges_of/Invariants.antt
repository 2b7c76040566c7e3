use Rattle.ds_check_blocks.proofs.Leads.{AreRows}
use Rattle.ds_check_blocks.proofs.edges.edges_of.Given as goal

abbrev pub invariant-loop-block : goal.invariant-loop-block
invariant-loop-block l = AreRows l.locals l.block-index l.graph
