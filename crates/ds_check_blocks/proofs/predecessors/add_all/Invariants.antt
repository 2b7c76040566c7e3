use Rattle.std.proofs.Common.{take}
use Rattle.ds_check_blocks.specs.Predecessors.{AddsEdges}
use Rattle.ds_check_blocks.proofs.predecessors.add_all.Given as goal

abbrev pub invariant-loop-to : goal.invariant-loop-to
invariant-loop-to l = AddsEdges l.from (take l.to-index l.targets) l.fn.predecessors l.predecessors
