-- One node more is on no cycle; some node is on one.
use Rattle.std.proofs.Common.{arith}
use Rattle.ds_graph.specs.Graph.{IsOnCycle}
use Rattle.ds_graph.proofs.Ranked.{none_more, cycle_inside}
use Rattle.ds_graph.proofs.cycle.first_on_cycle.Goals as goal

pub loop-node-preserved : goal.loop-node-preserved
loop-node-preserved c =
    none_more (IsOnCycle c.args.graph.now) c.loop-node.node c.in_ok-is_on_cycle.field-0 c.loop-node.invariant
    c.if-branch.false c.in_ok-is_on_cycle.ensures.1

pub unreachable-requires : goal.unreachable-requires
unreachable-requires c =
    let inside = cycle_inside c.args.graph.now c.requires.cyclic.0 c.requires.cyclic.1.0 c.requires.cyclic.1.1 in
    c.loop-node.invariant c.requires.cyclic.0 (omega (arith, inside, c.len-node-end.ensures, c.loop-node-test.false))
    c.requires.cyclic.1
