-- The edges of a node lead to nodes, and its mark tells whether some path leads back.
use Rattle.std.proofs.Common.{◌<◌, ◌≡◌, All, arith, false, get_or, length, subst, sym}
use Rattle.std.proofs.lemmas.List.{get_or_read}
use Rattle.ds_graph.proofs.Nodes.{edges_inside}
use Rattle.ds_graph.proofs.Around.{around}
use Rattle.ds_graph.proofs.cycle.reaches_itself.Goals as goal

pub reach-requires-clause-within : goal.reach-requires-clause-within
reach-requires-clause-within c =
    subst (All (λ a. a < length c.args.graph.now)) (sym c.edges.ensures)
    (edges_inside c.args.graph.now c.args.node c.requires.closed)

pub returns : goal.returns
returns c =
    let marks = c.in_ok-marks.marks.items in
    let low : c.args.node < length marks = omega (arith, c.in_ok-marks.ensures.many, c.requires.within) in
    let read : c.index.result.now ≡ get_or marks c.args.node false =
    get_or_read marks c.args.node c.index.result.now low c.index.ensures false in
    around c.args.graph.now c.edges.result.now marks c.args.node c.index.result.now c.edges.ensures
    (c.in_ok-marks.ensures.marked c.args.node) read
