use Rattle.std.proofs.Common.{◌<◌, ◌≤◌, sym, subst, length}
use Rattle.std.specs.Prelude.{Contains}
use Rattle.ds_check_blocks.specs.Predecessors.{AddsEdges}
use Rattle.ds_check_blocks.proofs.Reversed.{none_turned, one_turned, all_turned}
use Rattle.ds_check_blocks.proofs.predecessors.predecessors_of.Goals as goal

pub loop-from-init : goal.loop-from-init
loop-from-init c = none_turned c.args.graph.now c.in_ok-all.all c.len.result c.len.ensures c.in_ok-all.ensures

pub add_all-requires : goal.add_all-requires
add_all-requires c = λ b h.
    subst (λ n. b < n) (sym c.loop-from.invariant.many)
    (c.requires.closed c.loop-from.from b (subst (λ row. Contains row b) c.edges.ensures h))

pub loop-from-preserved : goal.loop-from-preserved
loop-from-preserved c =
    one_turned c.loop-from.from c.args.graph.now c.loop-from.all c.add_all.new.predecessors c.loop-from.invariant
    (subst (λ row. AddsEdges c.loop-from.from row c.loop-from.all c.add_all.new.predecessors) c.edges.ensures
    c.in_ok-add_all.ensures)

pub returns : goal.returns
returns c =
    let far : length c.args.graph.now ≤ c.loop-from.from =
    subst (λ n. n ≤ c.loop-from.from) c.len-from-end.ensures c.loop-from-test.false in
    all_turned c.loop-from.from c.args.graph.now c.loop-from.all far c.loop-from.invariant
