-- A search that met no cycle finished the nodes in order.
use Rattle.ds_graph.proofs.ordering.order.Goals as goal

pub returns : goal.returns
returns c = record {
  many = c.in_ok-found.ensures.many;
  each =
      c.in_ok-found.ensures.each;
  behind = c.in_ok-found.ensures.ordered c.if-found.false;
}
