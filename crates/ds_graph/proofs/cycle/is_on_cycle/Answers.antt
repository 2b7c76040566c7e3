-- A node from which each edge rises is on no cycle.
use Rattle.std.proofs.Common.{length, refl, sym, subst, true≢false}
use Rattle.std.specs.Prelude.{Contains}
use Rattle.ds_graph.proofs.Searched.{row_inside}
use Rattle.ds_graph.proofs.Ranked.{risen}
use Rattle.ds_graph.proofs.cycle.is_on_cycle.Goals as goal

pub rises-requires : goal.rises-requires
rises-requires c =
    row_inside c.args.graph.now c.edges.result.now c.args.node (length c.args.ranks.now) c.requires.closed
    c.edges.ensures c.requires.many

pub returns-then-rises : goal.returns-then-rises
returns-then-rises c = (
  λ h. absurd (true≢false (sym h)),
  λ h. absurd (risen c.args.graph.now c.args.ranks.now c.args.node h.0 c.requires.monotone
      (λ b edge. c.if-rises.ensures.0 refl b (subst (λ r. Contains r b) (sym c.edges.ensures) edge)) h.1),
)
