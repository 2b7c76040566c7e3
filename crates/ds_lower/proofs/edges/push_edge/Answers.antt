use Rattle.std.proofs.Common.{map, ap, sym, ◌∙◌}
use Rattle.ds_code.specs.Lowering.{edge_of}
use Rattle.ds_lower.proofs.Ways.{label_there}
use Rattle.ds_lower.proofs.edges.push_edge.Goals as goal

pub returns-else-branch : goal.returns-else-branch
returns-else-branch c = λ e.
    let there = c.in_ok-put.ensures.there c.if-branch.false in (
      e ∙ ap (λ ls. map (edge_of c.args.scope.now c.args.local.now c.args.from.now) ls) (sym there.1),
      label_there c.args.labels.now c.put.new.self c.args.label.now there.0 there.1,
    )
