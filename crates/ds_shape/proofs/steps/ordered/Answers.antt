use Rattle.std.proofs.Common.{◌∙◌, List, ap, sym, subst}
use Rattle.ds_ast.specs.declared.name.Name.{Name}
use Rattle.ds_graph.specs.Graph.{IsClosed}
use Rattle.ds_shape.specs.Index.{holdings}
use Rattle.ds_shape.proofs.Holding.{are_closed}
use Rattle.ds_shape.proofs.steps.ordered.Goals as goal

pub order-requires-clause-closed : goal.order-requires-clause-closed
order-requires-clause-closed c =
    subst IsClosed
    (sym (c.in_ok-graph.ensures ∙ ap (λ (ns : List Name). holdings ns c.args.structs.now) c.requires.named))
    (are_closed c.args.structs.now c.requires.distinct)
