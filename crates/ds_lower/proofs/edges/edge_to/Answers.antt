use Rattle.ds_lower.proofs.Ways.{block_inside, edge_there}
use Rattle.ds_lower.proofs.edges.edge_to.Goals as goal

pub phis-requires : goal.phis-requires
phis-requires c =
    block_inside c.args.local.now c.args.label.now c.block_number.result c.in-Some.number c.block_number.ensures
    c.in-Some.is

pub offset-requires : goal.offset-requires
offset-requires c =
    block_inside c.args.local.now c.args.label.now c.block_number.result c.in-Some.number c.block_number.ensures
    c.in-Some.is

pub returns-in_ok-copies-in-Some : goal.returns-in_ok-copies-in-Some
returns-in_ok-copies-in-Some c =
    edge_there c.args.scope.now c.args.local.now c.args.from.now c.args.label.now c.block_number.result c.in-Some.number
    c.offset.result c.in_ok-copies-in-Some.copies c.phis.result.now c.block_number.ensures c.in-Some.is c.offset.ensures
    c.phis.ensures c.in_ok-copies-in-Some.ensures
