use Rattle.ds_check_blocks.proofs.Kept.{judged, not_judged, row_inside}
use Rattle.ds_check_blocks.proofs.phis.is_good_phi.Goals as goal

pub row-row-requires : goal.row-row-requires
row-row-requires c =
    row_inside c.args.function.now c.args.predecessors.now c.args.block c.requires.predecessors c.requires.block

pub returns-in-Some : goal.returns-in-Some
returns-in-Some c =
    judged c.args.locals.now c.args.function.now c.args.predecessors.now c.args.block c.row-row.result.now.keys
    c.arms.result.now c.args.op.now c.in_ok-values.field-0 c.in-Some.values
    c.args.behind_phis c.has_each.result c.requires.locals c.requires.predecessors c.row-row.ensures c.arms.ensures
    c.in_ok-values.ensures c.in-Some.is c.has_each.ensures c.if-not-behind_phis.false

pub returns-in-None : goal.returns-in-None
returns-in-None c = λ d front here phis.
    not_judged c.args.locals.now c.args.function.now c.args.predecessors.now c.args.block c.row-row.result.now.keys
    c.arms.result.now c.args.op.now c.in_ok-values.field-0
    c.requires.locals c.requires.predecessors c.row-row.ensures c.arms.ensures c.in_ok-values.ensures c.in-None.is d
    front here
