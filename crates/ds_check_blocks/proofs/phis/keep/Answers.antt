use Rattle.std.proofs.Common.{◌∙◌, sym, refl, arith}
use Rattle.ds_check_blocks.proofs.Leads.{label_inside}
use Rattle.ds_check_blocks.proofs.Kept.{no_block, foreign, seen, inserted}
use Rattle.ds_check_blocks.proofs.phis.keep.Goals as goal

pub overflow_cast-block : goal.overflow_cast-block
overflow_cast-block c =
    let inside = label_inside c.args.locals.now c.args.arm.now.from c.in-Some.block
    ((c.block.ensures c.in-Some.block).0 c.in-Some.is) in
    omega (arith, inside, c.requires)

pub returns-in_default : goal.returns-in_default
returns-in_default c = no_block c.args.locals.now c.args.predecessors.now c.args.arm.now c.args.values.now
    c.block.result c.block.ensures c.args.values.now c.in_default.is

pub returns-then-not-contains : goal.returns-then-not-contains
returns-then-not-contains c =
    foreign c.args.locals.now c.args.predecessors.now c.args.arm.now c.args.values.now c.block.result c.block.ensures
    c.in-Some.block c.in-Some.is c.args.values.now
    (sym c.contains.ensures ∙ c.if-not-contains.true)

pub returns-in-Some-get : goal.returns-in-Some-get
returns-in-Some-get c =
    seen c.args.locals.now c.args.predecessors.now c.args.arm.now c.args.values.now c.block.result c.block.ensures
    c.in-Some.block c.in-Some.is
    (sym c.contains.ensures ∙ c.if-not-contains.false) c.in-Some-get.value.now c.eq.result c.in-Some-get.ensures.value
    c.eq.ensures.value

pub returns-in_ok-insert-in-None : goal.returns-in_ok-insert-in-None
returns-in_ok-insert-in-None c =
    inserted c.args.locals.now c.args.predecessors.now c.args.arm.now c.args.values.now c.block.result c.block.ensures
    c.in-Some.block c.in-Some.is
    (sym c.contains.ensures ∙ c.if-not-contains.false) c.insert.new.self _ refl c.in-None.ensures.value
    c.in_ok-insert-in-None.ensures.updates.1 c.in_ok-insert-in-None.ensures.updates.2
