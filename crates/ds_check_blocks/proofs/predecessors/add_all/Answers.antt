use Rattle.std.proofs.Common.{get_or, refl, subst}
use Rattle.std.proofs.lemmas.List.{take_all}
use Rattle.ds_check_blocks.specs.Predecessors.{AddsEdges}
use Rattle.ds_check_blocks.proofs.Reversed.{none_added, next_inside, one_added}
use Rattle.ds_check_blocks.proofs.predecessors.add_all.Goals as goal

pub loop-to-init : goal.loop-to-init
loop-to-init c = none_added c.args.from c.args.targets.now c.args.predecessors.now

pub add-requires : goal.add-requires
add-requires c =
    next_inside c.args.from c.loop-to.to-index (get_or c.args.targets.now c.loop-to.to-index 0) c.args.targets.now
    c.args.predecessors.now c.loop-to.predecessors c.loop-to-test.true refl c.requires
    c.loop-to.invariant

pub loop-to-preserved : goal.loop-to-preserved
loop-to-preserved c =
    one_added c.args.from c.loop-to.to-index (get_or c.args.targets.now c.loop-to.to-index 0) c.args.targets.now
    c.args.predecessors.now c.loop-to.predecessors c.add.new.self c.loop-to-test.true refl
    c.loop-to.invariant c.in_ok-add.ensures

pub returns : goal.returns
returns c = subst (λ targets. AddsEdges c.args.from targets c.args.predecessors.now c.loop-to.predecessors)
    (take_all c.loop-to.to-index c.args.targets.now c.loop-to-test.false) c.loop-to.invariant
