use Rattle.std.proofs.Common.{◌∙◌, sym}
use Rattle.ds_check_blocks.proofs.Kept.{all_left, one_done, one_without, none_left}
use Rattle.ds_check_blocks.proofs.phis.has_each.Goals as goal

pub loop-block-init : goal.loop-block-init
loop-block-init c = all_left c.args.values.now c.args.predecessors.now.keys c.into_iter-block-iterator.result
    c.into_iter-block-iterator.ensures.into_iter_gives.0

pub loop-block-preserved : goal.loop-block-preserved
loop-block-preserved c =
    one_done c.args.values.now c.args.predecessors.now.keys c.loop-block.block-iterator c.next.new.self
    c.in-Some.block.now c.in-Some.ensures.steps c.loop-block.invariant
    (sym c.contains_key.ensures ∙ c.if-not-contains_key.false)

pub returns-then-not-contains_key : goal.returns-then-not-contains_key
returns-then-not-contains_key c =
    one_without c.args.values.now c.args.predecessors.now.keys c.loop-block.block-iterator c.next.new.self
    c.in-Some.block.now c.in-Some.ensures.steps c.loop-block.invariant
    (sym c.contains_key.ensures ∙ c.if-not-contains_key.true)

pub returns : goal.returns
returns c = none_left c.args.values.now c.args.predecessors.now.keys c.loop-block.block-iterator
    c.in-None.ensures.steps.0 c.loop-block.invariant
