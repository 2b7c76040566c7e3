use Rattle.std.proofs.Common.{◌≡◌, ◌<◌, ◌≤◌, ◌+◌, length, slice_index_or, ap, ◌∙◌, subst, arith}
use Rattle.ds_ast.specs.declared.module.Block.{Block}
use Rattle.ds_main.proofs.Counts.{next_fits}
use Rattle.ds_main.proofs.accepted.instruction_count.Goals as goal

pub overflow_add-count : goal.overflow_add-count
overflow_add-count c =
    let there : c.as_slice-block-items.result.now ≡ c.args.f.now.blocks = c.as_slice-block-items.ensures in
    let fits : c.loop-block.count + length c.block-item.result.code ≤ 200000 =
    next_fits (λ (b : Block). b.code) c.args.f.now.blocks c.loop-block.block-index c.block-item.result
    c.loop-block.count 200000
    (subst (λ bs. c.loop-block.block-index < length bs) there c.loop-block-test.true)
    (c.block-item.is ∙ ap (λ bs. slice_index_or bs c.loop-block.block-index c.block-item.result) there)
    c.loop-block.invariant c.requires in
    omega (arith, fits, c.len-count.ensures)
