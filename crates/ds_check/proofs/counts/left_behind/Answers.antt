use Rattle.std.proofs.Common.{◌≡◌, ◌<◌, length, slice_index_or, ap, ◌∙◌, subst, arith}
use Rattle.ds_ast.specs.declared.module.Block.{Block}
use Rattle.ds_check.proofs.Downward.{runs_out}
use Rattle.ds_check.proofs.counts.left_behind.Goals as goal

-- src/counts.rt:17:21
pub returns-in-None : goal.returns-in-None
returns-in-None c =
    let less : c.loop-block.rest < length c.block-item.result.code = grind (arith, c.in-None.ensures, c.len.ensures) in
    let there : c.as_slice-block-items.result.now ≡ c.args.f.now.blocks = c.as_slice-block-items.ensures in
    runs_out (λ (b : Block). b.code) c.args.f.now.blocks c.loop-block.block-index c.block-item.result c.loop-block.rest
    c.args.left
    (subst (λ bs. c.loop-block.block-index < length bs) there c.loop-block-test.true)
    (c.block-item.is ∙ ap (λ bs. slice_index_or bs c.loop-block.block-index c.block-item.result) there)
    c.loop-block.invariant less
