use Rattle.std.proofs.Common.{◌≡◌, ◌<◌, ℕ, length, sym, ap, ◌∙◌, subst, slice_index_or, arith}
use Rattle.std.specs.Prelude.{◌↔◌, Contains}
use Rattle.ds_ast.specs.declared.module.Function.{Function}
use Rattle.ds_check_blocks.specs.Leads.{LeadsFrom}
use Rattle.ds_check_blocks.proofs.Standing.{got_at}
use Rattle.ds_check_blocks.proofs.Leads.{no_rows, row_more, rows_are_edges}
use Rattle.ds_check_blocks.proofs.edges.edges_of.Goals as goal

pub loop-block-init : goal.loop-block-init
loop-block-init c = no_rows c.args.locals.now c.new-graph.result c.new-graph.ensures

pub loop-block-preserved : goal.loop-block-preserved
loop-block-preserved c =
    let blocks : c.as_slice-block-items.result.now ≡ c.args.locals.now.blocks = c.as_slice-block-items.ensures
    ∙ ap (λ (f : Function). f.blocks) (sym c.requires.same) in
    row_more c.args.locals.now c.loop-block.block-index c.loop-block.graph c.push.new.self
    c.in_ok-targets_of_code.field-0.items c.block-item.result
    (got_at c.args.locals.now.blocks c.loop-block.block-index c.block-item.result
    (subst (λ bs. c.loop-block.block-index < length bs) blocks c.loop-block-test.true)
    (c.block-item.is ∙ ap (λ bs. slice_index_or bs c.loop-block.block-index c.block-item.result) blocks))
    c.loop-block.invariant
    (subst (λ code. (b : ℕ) → Contains c.in_ok-targets_of_code.field-0.items b ↔ LeadsFrom c.args.locals.now b code)
    c.as_slice.ensures c.in_ok-targets_of_code.ensures)
    c.in_ok-push.ensures.ok

pub returns : goal.returns
returns c =
    let blocks : length c.as_slice-block-items.result.now ≡ length c.args.locals.now.blocks =
    ap length (c.as_slice-block-items.ensures ∙ ap (λ (f : Function). f.blocks) (sym c.requires.same)) in
    let all : c.loop-block.block-index ≡ length c.args.locals.now.blocks =
    omega (arith, c.loop-block-test.false, c.loop-block.auto.block-index-end, blocks) in
    rows_are_edges c.args.locals.now c.args.function.now c.loop-block.block-index c.loop-block.graph c.requires.same
    all c.loop-block.invariant
