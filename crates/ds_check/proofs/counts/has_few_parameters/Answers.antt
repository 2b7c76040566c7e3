use Rattle.std.proofs.Common.{◌≡◌, ◌<◌, ◌≤◌, length, slice_index_or, refl, ap, ◌∙◌, subst, arith}
use Rattle.ds_ast.specs.declared.module.Function.{Function}
use Rattle.ds_shape.specs.Breaches.{kept_more, kept_all}
use Rattle.ds_check.proofs.counts.has_few_parameters.Goals as goal

pub loop-f-preserved : goal.loop-f-preserved
loop-f-preserved c =
    let there : c.as_slice-f-items.result.now ≡ c.args.module.now.functions = c.as_slice-f-items.ensures in
    let few : length c.f-item.result.params ≤ c.args.limit = grind (arith, c.if-len-limit.false, c.len.ensures) in
    kept_more (λ (f : Function). length f.params ≤ c.args.limit) c.args.module.now.functions c.loop-f.f-index
    c.f-item.result
    (subst (λ fs. c.loop-f.f-index < length fs) there c.loop-f-test.true)
    (c.f-item.is ∙ ap (λ fs. slice_index_or fs c.loop-f.f-index c.f-item.result) there) c.loop-f.invariant few

pub returns : goal.returns
returns c =
    let there : c.as_slice-f-items.result.now ≡ c.args.module.now.functions = c.as_slice-f-items.ensures in (
      λ t. kept_all (λ (f : Function). length f.params ≤ c.args.limit) c.args.module.now.functions c.loop-f.f-index
          (subst (λ fs. length fs ≤ c.loop-f.f-index) there c.loop-f-test.false) c.loop-f.invariant,
      λ all. refl,
    )
