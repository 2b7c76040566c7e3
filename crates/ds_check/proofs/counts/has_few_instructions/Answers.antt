use Rattle.std.proofs.Common.{◌≡◌, ◌<◌, length, slice_index_or, sym, ap, ◌∙◌, subst, true≢false, arith}
use Rattle.std.specs.Prelude.{flat_map}
use Rattle.ds_shape.specs.Types.{instructions_of}
use Rattle.ds_check.proofs.Downward.{runs_out}
use Rattle.ds_check.proofs.counts.has_few_instructions.Goals as goal

-- src/counts.rt:31:21
pub returns-in-None : goal.returns-in-None
returns-in-None c =
    let less : c.loop-f.rest < length (instructions_of c.f-item.result) = c.in-None.ensures in
    let there : c.as_slice-f-items.result.now ≡ c.args.module.now.functions = c.as_slice-f-items.ensures in
    let more : c.args.limit < length (flat_map instructions_of c.args.module.now.functions) =
    runs_out instructions_of c.args.module.now.functions c.loop-f.f-index c.f-item.result c.loop-f.rest c.args.limit
    (subst (λ fs. c.loop-f.f-index < length fs) there c.loop-f-test.true)
    (c.f-item.is ∙ ap (λ fs. slice_index_or fs c.loop-f.f-index c.f-item.result) there) c.loop-f.invariant less in
    (λ t. absurd (true≢false (sym t)), λ few. absurd (omega (arith, more, few)))
