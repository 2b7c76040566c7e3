use Rattle.std.proofs.Common.{sym, true≢false, ◌∙◌}
use Rattle.ds_shape.specs.Accepted.{IsGoodExternal}
use Rattle.ds_shape.specs.Breaches.{breach_at, kept_all, kept_more}
use Rattle.ds_check.proofs.kept_names.first_function.Goals as goal

-- src/kept_names.rt:41:13
pub returns-then-not-is_good_external-clause-some : goal.returns-then-not-is_good_external-clause-some
returns-then-not-is_good_external-clause-some c =
    breach_at IsGoodExternal c.args.functions.now c.loop-f.f-index c.f-item.result c.loop-f-test.true c.f-item.is
    c.loop-f.invariant
    (λ good. true≢false (sym (c.is_good_external.ensures.1 good) ∙ c.if-not-is_good_external.true))

-- src/kept_names.rt:40:5
pub loop-f-preserved : goal.loop-f-preserved
loop-f-preserved c =
    kept_more IsGoodExternal c.args.functions.now c.loop-f.f-index c.f-item.result c.loop-f-test.true c.f-item.is
    c.loop-f.invariant
    (c.is_good_external.ensures.0 c.if-not-is_good_external.false)

-- src/kept_names.rt:36:1
pub returns-clause-none : goal.returns-clause-none
returns-clause-none c =
    kept_all IsGoodExternal c.args.functions.now c.loop-f.f-index c.loop-f-test.false c.loop-f.invariant
