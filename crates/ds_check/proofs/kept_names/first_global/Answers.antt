use Rattle.ds_shape.specs.Accepted.{IsFreeGlobal}
use Rattle.ds_shape.specs.Breaches.{breach_at, kept_all}
use Rattle.ds_check.proofs.kept_names.first_global.Goals as goal

-- src/kept_names.rt:28:13
pub returns-then-is_reserved-clause-some : goal.returns-then-is_reserved-clause-some
returns-then-is_reserved-clause-some c =
    breach_at IsFreeGlobal c.args.globals.now c.loop-g.g-index c.g-item.result c.loop-g-test.true c.g-item.is
    c.loop-g.invariant
    (λ free. free (c.is_reserved.ensures.0 c.if-is_reserved.true))

-- src/kept_names.rt:23:1
pub returns-clause-none : goal.returns-clause-none
returns-clause-none c =
    kept_all IsFreeGlobal c.args.globals.now c.loop-g.g-index c.loop-g-test.false c.loop-g.invariant
