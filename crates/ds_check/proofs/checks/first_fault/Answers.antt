use Rattle.ds_check.proofs.WholeModule.{accepted}
use Rattle.ds_check.proofs.checks.first_fault.Goals as goal

pub returns-then-has_main-clause-accepted : goal.returns-then-has_main-clause-accepted
returns-then-has_main-clause-accepted c =
    accepted c.args.module.now c.requires.bounds c.requires.layout c.in-Ok-check_bodies.ensures.kept.0
    c.in-Ok-check_bodies.ensures.kept.1 (c.has_main.ensures.0 c.if-has_main.true)
