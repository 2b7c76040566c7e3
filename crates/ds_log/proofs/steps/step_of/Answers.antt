use Rattle.std.proofs.Common.{subst}
use Rattle.ds_plain.specs.Noting.{IsNoteAt}
use Rattle.ds_log.proofs.steps.step_of.Goals as goal

pub returns-in-LoadBlock-clause-stands : goal.returns-in-LoadBlock-clause-stands
returns-in-LoadBlock-clause-stands c =
    let at = subst (IsNoteAt c.args.limits.now) c.in-LoadBlock.is c.requires.at in
    c.found_loaded.ensures.stands c.args.limits.now at.0 at.1
