use Rattle.ds_check.proofs.Steps.{functions_refused}
use Rattle.ds_check.proofs.checks.check_bodies.Goals as goal

pub returns-clause-refused : goal.returns-clause-refused
returns-clause-refused c =
    functions_refused c.args.module.now c.check_functions.result
    (record {
      externals = c.requires.externals;
      initial = c.are_globals_initial.ensures.0 c.if-not-are_globals_initial.false;
    })
    c.check_functions.ensures.refused
