use Rattle.ds_check.proofs.KeptNames.{among_globals, among_functions}
use Rattle.ds_check.proofs.kept_names.first_bad_external.Goals as goal

-- src/kept_names.rt:48:1
pub returns-in-Some-clause-some : goal.returns-in-Some-clause-some
returns-in-Some-clause-some c =
    among_globals c.args.module.now c.as_slice.result.now c.in-Some.g.now c.as_slice.ensures c.in-Some.ensures.some

-- src/kept_names.rt:48:1
pub returns-in-Some-first_function-clause-some : goal.returns-in-Some-first_function-clause-some
returns-in-Some-first_function-clause-some c =
    among_functions c.args.module.now c.as_slice.result.now c.as_slice-in-None.result.now
    c.in-Some-first_function.f.now c.as_slice.ensures c.in-None.ensures.none
    c.as_slice-in-None.ensures c.in-Some-first_function.ensures.some
