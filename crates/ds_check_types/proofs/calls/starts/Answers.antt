use Rattle.ds_check_types.proofs.Called.{starts_here, starts_nowhere}
use Rattle.ds_check_types.proofs.calls.starts.Goals as goal

pub returns-in-Some : goal.returns-in-Some
returns-in-Some c = starts_here c.args.entities.now c.args.name.now c.in-Some.function.now c.is_thread_function.result
    c.in-Some.ensures.some c.is_thread_function.ensures

pub returns-in-None : goal.returns-in-None
returns-in-None c = starts_nowhere c.args.entities.now c.args.name.now c.in-None.ensures.none
