use Rattle.std.proofs.Common.{refl}
use Rattle.ds_tried.specs.Threads.{bad_join_traps, only_end_behind_trap}
use Rattle.ds_tried.proofs.Trials.{tried}
use Rattle.ds_tried.proofs.bad_joins_trap.Goals as goal

pub returns-clause-bad_join_traps : goal.returns-clause-bad_join_traps
returns-clause-bad_join_traps c = tried bad_join_traps refl

pub returns-clause-only_end_behind_trap : goal.returns-clause-only_end_behind_trap
returns-clause-only_end_behind_trap c = tried only_end_behind_trap refl

pub returns-clause-bad_join_stop : goal.returns-clause-bad_join_stop
returns-clause-bad_join_stop c = refl
