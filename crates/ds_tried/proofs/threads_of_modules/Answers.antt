use Rattle.std.proofs.Common.{refl}
use Rattle.ds_tried.specs.Threaded.{sixteenth_thread_is_refused, sixteenth_is_refused_behind_them}
use Rattle.ds_tried.specs.Threaded.{join_of_itself_traps, join_of_no_thread_traps}
use Rattle.ds_tried.proofs.Examples.{worked}
use Rattle.ds_tried.proofs.threads_of_modules.Goals as goal

pub returns-clause-sixteenth_thread_is_refused : goal.returns-clause-sixteenth_thread_is_refused
returns-clause-sixteenth_thread_is_refused c = worked sixteenth_thread_is_refused refl refl refl refl

pub returns-clause-sixteenth_is_refused_behind_them : goal.returns-clause-sixteenth_is_refused_behind_them
returns-clause-sixteenth_is_refused_behind_them c = worked sixteenth_is_refused_behind_them refl refl refl refl

pub returns-clause-join_of_itself_traps : goal.returns-clause-join_of_itself_traps
returns-clause-join_of_itself_traps c = worked join_of_itself_traps refl refl refl refl

pub returns-clause-join_of_no_thread_traps : goal.returns-clause-join_of_no_thread_traps
returns-clause-join_of_no_thread_traps c = worked join_of_no_thread_traps refl refl refl refl
