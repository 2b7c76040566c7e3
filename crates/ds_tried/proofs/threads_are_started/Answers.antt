use Rattle.std.proofs.Common.{refl}
use Rattle.ds_tried.specs.Threads.{spawn_is_asked, number_is_stored, opened_thread_begins, ended_thread_is_joined}
use Rattle.ds_tried.proofs.Trials.{tried}
use Rattle.ds_tried.proofs.threads_are_started.Goals as goal

pub returns-clause-spawn_is_asked : goal.returns-clause-spawn_is_asked
returns-clause-spawn_is_asked c = tried spawn_is_asked refl

pub returns-clause-number_is_stored : goal.returns-clause-number_is_stored
returns-clause-number_is_stored c = tried number_is_stored refl

pub returns-clause-opened_thread_begins : goal.returns-clause-opened_thread_begins
returns-clause-opened_thread_begins c = tried opened_thread_begins refl

pub returns-clause-ended_thread_is_joined : goal.returns-clause-ended_thread_is_joined
returns-clause-ended_thread_is_joined c = tried ended_thread_is_joined refl
