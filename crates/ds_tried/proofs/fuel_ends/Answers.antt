use Rattle.std.proofs.Common.{refl}
use Rattle.ds_tried.specs.Threads.{ends_for_want_of_fuel, ends_at_a_load, ends_behind_spawn, ended_is_not_started}
use Rattle.ds_tried.proofs.Trials.{tried}
use Rattle.ds_tried.proofs.fuel_ends.Goals as goal

pub returns-clause-ends_for_want_of_fuel : goal.returns-clause-ends_for_want_of_fuel
returns-clause-ends_for_want_of_fuel c = tried ends_for_want_of_fuel refl

pub returns-clause-fuel_stop : goal.returns-clause-fuel_stop
returns-clause-fuel_stop c = refl

pub returns-clause-ends_at_a_load : goal.returns-clause-ends_at_a_load
returns-clause-ends_at_a_load c = tried ends_at_a_load refl

pub returns-clause-ends_behind_spawn : goal.returns-clause-ends_behind_spawn
returns-clause-ends_behind_spawn c = tried ends_behind_spawn refl

pub returns-clause-ended_is_not_started : goal.returns-clause-ended_is_not_started
returns-clause-ended_is_not_started c = tried ended_is_not_started refl
