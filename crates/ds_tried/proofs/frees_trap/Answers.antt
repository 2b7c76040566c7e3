use Rattle.std.proofs.Common.{refl}
use Rattle.ds_tried.specs.Frees.{second_free_traps, bad_free_traps, free_of_no_block_traps}
use Rattle.ds_tried.proofs.Trials.{tried}
use Rattle.ds_tried.proofs.frees_trap.Goals as goal

pub returns-clause-second_free_traps : goal.returns-clause-second_free_traps
returns-clause-second_free_traps c = tried second_free_traps refl

pub returns-clause-double_free_stop : goal.returns-clause-double_free_stop
returns-clause-double_free_stop c = refl

pub returns-clause-bad_free_traps : goal.returns-clause-bad_free_traps
returns-clause-bad_free_traps c = tried bad_free_traps refl

pub returns-clause-bad_free_stop : goal.returns-clause-bad_free_stop
returns-clause-bad_free_stop c = (refl, refl)

pub returns-clause-free_of_no_block_traps : goal.returns-clause-free_of_no_block_traps
returns-clause-free_of_no_block_traps c = tried free_of_no_block_traps refl

pub returns-clause-never_given_stop : goal.returns-clause-never_given_stop
returns-clause-never_given_stop c = refl
