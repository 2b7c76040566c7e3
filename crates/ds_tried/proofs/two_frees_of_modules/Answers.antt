use Rattle.std.proofs.Common.{refl}
use Rattle.ds_tried.specs.Threaded.{second_of_two_frees_traps, first_of_two_frees_goes_on, first_of_two_frees_ends}
use Rattle.ds_tried.proofs.Examples.{worked}
use Rattle.ds_tried.proofs.two_frees_of_modules.Goals as goal

pub returns-clause-second_of_two_frees_traps : goal.returns-clause-second_of_two_frees_traps
returns-clause-second_of_two_frees_traps c = worked second_of_two_frees_traps refl refl refl refl

pub returns-clause-first_of_two_frees_goes_on : goal.returns-clause-first_of_two_frees_goes_on
returns-clause-first_of_two_frees_goes_on c = worked first_of_two_frees_goes_on refl refl refl refl

pub returns-clause-first_of_two_frees_ends : goal.returns-clause-first_of_two_frees_ends
returns-clause-first_of_two_frees_ends c = worked first_of_two_frees_ends refl refl refl refl
