use Rattle.std.proofs.Common.{refl}
use Rattle.ds_tried.specs.Frees.{next_life_is_given, former_lives_owe_nothing, free_of_former_life}
use Rattle.ds_tried.proofs.Trials.{tried}
use Rattle.ds_tried.proofs.lives_are_apart.Goals as goal

pub returns-clause-next_life_is_given : goal.returns-clause-next_life_is_given
returns-clause-next_life_is_given c = tried next_life_is_given refl

pub returns-clause-former_lives_owe_nothing : goal.returns-clause-former_lives_owe_nothing
returns-clause-former_lives_owe_nothing c = tried former_lives_owe_nothing refl

pub returns-clause-free_of_former_life : goal.returns-clause-free_of_former_life
returns-clause-free_of_former_life c = tried free_of_former_life refl
