use Rattle.std.proofs.Common.{refl}
use Rattle.ds_tried.specs.Worked.{use_after_free_traps, pointer_store_is_noted, free_of_marked_pointer_traps}
use Rattle.ds_tried.specs.Worked.{pointer_in_register_is_not_found}
use Rattle.ds_tried.proofs.Trials.{tried}
use Rattle.ds_tried.proofs.Examples.{worked}
use Rattle.ds_tried.proofs.uses_after_free.Goals as goal

pub returns-clause-use_after_free_traps : goal.returns-clause-use_after_free_traps
returns-clause-use_after_free_traps c = worked use_after_free_traps refl refl refl refl

pub returns-clause-pointer_store_is_noted : goal.returns-clause-pointer_store_is_noted
returns-clause-pointer_store_is_noted c = tried pointer_store_is_noted refl

pub returns-clause-free_of_marked_pointer_traps : goal.returns-clause-free_of_marked_pointer_traps
returns-clause-free_of_marked_pointer_traps c = worked free_of_marked_pointer_traps refl refl refl refl

pub returns-clause-pointer_in_register_is_not_found : goal.returns-clause-pointer_in_register_is_not_found
returns-clause-pointer_in_register_is_not_found c = worked pointer_in_register_is_not_found refl refl refl refl
