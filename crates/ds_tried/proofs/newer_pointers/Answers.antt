use Rattle.std.proofs.Common.{refl}
use Rattle.ds_tried.specs.Threaded.{newer_pointer_is_not_marked, newer_pointer_is_not_lost}
use Rattle.ds_tried.specs.Threaded.{newer_pointer_into_block_is_left, newer_pointer_into_block_may_be_marked}
use Rattle.ds_tried.proofs.Trials.{tried}
use Rattle.ds_tried.proofs.Examples.{worked}
use Rattle.ds_tried.proofs.newer_pointers.Goals as goal

pub returns-clause-newer_pointer_is_not_marked : goal.returns-clause-newer_pointer_is_not_marked
returns-clause-newer_pointer_is_not_marked c = worked newer_pointer_is_not_marked refl refl refl refl

pub returns-clause-newer_pointer_is_not_lost : goal.returns-clause-newer_pointer_is_not_lost
returns-clause-newer_pointer_is_not_lost c = tried newer_pointer_is_not_lost refl

pub returns-clause-newer_pointer_into_block_is_left : goal.returns-clause-newer_pointer_into_block_is_left
returns-clause-newer_pointer_into_block_is_left c = worked newer_pointer_into_block_is_left refl refl refl refl

pub returns-clause-newer_pointer_into_block_may_be_marked : goal.returns-clause-newer_pointer_into_block_may_be_marked
returns-clause-newer_pointer_into_block_may_be_marked c = tried newer_pointer_into_block_may_be_marked refl
