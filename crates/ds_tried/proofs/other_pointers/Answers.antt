use Rattle.std.proofs.Common.{refl}
use Rattle.ds_tried.specs.Worked.{other_pointer_is_seen, pointer_past_the_end_is_its_own, second_life_is_noted_anew}
use Rattle.ds_tried.specs.Worked.{head_is_used_after_free}
use Rattle.ds_tried.proofs.Examples.{worked}
use Rattle.ds_tried.proofs.other_pointers.Goals as goal

pub returns-clause-other_pointer_is_seen : goal.returns-clause-other_pointer_is_seen
returns-clause-other_pointer_is_seen c = worked other_pointer_is_seen refl refl refl refl

pub returns-clause-pointer_past_the_end_is_its_own : goal.returns-clause-pointer_past_the_end_is_its_own
returns-clause-pointer_past_the_end_is_its_own c = worked pointer_past_the_end_is_its_own refl refl refl refl

pub returns-clause-second_life_is_noted_anew : goal.returns-clause-second_life_is_noted_anew
returns-clause-second_life_is_noted_anew c = worked second_life_is_noted_anew refl refl refl refl

pub returns-clause-head_is_used_after_free : goal.returns-clause-head_is_used_after_free
returns-clause-head_is_used_after_free c = worked head_is_used_after_free refl refl refl refl
