use Rattle.std.proofs.Common.{refl}
use Rattle.ds_tried.proofs.cues_are_followed.Goals as goal

pub returns-clause-cue_ends_at_its_row : goal.returns-clause-cue_ends_at_its_row
returns-clause-cue_ends_at_its_row c = (refl, refl, refl, refl)

pub returns-clause-cue_ends_at_a_wait : goal.returns-clause-cue_ends_at_a_wait
returns-clause-cue_ends_at_a_wait c = (refl, refl, refl, refl, refl)

pub returns-clause-cue_ends_at_an_end : goal.returns-clause-cue_ends_at_an_end
returns-clause-cue_ends_at_an_end c = (refl, refl)

pub returns-clause-cue_is_passed_over : goal.returns-clause-cue_is_passed_over
returns-clause-cue_is_passed_over c = (refl, refl, refl, refl)
