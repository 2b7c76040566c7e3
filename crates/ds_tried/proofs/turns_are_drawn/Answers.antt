use Rattle.std.proofs.Common.{refl}
use Rattle.ds_tried.proofs.turns_are_drawn.Goals as goal

pub returns-clause-first_of_two : goal.returns-clause-first_of_two
returns-clause-first_of_two c = refl

pub returns-clause-ended_have_no_turn : goal.returns-clause-ended_have_no_turn
returns-clause-ended_have_no_turn c = (refl, refl, refl)

pub returns-clause-drawn_behind_cues : goal.returns-clause-drawn_behind_cues
returns-clause-drawn_behind_cues c = (refl, refl)
