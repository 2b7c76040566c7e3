use Rattle.std.proofs.Common.{refl}
use Rattle.ds_tried.specs.Frees.{free_begins_with_live_block, new_block_is_freed, free_visits_what_was_noted}
use Rattle.ds_tried.specs.Frees.{free_ends_when_nothing_is_due, other_values_are_seen}
use Rattle.ds_tried.proofs.Trials.{tried}
use Rattle.ds_tried.proofs.frees_mark.Goals as goal

pub returns-clause-free_begins_with_live_block : goal.returns-clause-free_begins_with_live_block
returns-clause-free_begins_with_live_block c = tried free_begins_with_live_block refl

pub returns-clause-new_block_is_freed : goal.returns-clause-new_block_is_freed
returns-clause-new_block_is_freed c = tried new_block_is_freed refl

pub returns-clause-free_visits_what_was_noted : goal.returns-clause-free_visits_what_was_noted
returns-clause-free_visits_what_was_noted c = tried free_visits_what_was_noted refl

pub returns-clause-free_ends_when_nothing_is_due : goal.returns-clause-free_ends_when_nothing_is_due
returns-clause-free_ends_when_nothing_is_due c = tried free_ends_when_nothing_is_due refl

pub returns-clause-is_freed : goal.returns-clause-is_freed
returns-clause-is_freed c = (refl, refl, refl)

pub returns-clause-is_freeing_meanwhile : goal.returns-clause-is_freeing_meanwhile
returns-clause-is_freeing_meanwhile c = refl

pub returns-clause-is_due : goal.returns-clause-is_due
returns-clause-is_due c = (refl, refl, refl)

pub returns-clause-other_values_are_seen : goal.returns-clause-other_values_are_seen
returns-clause-other_values_are_seen c = tried other_values_are_seen refl

pub returns-clause-seen_words_stay : goal.returns-clause-seen_words_stay
returns-clause-seen_words_stay c = (refl, refl)
