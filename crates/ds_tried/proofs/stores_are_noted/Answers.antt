use Rattle.std.proofs.Common.{refl}
use Rattle.ds_tried.specs.Notes.{live_block_is_found, found_block_is_noted, each_note_finds_its_own}
use Rattle.ds_tried.specs.Notes.{only_end_behind_full, pointers_into_blocks}
use Rattle.ds_tried.proofs.Trials.{tried}
use Rattle.ds_tried.proofs.stores_are_noted.Goals as goal

pub returns-clause-live_block_is_found : goal.returns-clause-live_block_is_found
returns-clause-live_block_is_found c = tried live_block_is_found refl

pub returns-clause-found_block_is_noted : goal.returns-clause-found_block_is_noted
returns-clause-found_block_is_noted c = tried found_block_is_noted refl

pub returns-clause-each_note_finds_its_own : goal.returns-clause-each_note_finds_its_own
returns-clause-each_note_finds_its_own c = tried each_note_finds_its_own refl

pub returns-clause-is_noted : goal.returns-clause-is_noted
returns-clause-is_noted c = refl

pub returns-clause-only_end_behind_full : goal.returns-clause-only_end_behind_full
returns-clause-only_end_behind_full c = tried only_end_behind_full refl

pub returns-clause-full_stop : goal.returns-clause-full_stop
returns-clause-full_stop c = refl

pub returns-clause-pointers_into_blocks : goal.returns-clause-pointers_into_blocks
returns-clause-pointers_into_blocks c = tried pointers_into_blocks refl
