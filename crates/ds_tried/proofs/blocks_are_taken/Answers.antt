use Rattle.std.proofs.Common.{refl}
use Rattle.ds_tried.specs.Mallocs.{page_gets_class_wanted, free_block_is_taken, start_is_told}
use Rattle.ds_tried.specs.Mallocs.{classes_hold_a_byte_more, end_of_page_is_no_block}
use Rattle.ds_tried.proofs.Trials.{tried}
use Rattle.ds_tried.proofs.blocks_are_taken.Goals as goal

pub returns-clause-page_gets_class_wanted : goal.returns-clause-page_gets_class_wanted
returns-clause-page_gets_class_wanted c = tried page_gets_class_wanted refl

pub returns-clause-free_block_is_taken : goal.returns-clause-free_block_is_taken
returns-clause-free_block_is_taken c = tried free_block_is_taken refl

pub returns-clause-start_is_told : goal.returns-clause-start_is_told
returns-clause-start_is_told c = tried start_is_told refl

pub returns-clause-is_live_block : goal.returns-clause-is_live_block
returns-clause-is_live_block c = refl

pub returns-clause-classes_hold_a_byte_more : goal.returns-clause-classes_hold_a_byte_more
returns-clause-classes_hold_a_byte_more c = tried classes_hold_a_byte_more refl

pub returns-clause-end_of_page_is_no_block : goal.returns-clause-end_of_page_is_no_block
returns-clause-end_of_page_is_no_block c = tried end_of_page_is_no_block refl
