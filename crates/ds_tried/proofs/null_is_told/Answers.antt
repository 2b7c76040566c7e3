use Rattle.std.proofs.Common.{refl}
use Rattle.ds_tried.specs.Mallocs.{used_block_is_passed_over, null_is_told_last, page_is_passed_over}
use Rattle.ds_tried.specs.Mallocs.{other_pages_are_left}
use Rattle.ds_tried.proofs.Trials.{tried}
use Rattle.ds_tried.proofs.null_is_told.Goals as goal

pub returns-clause-used_block_is_passed_over : goal.returns-clause-used_block_is_passed_over
returns-clause-used_block_is_passed_over c = tried used_block_is_passed_over refl

pub returns-clause-null_is_told_last : goal.returns-clause-null_is_told_last
returns-clause-null_is_told_last c = tried null_is_told_last refl

pub returns-clause-page_is_passed_over : goal.returns-clause-page_is_passed_over
returns-clause-page_is_passed_over c = tried page_is_passed_over refl

pub returns-clause-other_pages_are_left : goal.returns-clause-other_pages_are_left
returns-clause-other_pages_are_left c = tried other_pages_are_left refl
