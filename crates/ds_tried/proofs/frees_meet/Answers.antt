use Rattle.std.proofs.Common.{refl}
use Rattle.ds_tried.specs.Frees.{one_of_two_frees, freed_block_is_not_found, noted_meanwhile_is_not_due}
use Rattle.ds_tried.specs.Frees.{each_free_has_its_block}
use Rattle.ds_tried.proofs.Trials.{tried}
use Rattle.ds_tried.proofs.frees_meet.Goals as goal

pub returns-clause-one_of_two_frees : goal.returns-clause-one_of_two_frees
returns-clause-one_of_two_frees c = tried one_of_two_frees refl

pub returns-clause-seen_while_freeing : goal.returns-clause-seen_while_freeing
returns-clause-seen_while_freeing c = refl

pub returns-clause-freed_block_is_not_found : goal.returns-clause-freed_block_is_not_found
returns-clause-freed_block_is_not_found c = tried freed_block_is_not_found refl

pub returns-clause-noted_meanwhile_is_not_due : goal.returns-clause-noted_meanwhile_is_not_due
returns-clause-noted_meanwhile_is_not_due c = tried noted_meanwhile_is_not_due refl

pub returns-clause-each_free_has_its_block : goal.returns-clause-each_free_has_its_block
returns-clause-each_free_has_its_block c = tried each_free_has_its_block refl

pub returns-clause-seen_is_own : goal.returns-clause-seen_is_own
returns-clause-seen_is_own c = (refl, refl, refl, refl, refl)
