use Rattle.std.proofs.Common.{refl}
use Rattle.ds_tried.specs.Words.{whole_operations, narrow_operations, operations_tell_the_word_before}
use Rattle.ds_tried.proofs.Trials.{tried}
use Rattle.ds_tried.proofs.words_are_changed.Goals as goal

pub returns-clause-whole_operations : goal.returns-clause-whole_operations
returns-clause-whole_operations c = tried whole_operations refl

pub returns-clause-narrow_operations : goal.returns-clause-narrow_operations
returns-clause-narrow_operations c = tried narrow_operations refl

pub returns-clause-operations_tell_the_word_before : goal.returns-clause-operations_tell_the_word_before
returns-clause-operations_tell_the_word_before c = tried operations_tell_the_word_before refl
