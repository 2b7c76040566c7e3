use Rattle.std.proofs.Common.{refl}
use Rattle.ds_tried.specs.Words.{loads_are_of_the_word, narrow_loads_tell_the_word}
use Rattle.ds_tried.proofs.Trials.{tried}
use Rattle.ds_tried.proofs.words_are_loaded.Goals as goal

pub returns-clause-loads_are_of_the_word : goal.returns-clause-loads_are_of_the_word
returns-clause-loads_are_of_the_word c = tried loads_are_of_the_word refl

pub returns-clause-narrow_loads_tell_the_word : goal.returns-clause-narrow_loads_tell_the_word
returns-clause-narrow_loads_tell_the_word c = tried narrow_loads_tell_the_word refl
