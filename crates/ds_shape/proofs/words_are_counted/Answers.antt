use Rattle.ds_shape.proofs.Words.{counted_words}
use Rattle.ds_shape.proofs.words_are_counted.Goals as goal

pub returns : goal.returns
returns c = counted_words
