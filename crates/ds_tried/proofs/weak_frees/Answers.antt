use Rattle.std.proofs.Common.{refl}
use Rattle.ds_tried.specs.Frees.{frees_at_their_word}
use Rattle.ds_tried.proofs.Trials.{tried}
use Rattle.ds_tried.proofs.weak_frees.Goals as goal

pub returns : goal.returns
returns c = record { frees_at_their_word = tried frees_at_their_word refl }
