use Rattle.ds_pass.proofs.Kept.{kept}
use Rattle.ds_pass.proofs.laws.notes_keep_bounds.Goals as goal

pub returns : goal.returns
returns c = kept
