use Rattle.ds_shape.proofs.Deeper.{unique_extents}
use Rattle.ds_shape.proofs.extents_are_unique.Goals as goal

pub returns : goal.returns
returns c = unique_extents
