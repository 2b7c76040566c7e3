use Rattle.ds_shape.proofs.Deeper.{unique_offsets}
use Rattle.ds_shape.proofs.offsets_are_unique.Goals as goal

pub returns : goal.returns
returns c = unique_offsets
