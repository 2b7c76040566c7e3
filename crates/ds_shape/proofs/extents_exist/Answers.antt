use Rattle.ds_shape.proofs.Exist.{existing_extents}
use Rattle.ds_shape.proofs.extents_exist.Goals as goal

pub returns : goal.returns
returns c = existing_extents
