use Rattle.ds_shape.proofs.Exist.{existing_offsets}
use Rattle.ds_shape.proofs.offsets_exist.Goals as goal

pub returns : goal.returns
returns c = existing_offsets
