use Rattle.ds_shape.proofs.Computed.{computed_extents}
use Rattle.ds_shape.proofs.extents_are_computed.Goals as goal

pub returns : goal.returns
returns c = computed_extents
