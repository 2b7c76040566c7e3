use Rattle.ds_shape.proofs.Computed.{computed_offsets}
use Rattle.ds_shape.proofs.offsets_are_computed.Goals as goal

pub returns : goal.returns
returns c = computed_offsets
