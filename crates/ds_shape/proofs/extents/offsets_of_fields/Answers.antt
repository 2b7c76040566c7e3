use Rattle.ds_shape.proofs.extents.offsets_of_fields.Goals as goal

pub start-requires-clause-at_most : goal.start-requires-clause-at_most
start-requires-clause-at_most c = c.loop-ty.invariant.at_most
