use Rattle.ds_shape.proofs.extents.extent_of_fields.Goals as goal

pub end-at-requires-clause-at_most : goal.end-at-requires-clause-at_most
end-at-requires-clause-at_most c = c.loop-ty.invariant.at_most
