use Rattle.ds_lower_parts.proofs.Sizes.{size_same}
use Rattle.ds_lower_parts.proofs.scope.size_in.Goals as goal

pub returns : goal.returns
returns c =
    size_same c.args.shapes.now c.args.ty.now c.size_of.result c.extents_are_computed.ensures c.requires
    c.size_of.ensures
