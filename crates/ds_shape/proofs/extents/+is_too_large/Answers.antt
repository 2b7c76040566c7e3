use Rattle.std.proofs.Common.{◌∙◌}
use Rattle.ds_shape.specs.Capped.{extent_in}
use Rattle.ds_shape.proofs.Large.{array_is_large, array_is_small}
use Rattle.ds_shape.proofs.extents.+is_too_large.Goals as goal

pub returns-then-is_large : goal.returns-then-is_large
returns-then-is_large t c =
    c.if-is_large.true ∙ array_is_large (extent_in c.args.names.now c.args.extents.now) c.in-Array.count c.in-Array.of
    c.args.ty.now c.extent_of.result c.is_large.result c.in-Array.is c.extent_of.ensures.value
    c.is_large.ensures c.if-is_large.true

pub returns-else-is_large : goal.returns-else-is_large
returns-else-is_large t c =
    array_is_small (extent_in c.args.names.now c.args.extents.now) c.in-Array.count c.in-Array.of c.get.result.now
    c.args.ty.now c.extent_of.result c.is_large.result c.is_too_large.result c.in-Array.is
    c.extent_of.ensures.value c.is_large.ensures c.if-is_large.false c.get.ensures c.is_too_large.ensures
