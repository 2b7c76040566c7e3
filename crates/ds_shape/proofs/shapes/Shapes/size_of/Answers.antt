use Rattle.std.specs.Prelude.{map}
use Rattle.ds_shape.proofs.Fitting.{size_exact}
use Rattle.ds_shape.proofs.shapes.Shapes.size_of.Goals as goal

pub returns : goal.returns
returns c = λ e has.
    size_exact c.self.inside.structs.now c.args.self.now c.self.inside.names c.self.inside.extents.items
    (map (λ row. row.items) c.self.inside.offsets.items) c.self.invariant c.self.view_is
    c.args.ty.now c.requires e has c.extent_of.result c.as_slice.result.now c.as_slice.ensures.value
    c.extent_of.ensures.value
