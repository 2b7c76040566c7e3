use Rattle.ds_lower_parts.proofs.Sizes.{size_fits, size_in_scope}
use Rattle.ds_lower_parts.proofs.scope.Scope.size_of.Goals as goal

pub size_in-requires : goal.size_in-requires
size_in-requires c =
    size_fits c.self.inside.whole.now c.args.self.now c.self.inside.shapes.now c.args.ty.now c.self.invariant.same
    c.self.view_is c.requires

pub returns : goal.returns
returns c =
    size_in_scope c.self.inside.whole.now c.args.self.now c.self.inside.shapes.now c.args.ty.now c.size_in.result
    c.self.invariant.same c.self.view_is c.size_in.ensures
