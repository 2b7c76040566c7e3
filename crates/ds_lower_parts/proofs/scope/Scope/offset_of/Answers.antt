use Rattle.ds_lower_parts.proofs.Sizes.{offset_in_scope}
use Rattle.ds_lower_parts.proofs.scope.Scope.offset_of.Goals as goal

pub returns : goal.returns
returns c =
    offset_in_scope c.self.inside.whole.now c.args.self.now c.self.inside.shapes.now c.args.name.now c.args.field
    c.offset_of.result c.self.invariant.same c.self.view_is c.offsets_are_computed.ensures c.offsets_exist.ensures
    c.self.invariant.layout c.requires.field c.offset_of.ensures
