use Rattle.ds_lower.proofs.Blocks.{phis_there}
use Rattle.ds_lower.proofs.local.Local.phis.Goals as goal

pub returns : goal.returns
returns c =
    phis_there c.self.inside.phis.items c.self.inside.function.now c.args.self.now c.args.number c.index.result.now
    c.as_slice.result.now c.self.view_is c.self.invariant.phi c.requires c.index.ensures c.as_slice.ensures
