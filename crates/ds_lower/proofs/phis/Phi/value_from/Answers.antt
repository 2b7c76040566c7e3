use Rattle.ds_lower.proofs.Arms.{value_there, value_missing}
use Rattle.ds_lower.proofs.phis.Phi.value_from.Goals as goal

pub returns-in-Some : goal.returns-in-Some
returns-in-Some c =
    value_there c.self.inside.instr.now c.args.self.now c.self.inside.ty c.self.inside.arms.now c.self.inside.labels
    c.args.from.now c.place.result c.in-Some.number c.value_in.result c.self.invariant c.self.view_is
    c.place.ensures.value
    c.in-Some.is c.value_in.ensures

pub returns-in-None : goal.returns-in-None
returns-in-None c =
    value_missing c.self.inside.instr.now c.args.self.now c.self.inside.ty c.self.inside.arms.now c.self.inside.labels
    c.args.from.now c.place.result c.self.invariant c.self.view_is c.place.ensures.value c.in-None.is
