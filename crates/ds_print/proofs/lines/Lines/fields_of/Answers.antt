use Rattle.ds_print.proofs.Found.{placed, unplaced}
use Rattle.ds_print.proofs.lines.Lines.fields_of.Goals as goal

pub returns-in-Some : goal.returns-in-Some
returns-in-Some c =
    placed _ _ _ c.self.inside.fields.items _ _ _ _ _ c.self.invariant c.self.view_is c.place.ensures c.in-Some.is
    c.as_slice.ensures.value c.at.ensures

pub returns-in-None : goal.returns-in-None
returns-in-None c =
    unplaced _ _ _ c.self.inside.fields.items _ _ c.self.invariant c.self.view_is c.place.ensures c.in-None.is
