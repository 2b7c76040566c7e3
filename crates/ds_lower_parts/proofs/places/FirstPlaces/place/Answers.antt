use Rattle.ds_lower_parts.proofs.Beside.{placed, unplaced, inside_too}
use Rattle.ds_lower_parts.proofs.places.FirstPlaces.place.Goals as goal

pub returns-in-Some-clause-value : goal.returns-in-Some-clause-value
returns-in-Some-clause-value c =
    placed _ _ _ c.self.inside.firsts.items _ _ _ _ _ c.self.invariant c.self.view_is c.place.ensures c.in-Some.is
    c.as_slice.ensures.value c.at.ensures

pub returns-in-Some-clause-within : goal.returns-in-Some-clause-within
returns-in-Some-clause-within c =
    inside_too _ _ _ (placed _ _ _ c.self.inside.firsts.items _ _ _ _ _ c.self.invariant c.self.view_is c.place.ensures
    c.in-Some.is c.as_slice.ensures.value c.at.ensures)

pub returns-in-None-clause-value : goal.returns-in-None-clause-value
returns-in-None-clause-value c =
    unplaced _ _ _ c.self.inside.firsts.items _ _ c.self.invariant c.self.view_is c.place.ensures c.in-None.is
