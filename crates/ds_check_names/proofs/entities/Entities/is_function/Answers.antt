use Rattle.ds_check_names.proofs.Found.{tells_function, no_function}
use Rattle.ds_check_names.proofs.entities.Entities.is_function.Goals as goal

pub returns-in-Some : goal.returns-in-Some
returns-in-Some c =
    tells_function c.places_are_exact.ensures c.places_are_unique.ensures c.self.inside.module.now c.self.inside.names
    c.args.name.now c.place.result c.self.invariant c.place.ensures
    c.args.self.now c.self.view_is c.in-Some.place c.len.result c.in-Some.is c.len.ensures

pub returns-in-None : goal.returns-in-None
returns-in-None c =
    no_function c.places_are_exact.ensures c.places_are_unique.ensures c.self.inside.module.now c.self.inside.names
    c.args.name.now c.place.result c.self.invariant c.place.ensures
    c.args.self.now c.self.view_is c.in-None.is
