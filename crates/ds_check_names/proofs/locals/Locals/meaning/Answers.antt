use Rattle.std.proofs.Common.{slice_get, ap, ◌∙◌}
use Rattle.ds_check_names.proofs.Meant.{looked_up, not_there}
use Rattle.ds_check_names.proofs.locals.Locals.meaning.Goals as goal

pub returns-in-Some : goal.returns-in-Some
returns-in-Some c =
    looked_up c.places_are_exact.ensures c.places_are_unique.ensures c.self.inside.function.now c.self.inside.row.names
    c.self.inside.row.meanings.items c.args.name.now c.place.result
    c.self.invariant c.place.ensures c.args.self.now c.self.view_is c.in-Some.place c.meaning_at.result c.in-Some.is
    (c.meaning_at.ensures ∙ ap (λ ws. slice_get ws c.in-Some.place) c.as_slice.ensures.value)

pub returns-in-None : goal.returns-in-None
returns-in-None c =
    not_there c.places_are_exact.ensures c.places_are_unique.ensures c.self.inside.function.now c.self.inside.row.names
    c.self.inside.row.meanings.items c.args.name.now c.place.result
    c.self.invariant c.place.ensures c.args.self.now c.self.view_is c.in-None.is
