use Rattle.std.proofs.Common.{◌≡◌, ℕ, sym, subst, ap, ◌∙◌, Some}
use Rattle.ds_plain.specs.Listing.{IsLife, list_place, list_life}
use Rattle.ds_log.proofs.Sought.{sought_life, sought_own, as_named}
use Rattle.ds_log.proofs.steps.sought.Goals as goal

pub returns-in-Some-Own-clause-stands : goal.returns-in-Some-Own-clause-stands
returns-in-Some-Own-clause-stands c =
    let lim = c.args.limits.now in
    let found = c.in-Some-Own in
    let own = sought_own lim c.args.at c.at-walk.result c.answer-event.new.self found.log found.header
    c.at-walk.ensures.lim c.at-walk.ensures.next c.answer-event.ensures.owned
    (sym c.outcome.ensures ∙ found.is ∙ ap (λ o. Some o) found.field-0-is) in
    let place = sym c.place_of.ensures in
    let life = sym c.life_of.ensures in
    c.with_log-next.ensures.stands lim c.requires.loc
    (subst (λ (n : ℕ). IsLife lim n c.life_of.result) place
    (subst (λ (n : ℕ). IsLife lim (list_place c.args.at) n) life (sought_life lim c.args.at c.requires.at)))
    (as_named lim (list_life c.args.at) (_) found.log (_) found.header (_) life
    (sym found.log-is) (sym found.header-is) own)
