use Rattle.std.proofs.Common.{◌≡◌, ℕ, ap, sym, subst, ◌∙◌}
use Rattle.ds_map.specs.Bounds.{Bounds, IsInRange}
use Rattle.ds_plain.specs.Asking.{IsWithin}
use Rattle.ds_plain.specs.Reached.{IsAllocAt}
use Rattle.ds_plain.specs.Searching.{Takes}
use Rattle.ds_actor.specs.Actors.{ActorState}
use Rattle.ds_actor.proofs.Takes.{took_next, malloc_took}
use Rattle.ds_actor.proofs.actor.Actor.malloc_on.Goals as goal

pub returns-in-Some-Block-clause-stands : goal.returns-in-Some-Block-clause-stands
returns-in-Some-Block-clause-stands c = λ a is.
    let actor = c.args.self.now in
    let at = c.args.at in
    let place = c.in-Some-Block.place in
    let life = c.in-Some-Block.field-0-1 in
    let lim = actor.thread.lim in
    let same : c.self.inside.limits ≡ lim =
    sym c.self.invariant.same_limits ∙ ap (λ (x : ActorState). x.thread.lim) c.self.view_is in
    let within = subst (IsWithin c.self.inside.limits)
    (ap (λ (x : ActorState). x.position) c.self.view_is ∙ c.requires.at) c.self.invariant.within in
    let known = took_next c.mallocs_look_on.ensures lim c.at-walk.result.lim at c.args.old c.at-walk.result.next
    c.answer.new.self.next place life c.at-walk.ensures.next (c.at-walk.ensures.lim ∙ same) c.answer.ensures.next
    (search) (subst IsInRange same c.pages-pages.ensures.in_range)
    (subst (λ (l : Bounds). IsAllocAt l at) same within) in
    malloc_took c.args.code.now actor c.took.new.self at c.args.old c.class_at.result place life a c.requires.at
    (known.0 ∙ ap (λ (n : ℕ). Takes n place life) (sym c.class_at.ensures)) is c.took.ensures.stands
