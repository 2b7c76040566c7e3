use Rattle.std.proofs.Common.{◌+◌, arith, ap, subst, slice_set, ◌∙◌}
use Rattle.ds_map.specs.Blocks.{block_start}
use Rattle.ds_plain.specs.Behaviour.{Behaviour, told}
use Rattle.ds_plain.specs.Searching.{place_behind}
use Rattle.ds_plain.specs.Thread.{going_on}
use Rattle.ds_frame.specs.Threads.{runs, Serves}
use Rattle.ds_actor.specs.Actors.{ActorState, actor_with, IsAt}
use Rattle.ds_actor.proofs.Takes.{took}
use Rattle.ds_actor.proofs.actor.Actor.took.Goals as goal

pub returns-clause-stands : goal.returns-clause-stands
returns-clause-stands c =
    let code = c.args.code.now in
    let new = c.resume-self-inside.new.thread in
    let position = c.resume-self-inside.result in
    let class = c.args.class in
    let place = c.args.place in
    subst (λ (x : ActorState). (rest : Behaviour) → Serves (runs code x.thread) x.thread.machine rest
    → IsAt code (actor_with new position c.set.new.self) (going_on x.thread.lim
    (slice_set x.cursors class (place_behind x.thread.lim class place)) (x.thread.units + 1)
    (told rest (block_start place class)))) c.self.view_is
    (took code new position (actor_with c.self.inside.thread c.self.inside.position c.self.inside.cursors)
    c.self.inside.limits class place c.place_behind-behind.result c.start_of-start.result c.set.new.self
    c.self.invariant.same_limits c.set.ensures c.place_behind-behind.ensures.exact
    (c.start_of-start.ensures.exact ∙ ap (block_start place) (omega (arith, c.from.ensures)))
    c.resume-self-inside.ensures.at)
