use Rattle.std.proofs.Common.{List, map, ap, ◌∙◌}
use Rattle.ds_actor.specs.Actors.{ActorState}
use Rattle.ds_core.specs.Standing.{actor_stop}
use Rattle.ds_core.proofs.Recorded.{recorded, sixteen_stops, main_ended, ordered}
use Rattle.ds_core.proofs.replaying.replay.Goals as goal

pub returns-clause-record : goal.returns-clause-record
returns-clause-record c =
    recorded c.standing_is_recorded.ensures c.args.code.now c.args.limits.now _ _ _ _ _ _ _ c.in_ok-ended.ensures.runs
    _
    (c.in_ok-stops.ensures ∙ ap (λ (actors : List ActorState). map actor_stop actors) c.as_slice.ensures.value)

pub returns-clause-order : goal.returns-clause-order
returns-clause-order c =
    ordered c.standing_is_recorded.ensures c.args.code.now c.args.limits.now _ _ _ _ _ _ _ c.in_ok-ended.ensures.runs _
    (c.in_ok-stops.ensures ∙ ap (λ (actors : List ActorState). map actor_stop actors) c.as_slice.ensures.value)
    c.in_ok-ended.ensures.ended

pub returns-clause-sixteen_stops : goal.returns-clause-sixteen_stops
returns-clause-sixteen_stops c =
    sixteen_stops c.standing_is_recorded.ensures c.args.code.now c.args.limits.now _ _ _ _ _ _ _
    c.in_ok-ended.ensures.runs _ (c.in_ok-stops.ensures ∙ ap (λ (actors : List ActorState). map actor_stop actors)
    c.as_slice.ensures.value)

pub returns-clause-main_ended : goal.returns-clause-main_ended
returns-clause-main_ended c =
    main_ended c.standing_is_recorded.ensures c.args.code.now c.args.limits.now _ _ _ _ _ _ _
    c.in_ok-ended.ensures.runs _ (c.in_ok-stops.ensures ∙ ap (λ (actors : List ActorState). map actor_stop actors)
    c.as_slice.ensures.value) c.in_ok-ended.ensures.ended
