use Rattle.std.proofs.Common.{◌≡◌, map, take}
use Rattle.ds_core.specs.Standing.{actor_stop}
use Rattle.ds_core.proofs.replaying.stops_of.Given as goal

-- the stops so far
abbrev pub invariant-loop-actor : goal.invariant-loop-actor
invariant-loop-actor l = l.stops.items ≡ map actor_stop (take l.actor-index l.actors)
