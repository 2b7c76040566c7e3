use Rattle.ds_core.specs.Standing.{Runs, all_left}
use Rattle.ds_core.proofs.replaying.run.Given as goal

-- the turns so far stand
abbrev pub invariant-loop-recorder : goal.invariant-loop-recorder
invariant-loop-recorder l =
    Runs l.code l.limits l.schedule.cues l.schedule.seed l.recorder.table l.recorder.actors.items l.recorder.traces
    l.recorder.order l.recorder.progress

-- all threads come nearer to their ends
abbrev pub decreases-loop-recorder : goal.decreases-loop-recorder
decreases-loop-recorder l = all_left l.limits.fuel l.recorder.actors.items
