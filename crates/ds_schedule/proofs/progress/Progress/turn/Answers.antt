use Rattle.std.proofs.Common.{◌≡◌, refl, Some, None, slice_get}
use Rattle.ds_plain.specs.Turns.{standing_cues}
use Rattle.ds_schedule.specs.Kept.{turns_of}
use Rattle.ds_schedule.proofs.Turning.{standing_first, next_drawn}
use Rattle.ds_schedule.proofs.progress.Progress.turn.Goals as goal

pub returns-in-Some-clause-may : goal.returns-in-Some-clause-may
returns-in-Some-clause-may c =
    let s = c.args.self.now in
    let found : slice_get (standing_cues (turns_of s) s.cues) 0 ≡ Some c.in-Some.cue.now =
    rw (← c.standing.ensures, ← c.first.ensures.value, c.in-Some.is) refl in
    standing_first (turns_of s) s.cues c.in-Some.cue.now found

pub returns-in-None-clause-next : goal.returns-in-None-clause-next
returns-in-None-clause-next c =
    let s = c.args.self.now in
    let none : slice_get (standing_cues (turns_of s) s.cues) 0 ≡ None =
    rw (← c.standing.ensures, ← c.first.ensures.value, c.in-None.is) refl in
    next_drawn (turns_of s) c.drawn_thread.result none c.drawn_thread.ensures.drawn
