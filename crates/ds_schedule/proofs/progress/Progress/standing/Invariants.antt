use Rattle.std.proofs.Common.{◌≡◌, length}
use Rattle.ds_plain.specs.Turns.{standing_cues}
use Rattle.ds_schedule.specs.Kept.{turns_of}
use Rattle.ds_schedule.proofs.progress.Progress.standing.Given as goal

-- the cues that were passed over do not stand
abbrev pub invariant-cues : goal.invariant-cues
invariant-cues l = standing_cues (turns_of l.self) l.cues ≡ standing_cues (turns_of l.self) l.self.cues

abbrev pub decreases-cues : goal.decreases-cues
decreases-cues l = length l.cues
