-- Where code stands in a schedule.
use Rattle.std.specs.Prelude.{◌≡◌, ℕ, ◌<◌, ◌≤◌, Bool, true, min, List, slice_index_or}
use Rattle.ds_plain.specs.declared.Cue.{Cue}
use Rattle.ds_plain.specs.Turns.{Turns}

-- what code keeps of where a schedule stands
pub record Standing : Type 0 where
  -- the cues that were not followed to their end
  pub cues : List Cue
  -- the number that was drawn last, at first the seed
  pub drawn : ℕ
  -- how many thread numbers were given out, of 16
  pub given : ℕ
  -- which of the 16 threads have ended, by thread number
  pub ended : List Bool

-- thread t has ended; a number past those of the threads counts as one that has
abbrev pub has_ended : Standing → (t : ℕ) → Bool
has_ended standing t = slice_index_or standing.ended t true

-- thread 0 has
abbrev pub main_has_ended : Standing → Bool
main_has_ended standing = has_ended standing 0

-- what code keeps is where the schedule stands, as far as the 16 threads go; main is given out
pub record StandsAt (standing : Standing) (turns : Turns) : Type 0 where
  pub cues : standing.cues ≡ turns.cues
  pub drawn : standing.drawn ≡ turns.drawn
  pub given : standing.given ≡ min turns.given 16
  pub ended : (t : ℕ) → t < 16 → has_ended standing t ≡ turns.ended t
  pub main : 1 ≤ turns.given
