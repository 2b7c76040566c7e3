-- What the private functions compute of what code keeps.
use Rattle.std.specs.Prelude.{◌≡◌, ℕ, ◌+◌, ◌-◌, ◌≤◌, Bool, true, false, not, ◌&&◌, min, nat_lt, List, [], ◌∷◌}
use Rattle.std.specs.Prelude.{length, slice_index_or}
use Rattle.std.specs.List.{filter, range_with_len}
use Rattle.ds_step.specs.declared.Step.{Step}
use Rattle.ds_plain.specs.declared.Cue.{Cue}
use Rattle.ds_plain.specs.Turns.{Turns, Passing, Gives, Ends, Neither, draw, cues_behind}
use Rattle.ds_schedule.specs.Standing.{Standing, has_ended}

-- the event gives out a thread number
abbrev pub gives_thread : Passing → Bool
gives_thread Gives = true
gives_thread Ends = false
gives_thread Neither = false

-- where a schedule stands at which no more numbers were given out than code counts
abbrev pub turns_of : Standing → Turns
turns_of standing =
    record {
      cues = standing.cues;
      drawn = standing.drawn;
      given = standing.given;
      ended = has_ended standing;
    }

-- thread t is one of so many of 16 that were given out, and has not ended; a number past those of the threads counts
-- as one that has
abbrev pub may_by : (given : ℕ) → (ended : List Bool) → (t : ℕ) → Bool
may_by given ended t = nat_lt t (min given 16) && not (slice_index_or ended t true)

-- the threads from t on that pass a test
unfoldable pub threads_from : (ℕ → Bool) → (t : ℕ) → List ℕ
threads_from test t = filter test (range_with_len t (16 - t))

-- code keeps a list of the threads that may have a turn; main was given out
pub record IsKept (given : ℕ) (ended : List Bool) (turning : List ℕ) : Type 0 where
  pub some : 1 ≤ given
  pub few : given ≤ 16
  pub sixteen : length ended ≡ 16
  pub listed : turning ≡ threads_from (may_by given ended) 0

-- behind a step, of the cues that stood before it
abbrev pub cues_after : List Cue → Step → List Cue
cues_after [] step = []
cues_after (cue ∷ cues) step = cues_behind cue cues step

-- the number drawn last behind a step, by the cues that stood before it
abbrev pub drawn_after : List Cue → ℕ → ℕ
drawn_after [] drawn = draw drawn
drawn_after (cue ∷ cues) drawn = drawn

-- how many of 16 numbers were given out behind an event
abbrev pub given_after : Passing → ℕ → ℕ
given_after Gives given = min (given + 1) 16
given_after Ends given = given
given_after Neither given = given
