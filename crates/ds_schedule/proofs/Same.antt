-- A schedule stands as code keeps it: the same threads may have a turn, and the same one has the next.
use Rattle.std.proofs.Common.{◌≡◌, ℕ, ◌&&◌, not, Bool, true, false, min, List, [], ◌∷◌, refl, ap, ◌∙◌}
use Rattle.std.proofs.Common.{cond, arith, ltb}
use Rattle.std.specs.List.{filter, range_with_len}
use mathlib.Core.Path.{fun_ext}
use Rattle.ds_plain.specs.declared.Cue.{Cue}
use Rattle.ds_plain.specs.Turns.{Turns, may_turn, turning, chosen, draw, standing_cues}
use Rattle.ds_plain.specs.Turns.{next_by, next_turn}
use Rattle.ds_schedule.specs.Standing.{Standing, StandsAt, has_ended}
use Rattle.ds_schedule.specs.Kept.{turns_of}

module _ (standing : Standing) (turns : Turns) (h : StandsAt standing turns) where
  -- a thread past those that were given out may have no turn, whether it ended or not
  may_same_by : (t : ℕ) (given : Bool) → ltb t (min turns.given 16) ≡ given
      → (given && not (has_ended standing t)) ≡ (given && not (turns.ended t))
  may_same_by t true low = ap not (h.ended t (grind arith))
  may_same_by t false high = refl

  pub may_same : (t : ℕ) → may_turn (turns_of standing) t ≡ may_turn turns t
  may_same t =
      let e : min standing.given 16 ≡ min turns.given 16 = let g = h.given in omega arith in
      rw e (may_same_by t (ltb t (min turns.given 16)) refl)

  pub tests_same : may_turn (turns_of standing) ≡ may_turn turns
  tests_same = fun_ext may_same

  cues_by : (b d : Bool) (cues rest other : List Cue) → b ≡ d → rest ≡ other → cond b cues rest ≡ cond d cues other
  cues_by b d cues rest other e f = cc

  pub standing_same : (cues : List Cue) → standing_cues (turns_of standing) cues ≡ standing_cues turns cues
  standing_same [] = refl
  standing_same (cue ∷ cues) =
      cues_by (may_turn (turns_of standing) cue.thread) (may_turn turns cue.thread) (cue ∷ cues)
      (standing_cues (turns_of standing) cues) (standing_cues turns cues) (may_same cue.thread) (standing_same cues)

  next_by_same : (cues : List Cue) → next_by (turns_of standing) cues ≡ next_by turns cues
  next_by_same [] =
      ap (λ (test : ℕ → Bool). chosen (filter test (range_with_len 0 16)) (draw standing.drawn)) tests_same
      ∙ ap (λ (drawn : ℕ). chosen (turning turns) (draw drawn)) h.drawn
  next_by_same (cue ∷ cues) = refl

  pub next_same : next_turn (turns_of standing) ≡ next_turn turns
  next_same =
      next_by_same (standing_cues (turns_of standing) standing.cues)
      ∙ ap (next_by turns) (standing_same standing.cues ∙ ap (standing_cues turns) h.cues)
