-- Behind a step a schedule stands as code keeps it.
use Rattle.std.proofs.Common.{◌≡◌, ℕ, zero, suc, ◌+◌, ◌<◌, ◌≤◌, ◌==◌, Bool, true, false, cond, min, List, [], ◌∷◌, set}
use Rattle.std.proofs.Common.{refl, ap, ◌∙◌, sym, subst, arith, slice_index_or, get_or, true≢false}
use Rattle.std.proofs.lemmas.Bool.{eqb-true, eqb-false}
use Rattle.std.proofs.lemmas.List.{get_or-set_other}
use Rattle.ds_step.specs.declared.Step.{Step}
use Rattle.ds_plain.specs.declared.Cue.{Cue}
use Rattle.ds_plain.specs.Turns.{Turns, Passing, Gives, Ends, Neither, draw, standing_cues, turns_by, turns_behind}
use Rattle.ds_plain.specs.Turns.{passing_of, given_behind, ended_behind, ends_thread}
use Rattle.ds_schedule.specs.Standing.{Standing, StandsAt, has_ended}
use Rattle.ds_schedule.specs.Kept.{turns_of, cues_after, drawn_after, given_after, gives_thread}
use Rattle.ds_schedule.proofs.Same.{standing_same}

-- what is read at t where `true` was written there
set_true : (ended : List Bool) (t : ℕ) → get_or (set ended t true) t true ≡ true
set_true [] t = refl
set_true (b ∷ ended) zero = refl
set_true (b ∷ ended) (suc t) = set_true ended t

set_by : (ended : List Bool) (t u : ℕ) (b : Bool) → (t == u) ≡ b
    → get_or (set ended t true) u true ≡ cond b true (get_or ended u true)
set_by ended t u true is = rw (← eqb-true t u is) (set_true ended t)
set_by ended t u false is = get_or-set_other ended t u true true (λ same. eqb-false t u is (sym same))

-- the threads that have ended behind a step, as code writes them down
pub ended_then : (passing : Passing) (ended : List Bool) (t u : ℕ) → ends_thread passing ≡ true
    → slice_index_or (set ended t true) u true ≡ ended_behind passing t (λ u. slice_index_or ended u true) u
ended_then Gives ended t u is = elim (true≢false (sym is)) [ ]
ended_then Ends ended t u is = set_by ended t u (t == u) refl
ended_then Neither ended t u is = elim (true≢false (sym is)) [ ]

pub ended_else : (passing : Passing) (ended : List Bool) (t u : ℕ) → ends_thread passing ≡ false
    → slice_index_or ended u true ≡ ended_behind passing t (λ u. slice_index_or ended u true) u
ended_else Gives ended t u is = refl
ended_else Ends ended t u is = elim (true≢false is) [ ]
ended_else Neither ended t u is = refl

-- how many numbers were given out behind a step, as code counts them
pub given_by_end : (passing : Passing) (given : ℕ) → ends_thread passing ≡ true → given ≡ given_after passing given
given_by_end Gives given is = elim (true≢false (sym is)) [ ]
given_by_end Ends given is = refl
given_by_end Neither given is = elim (true≢false (sym is)) [ ]

pub given_by_more : (passing : Passing) (given : ℕ) → gives_thread passing ≡ true
    → min (given + 1) 16 ≡ given_after passing given
given_by_more Gives given is = refl
given_by_more Ends given is = elim (true≢false (sym is)) [ ]
given_by_more Neither given is = elim (true≢false (sym is)) [ ]

pub given_else : (passing : Passing) (given : ℕ) → ends_thread passing ≡ false → gives_thread passing ≡ false
    → given ≡ given_after passing given
given_else Gives given ends gives = elim (true≢false gives) [ ]
given_else Ends given ends gives = elim (true≢false ends) [ ]
given_else Neither given ends gives = refl

ended_same : (passing : Passing) (t u : ℕ) (ended other : ℕ → Bool) → ended u ≡ other u
    → ended_behind passing t ended u ≡ ended_behind passing t other u
ended_same Gives t u ended other same = same
ended_same Ends t u ended other same = ap (λ (b : Bool). cond (t == u) true b) same
ended_same Neither t u ended other same = same

given_same : (passing : Passing) (kept given : ℕ) → kept ≡ min given 16
    → given_after passing kept ≡ min (given_behind passing given) 16
given_same Gives kept given same = omega arith
given_same Ends kept given same = same
given_same Neither kept given same = same

given_more : (passing : Passing) (given : ℕ) → 1 ≤ given → 1 ≤ given_behind passing given
given_more Gives given some = omega arith
given_more Ends given some = some
given_more Neither given some = some

pub stands_behind : (before after : Standing) (t : ℕ) (step : Step) (cues : List Cue)
    → cues ≡ standing_cues (turns_of before) before.cues
    → after.cues ≡ cues_after cues step
    → after.drawn ≡ drawn_after cues before.drawn
    → after.given ≡ given_after (passing_of step.event) before.given
    → ((u : ℕ) → has_ended after u ≡ ended_behind (passing_of step.event) t (has_ended before) u)
    → (turns : Turns) → StandsAt before turns → StandsAt after (turns_behind turns t step)
stands_behind before after t step cues standing left drawn given ended turns h =
    subst (λ (cues : List Cue). StandsAt after (turns_by turns t step cues)) same (by cues left drawn)
  where
    same : cues ≡ standing_cues turns turns.cues
    same = standing ∙ standing_same before turns h before.cues ∙ ap (standing_cues turns) h.cues

    ended_now : (u : ℕ) → u < 16 → has_ended after u ≡ ended_behind (passing_of step.event) t turns.ended u
    ended_now u low =
        ended u ∙ ended_same (passing_of step.event) t u (has_ended before) turns.ended (h.ended u low)

    by : (cues : List Cue) → after.cues ≡ cues_after cues step → after.drawn ≡ drawn_after cues before.drawn
        → StandsAt after (turns_by turns t step cues)
    by [] left drawn = record {
      cues = left;
      drawn = drawn ∙ ap draw h.drawn;
      given = given ∙ given_same (passing_of step.event) before.given turns.given h.given;
      ended = ended_now;
      main = given_more (passing_of step.event) turns.given h.main;
    }
    by (cue ∷ cues) left drawn = record {
      cues = left;
      drawn = drawn ∙ h.drawn;
      given = given ∙ given_same (passing_of step.event) before.given turns.given h.given;
      ended = ended_now;
      main = given_more (passing_of step.event) turns.given h.main;
    }

-- the same where the view of what was kept before is named apart
pub stands_inside : (now before after : Standing) (t : ℕ) (step : Step) (cues : List Cue) → before ≡ now
    → cues ≡ standing_cues (turns_of now) now.cues
    → after.cues ≡ cues_after cues step
    → after.drawn ≡ drawn_after cues before.drawn
    → after.given ≡ given_after (passing_of step.event) before.given
    → ((u : ℕ) → has_ended after u ≡ ended_behind (passing_of step.event) t (has_ended before) u)
    → (turns : Turns) → StandsAt now turns → StandsAt after (turns_behind turns t step)
stands_inside now before after t step cues same standing left drawn given ended turns h =
    stands_behind before after t step cues
    (subst (λ (s : Standing). cues ≡ standing_cues (turns_of s) s.cues) (sym same) standing)
    left drawn given ended turns
    (subst (λ (s : Standing). StandsAt s turns) (sym same) h)
