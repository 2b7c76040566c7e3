-- The threads that pass a test, one after another.
use Rattle.std.proofs.Common.{◌≡◌, ℕ, zero, suc, ◌+◌, ◌-◌, ◌<◌, ◌≤◌, Bool, true, false, [], ◌∷◌, ◌++◌, length}
use Rattle.std.proofs.Common.{refl, ap, ◌∙◌, arith, Some, None, List, cond, slice_get, min, ltb, subst, take}
use Rattle.std.proofs.Common.{slice_set}
use Rattle.std.specs.List.{filter, range_with_len}
use Rattle.std.proofs.lemmas.List.{take_more_set, append_assoc, append-nil}
use Rattle.std.proofs.lemmas.Option.{same_Some, none-some}
use Rattle.ds_plain.specs.declared.Cue.{Cue}
use Rattle.ds_plain.specs.Turns.{Turns, may_turn, standing_cues, next_by, next_turn, chosen, draw}
use Rattle.ds_schedule.specs.Standing.{Standing, main_has_ended}
use Rattle.ds_schedule.specs.Kept.{threads_from, turns_of}

-- thread t passes it
pub from_passing : (test : ℕ → Bool) (t : ℕ) → t < 16 → test t ≡ true
    → threads_from test t ≡ t ∷ threads_from test (t + 1)
unfolding threads_from
from_passing test t low passes =
    let e : 16 - t ≡ suc (16 - (t + 1)) = omega arith in rw e (rw passes refl)

-- thread t does not
pub from_failing : (test : ℕ → Bool) (t : ℕ) → t < 16 → test t ≡ false
    → threads_from test t ≡ threads_from test (t + 1)
unfolding threads_from
from_failing test t low fails =
    let e : 16 - t ≡ suc (16 - (t + 1)) = omega arith in rw e (rw fails refl)

-- no thread is left
pub from_end : (test : ℕ → Bool) (t : ℕ) → 16 ≤ t → threads_from test t ≡ []
unfolding threads_from
from_end test t high = let e : 16 - t ≡ 0 = omega arith in rw e refl

-- what is known of each thread
pub ruleset from_each = (from_passing, from_failing, from_end)

-- thread 0 passes it, so that there is one
pub some_from : (test : ℕ → Bool) → test 0 ≡ true → 0 < length (threads_from test 0)
some_from test passes =
    let e : length (threads_from test 0) ≡ 1 + length (threads_from test 1) =
    ap length (from_passing test 0 (omega arith) passes) ∙ (omega arith) in
    omega arith

-- behind thread t, which passes it, one more is listed
pub listed_more : (test : ℕ → Bool) (t : ℕ) (threads : List ℕ) (count : ℕ) → t < 16 → test t ≡ true
    → count < length threads
    → take (count + 1) (slice_set threads count t) ++ threads_from test (t + 1)
    ≡ take count threads ++ threads_from test t
listed_more test t threads count low passes room =
    rw (take_more_set threads count t room, from_passing test t low passes)
    (append_assoc (take count threads) (t ∷ []) (threads_from test (t + 1)))

-- at the end all are listed
pub listed_all : (test : ℕ → Bool) (t : ℕ) (threads : List ℕ) (count : ℕ) → 16 ≤ t
    → take count threads ≡ take count threads ++ threads_from test t
listed_all test t threads count high = rw (from_end test t high, append-nil) refl

passing : (test : ℕ → Bool) (t : ℕ) (threads : List ℕ) (place : ℕ) → slice_get (filter test threads) place ≡ Some t
    → test t ≡ true
passing test t [] place found = absurd (none-some t found)
passing test t (first ∷ threads) place found = by (test first) refl (passing test t threads) place found
  where
    by : (b : Bool) → test first ≡ b
        → ((place : ℕ) → slice_get (filter test threads) place ≡ Some t → test t ≡ true) → (place : ℕ)
        → slice_get (cond b (first ∷ filter test threads) (filter test threads)) place ≡ Some t → test t ≡ true
    by true may later zero found = subst (λ (u : ℕ). test u ≡ true) (same_Some first t found) may
    by true may later (suc place) found = later place found
    by false fails later place found = later place found

-- each thread that is listed passes it
pub listed_may : (test : ℕ → Bool) (threads : List ℕ) (place t : ℕ) → threads ≡ threads_from test 0
    → slice_get threads place ≡ Some t → test t ≡ true
unfolding threads_from
listed_may test threads place t listed found =
    passing test t (range_with_len 0 16) place
    (subst (λ (threads : List ℕ). slice_get threads place ≡ Some t) listed found)

-- main may have a turn where it has not ended
pub main_may : (standing : Standing) → 1 ≤ standing.given → main_has_ended standing ≡ false
    → may_turn (turns_of standing) 0 ≡ true
main_may standing given running =
    let low : ltb 0 (min standing.given 16) ≡ true = grind arith in rw (low, running) refl

-- the first of the cues that stand may have a turn
pub standing_first : (turns : Turns) (cues : List Cue) (cue : Cue)
    → slice_get (standing_cues turns cues) 0 ≡ Some cue → may_turn turns cue.thread ≡ true
standing_first turns [] cue = λ found. cc
standing_first turns (first ∷ cues) cue =
    by (may_turn turns first.thread) refl (standing_first turns cues cue)
  where
    by : (b : Bool) → may_turn turns first.thread ≡ b
        → (slice_get (standing_cues turns cues) 0 ≡ Some cue → may_turn turns cue.thread ≡ true)
        → slice_get (cond b (first ∷ cues) (standing_cues turns cues)) 0 ≡ Some cue → may_turn turns cue.thread ≡ true
    by true may later found = let e : first ≡ cue = cc in subst (λ (c : Cue). may_turn turns c.thread ≡ true) e may
    by false may later found = later found

-- where no cue stands, the next thread is drawn
pub next_drawn : (turns : Turns) (result : ℕ) → slice_get (standing_cues turns turns.cues) 0 ≡ None
    → chosen (threads_from (may_turn turns) 0) (draw turns.drawn) ≡ Some result → next_turn turns ≡ Some result
unfolding threads_from
next_drawn turns result none drawn = by (standing_cues turns turns.cues) none
  where
    by : (cues : List Cue) → slice_get cues 0 ≡ None → next_by turns cues ≡ Some result
    by [] none = drawn
    by (cue ∷ cues) none = cc
