-- Schedules and rounds, as tests that compute.
use Rattle.std.proofs.Common.{◌≡◌, ℕ, zero, suc, ◌<◌, ◌==◌, Bool, true, false, not, ◌&&◌, List, [], ◌∷◌, Option, Some, None}
use Rattle.std.proofs.Common.{refl, sym, ap, ◌∙◌, subst, arith}
use Rattle.std.proofs.lemmas.Bool.{and_from, and_parts, true≢false}
use Rattle.ds_map.specs.Bounds.{Bounds}
use Rattle.ds_step.specs.declared.Step.{Step}
use Rattle.ds_plain.specs.Behaviour.{Program}
use Rattle.ds_plain.specs.History.{History}
use Rattle.ds_plain.specs.Explained.{trace_of}
use Rattle.ds_plain.specs.declared.Cue.{Cue}
use Rattle.ds_plain.specs.Turns.{Turns, first_turns, next_turn, turns_behind, IsTurnByTurn}
use Rattle.ds_plain.specs.Turns.{Remaining, is_ended, left_behind, IsLeft, IsInRounds}
use Rattle.ds_tried.specs.Schedules.{EachIs, NoneIs, Schedules}
use Rattle.ds_tried.specs.Rounds.{roomy, EachMade, NoneMade, Made}
use Rattle.ds_tried.proofs.Tests.{Tells, both, not_so, as_good, equal, holds, held, holding, always, never, is_so, same, same_tests}

-- SCHEDULES

is_turn_of : (t : ℕ) (o : Option ℕ) → Tells (holds (λ n. n == t) o) (o ≡ Some t)
is_turn_of t o = record {
  so = λ e. let h = held (λ n. n == t) o e in h.1 ∙ ap Some ((equal h.0 t).so h.2);
  true_is = λ h. holding (λ n. n == t) o t h ((equal t t).true_is refl);
}

abbrev turn_by_turn : Turns → History → Bool
turn_by_turn turns [] = turns.ended 0
turn_by_turn turns (e ∷ es) =
    same false (turns.ended 0) && (holds (λ n. n == e.0) (next_turn turns) && turn_by_turn (turns_behind turns e.0 e.1) es)

turns_tell : (turns : Turns) (h : History) → Tells (turn_by_turn turns h) (IsTurnByTurn turns h)
turns_tell turns [] = is_so (turns.ended 0)
turns_tell turns (e ∷ es) = as_good (λ h. (h.0, h.1.0, h.1.1)) (λ h. (h.0, (h.1, h.2)))
    (both (same_tests false (turns.ended 0))
    (both (is_turn_of e.0 (next_turn turns)) (turns_tell (turns_behind turns e.0 e.1) es)))

abbrev each_is : List Cue → ℕ → List History → Bool
each_is cues seed [] = true
each_is cues seed (h ∷ hs) = turn_by_turn (first_turns cues seed) h && each_is cues seed hs

abbrev none_is : List Cue → ℕ → List History → Bool
none_is cues seed [] = true
none_is cues seed (h ∷ hs) = not (turn_by_turn (first_turns cues seed) h) && none_is cues seed hs

each_tells : (cues : List Cue) (seed : ℕ) (hs : List History) → Tells (each_is cues seed hs) (EachIs cues seed hs)
each_tells cues seed [] = always
each_tells cues seed (h ∷ hs) = both (turns_tell (first_turns cues seed) h) (each_tells cues seed hs)

none_tells : (cues : List Cue) (seed : ℕ) (hs : List History) → Tells (none_is cues seed hs) (NoneIs cues seed hs)
none_tells cues seed [] = always
none_tells cues seed (h ∷ hs) = both (not_so (turns_tell (first_turns cues seed) h)) (none_tells cues seed hs)

pub scheduled : {cues : List Cue} {seed : ℕ} {followed others : List History} → each_is cues seed followed ≡ true
    → none_is cues seed others ≡ true → Schedules cues seed followed others
scheduled {cues} {seed} {followed} {others} yes_ no_ =
    record { are = (each_tells cues seed followed).so yes_; are_not = (none_tells cues seed others).so no_ }

-- ROUNDS

abbrev all_below : (ℕ → Bool) → ℕ → Bool
all_below p zero = true
all_below p (suc n) = p n && all_below p n

below_split : (P : ℕ → Type 0) (n : ℕ) → P n → ((t : ℕ) → t < n → P t) → (t : ℕ) → t < suc n → P t
below_split P n last more t lt = by (t == n) refl
  where
    by : (b : Bool) → (t == n) ≡ b → P t
    by true is = subst P (sym ((equal t n).so is)) last
    by false is = more t (omega (arith, λ (same_ : t ≡ n). true≢false (sym ((equal t n).true_is same_) ∙ is)))

below_tells : (p : ℕ → Bool) (P : ℕ → Type 0) → ((t : ℕ) → Tells (p t) (P t)) → (n : ℕ)
    → Tells (all_below p n) ((t : ℕ) → t < n → P t)
below_tells p P each zero = record { so = λ e t lt. absurd (omega arith); true_is = λ h. refl }
below_tells p P each (suc n) =
    let more = below_tells p P each n in
    record {
      so = λ e. let h = and_parts (p n) (all_below p n) e in below_split P n ((each n).so h.0) (more.so h.1);
      true_is = λ h. and_from (p n) (all_below p n) ((each n).true_is (h n (omega arith)))
          (more.true_is (λ t lt. h t (omega arith)));
    }

abbrev is_empty : List Step → Bool
is_empty [] = true
is_empty (s ∷ ss) = false

empty : (ss : List Step) → Tells (is_empty ss) (ss ≡ [])
empty [] = record { so = λ e. refl; true_is = λ h. refl }
empty (s ∷ ss) = record { so = λ e. absurd (true≢false (sym e)); true_is = λ h. cc h }

left_tells : (p : Remaining → Bool) (P : Remaining → Type 0) → ((r : Remaining) → Tells (p r) (P r)) → (o : Option Remaining)
    → Tells (holds p o) (IsLeft P o)
left_tells p P each None = never
left_tells p P each (Some r) = each r

module _ (program : Program) (lim : Bounds) (traces : List (List Step)) where
  abbrev cuts : (n t : ℕ) → Bool
  cuts n t = holds (λ rest. is_empty rest.steps) (left_behind program lim t n (trace_of traces t))

  abbrev main_is : Bool → ℕ → Bool
  main_is b n = holds (λ rest. same b (is_ended rest.thread.position)) (left_behind program lim 0 n (trace_of traces 0))

  abbrev Cuts : (n t : ℕ) → Type 0
  Cuts n t = IsLeft (λ rest. rest.steps ≡ []) (left_behind program lim t n (trace_of traces t))

  abbrev MainIs : Bool → ℕ → Type 0
  MainIs b n = IsLeft (λ rest. is_ended rest.thread.position ≡ b) (left_behind program lim 0 n (trace_of traces 0))

  abbrev last : ℕ → Bool
  last zero = true
  last (suc k) = main_is false k

  abbrev Last : ℕ → Type 0
  Last n = (k : ℕ) → n ≡ suc k → MainIs false k

  main_tells : (b : Bool) (n : ℕ) → Tells (main_is b n) (MainIs b n)
  main_tells b n = left_tells (λ rest. same b (is_ended rest.thread.position)) (λ rest. is_ended rest.thread.position ≡ b)
      (λ rest. same_tests b (is_ended rest.thread.position)) (left_behind program lim 0 n (trace_of traces 0))

  last_tells : (n : ℕ) → Tells (last n) (Last n)
  last_tells zero = record { so = λ e k is. absurd (omega arith); true_is = λ h. refl }
  last_tells (suc k) = record {
    so = λ e l is. subst (MainIs false) (omega arith) ((main_tells false k).so e);
    true_is = λ h. (main_tells false k).true_is (h k refl);
  }

  abbrev in_rounds : ℕ → Bool
  in_rounds n = all_below (cuts n) 16 && (main_is true n && last n)

  rounds_tell : (n : ℕ) → Tells (in_rounds n) (IsInRounds program lim n traces)
  rounds_tell n = as_good
      (λ h. record { cut = h.0; main_ended = h.1.0; main_last = h.1.1 })
      (λ h. (h.cut, (h.main_ended, h.main_last)))
      (both
      (below_tells (cuts n) (Cuts n)
      (λ t. left_tells (λ rest. is_empty rest.steps) (λ rest. rest.steps ≡ []) (λ rest. empty rest.steps)
      (left_behind program lim t n (trace_of traces t)))
      16)
      (both (main_tells true n) (last_tells n)))

module _ (program : Program) (traces : List (List Step)) where
  abbrev each_made : List ℕ → Bool
  each_made [] = true
  each_made (n ∷ ns) = in_rounds program roomy traces n && each_made ns

  abbrev none_made : List ℕ → Bool
  none_made [] = true
  none_made (n ∷ ns) = not (in_rounds program roomy traces n) && none_made ns

  each_made_tells : (ns : List ℕ) → Tells (each_made ns) (EachMade program traces ns)
  each_made_tells [] = always
  each_made_tells (n ∷ ns) = both (rounds_tell program roomy traces n) (each_made_tells ns)

  none_made_tells : (ns : List ℕ) → Tells (none_made ns) (NoneMade program traces ns)
  none_made_tells [] = always
  none_made_tells (n ∷ ns) = both (not_so (rounds_tell program roomy traces n)) (none_made_tells ns)

pub made : {program : Program} {traces : List (List Step)} {rounds others : List ℕ}
    → each_made program traces rounds ≡ true → none_made program traces others ≡ true
    → Made program traces rounds others
made {program} {traces} {rounds} {others} yes_ no_ =
    record { are = (each_made_tells program traces rounds).so yes_; are_not = (none_made_tells program traces others).so no_ }
