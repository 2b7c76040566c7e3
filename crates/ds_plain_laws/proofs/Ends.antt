-- The last step of a thread, and the seats before the first one.
use Rattle.std.proofs.Common.{◌≡◌, ℕ, ◌<◌, ◌≤◌, ◌==◌, Bool, true, false, if◌then◌else◌, List, slice_index, slice_set, refl}
use Rattle.std.proofs.Common.{nat_lt, eqb-true}
use Rattle.std.proofs.Common.{sym, ap, ◌∙◌, subst, inl, inr, ◌⊎◌, arith}
use Rattle.std.proofs.lemmas.Bool.{cases_eq, ne_eqb, agree_below_at}
use Rattle.std.proofs.lemmas.List.{get_or-set_same, get_or-set_other}
use Rattle.ds_map.specs.Bounds.{Bounds}
use Rattle.ds_map.specs.Words.{first_words}
use Rattle.ds_step.specs.declared.Event.TheVariants as events
use Rattle.ds_plain.specs.declared.Stop.{Stop}
use Rattle.ds_plain.specs.declared.Stop.TheVariants.{Fuel}
use Rattle.ds_plain.specs.declared.StartAt.TheVariants.{LoadStart}
use Rattle.ds_plain.specs.declared.Position.TheVariants.{Start, StoreEnded, Over}
use Rattle.ds_plain.specs.Behaviour.{Behaviour, silent, Program}
use Rattle.ds_plain.specs.State.{Phase, NotGiven, Ready, Stopped, State, Setting, first_phase, first_state}
use Rattle.ds_plain.specs.Plain.{IsStopped, final_stop, changed}
use Rattle.ds_plain.specs.Starting.{start_word}
use Rattle.ds_plain.specs.Table.{op_at}
use Rattle.ds_plain.specs.Thread.{Thread, first_cursors, first_thread}
use Rattle.ds_plain.specs.Explained.{is_fuel}
use Rattle.ds_plain_laws.proofs.Choices.{of_if, replaced_same, replaced_other}
use Rattle.ds_plain_laws.proofs.Phases.{passes_may}
use Rattle.ds_plain_laws.proofs.Links.{LinkedAt}
use Rattle.ds_plain_laws.proofs.Makes.{Before, end_makes}
use Rattle.ds_plain_laws.proofs.Seats.{IsUnstarted, IsOpen, start_of, function_of, argument_of, IsSeated, Seats, seats_by}
use Rattle.ds_plain_laws.proofs.Seating.{last_step}
use Rattle.ds_plain_laws.proofs.Moves.{Moves}

module _ (setting : Setting) (t : ℕ) (words : List ℕ) (s : State) (threads : ℕ → Thread) (maker : ℕ → ℕ)
    (before : Before setting words s) (seats : Seats words s threads maker) (few : t < 16)
    (rest : Behaviour) (units : ℕ) (began : Bool) (cursors : List ℕ) where
  pub end_moves : (stop : Stop) → setting.out_of_fuel t ≡ is_fuel stop
      → LinkedAt setting.program setting.lim t rest began s cursors (StoreEnded stop)
      → Moves setting t words s threads (op_at setting.lim t (StoreEnded stop)) events.End
      (changed setting s t events.End)
      (record { rest = rest; position = Over stop; units = units; began = began; cursors = cursors })
  end_moves stop recorded l =
      let makes = end_makes setting t words s before rest units began cursors stop few recorded l in
      let a : Thread =
      record { rest = rest; position = Over stop; units = units; began = began; cursors = cursors } in
      let s' : State = changed setting s t events.End in
      let phase : Phase = Stopped (final_stop setting t (s.threads t)) in
      let words' : List ℕ = slice_set words (start_word t) 2 in
      record {
        allowed = makes.allowed;
        linked = makes.linked;
        others = λ u ne. passes_may (s.threads u) (s'.threads u) (makes.others u ne);
        leaves = makes.leaves;
        agrees = makes.agrees;
        prints = makes.prints;
        given = omega arith;
        maker = maker;
        seats = seats_by t words words' s s' threads maker maker a
            (last_step t words words' s s' threads maker a seats few
            (get_or-set_same words (start_word t) 2 0 (omega (arith, few, before.roomy)))
            (λ i ne. get_or-set_other words (start_word t) i 2 0 (λ e. ne (sym e))) refl
            (subst IsStopped (sym (replaced_same s.threads t phase)) tt)
            (λ u ne. replaced_other s.threads t phase u ne) (λ _. tt)) seats;
      }

-- BEFORE THE FIRST STEP

-- main's start word alone is 1, and those of the others are 0
first_start : (lim : Bounds) (image : List ℕ) (u : ℕ) → u < 16 → (u ≡ 0 → ⊥)
    → slice_index (first_words lim image) (start_word u) ≡ 0
unfolding first_words
first_start lim image u few ne =
    eqb-true (slice_index (first_words lim image) (start_word u)) (if u == 0 then 1 else 0)
    (agree_below_at (λ u. slice_index (first_words lim image) (start_word u) == (if u == 0 then 1 else 0)) (λ u. true) 16
    u refl few)
    ∙ ap (λ b. if b then 1 else 0) (ne_eqb u 0 ne)

first_main : (lim : Bounds) (image : List ℕ) → slice_index (first_words lim image) (start_word 0) ≡ 1
unfolding first_words
first_main lim image = refl

first_unstarted : (program : Program) (u : ℕ) → 1 ≤ u → IsUnstarted (first_phase program u)
first_unstarted program u le =
    subst IsUnstarted (sym (ap (λ b. if b then Ready program.main 0 else NotGiven)
    (ne_eqb u 0 (λ is. omega (arith, is, le))))) tt

phase_not_stopped : (b : Bool) (main : ℕ) → IsStopped (if b then Ready main 0 else NotGiven) → ⊥
phase_not_stopped true main is = is
phase_not_stopped false main is = is

pub seats_first : (program : Program) (lim : Bounds)
    → Seats (first_words lim program.image) (first_state program lim) (λ t. first_thread lim) (λ n. 0)
seats_first program lim = record {
  some = omega arith;
  unstarted = λ u le. first_unstarted program u le;
  opened = λ u few one. opened_by u few one (cases_eq u 0);
  ended = λ u few stopped. absurd (phase_not_stopped (u == 0) program.main stopped);
  stopped = λ u few two. absurd (stopped_by u few two (cases_eq u 0));
  seated = λ u few. of_if (λ (a : Thread). IsSeated (first_words lim program.image) (first_state program lim) (λ n. 0) u
      a.position) (nat_lt 0 lim.fuel)
      (record { rest = silent; position = Start LoadStart; units = 0; began = false; cursors = first_cursors })
      (record { rest = silent; position = StoreEnded Fuel; units = 0; began = false; cursors = first_cursors }) tt tt;
}
  where
    opened_by : (u : ℕ) → u < 16 → start_of (first_words lim program.image) u ≡ 1 → ((u ≡ 0) ⊎ (u ≡ 0 → ⊥))
        → (u ≡ 0) ⊎ IsOpen (function_of (first_words lim program.image) u) (argument_of (first_words lim program.image) u)
        (first_phase program u)
    opened_by u few one (inl is) = inl is
    opened_by u few one (inr ne) =
        let bad : 0 ≡ 1 = sym (first_start lim program.image u few ne) ∙ one in absurd (cc (bad))

    stopped_by : (u : ℕ) → u < 16 → start_of (first_words lim program.image) u ≡ 2 → ((u ≡ 0) ⊎ (u ≡ 0 → ⊥)) → ⊥
    stopped_by u few two (inl is) =
        let bad : 1 ≡ 2 =
        sym (first_main lim program.image) ∙ subst (λ u. start_of (first_words lim program.image) u ≡ 2) is two in
        absurd (cc (bad))
    stopped_by u few two (inr ne) =
        let bad : 0 ≡ 2 = sym (first_start lim program.image u few ne) ∙ two in absurd (cc (bad))
