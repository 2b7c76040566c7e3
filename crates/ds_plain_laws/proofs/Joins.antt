-- What each row of a thread that waits for another one does.
use Rattle.std.proofs.Common.{◌≡◌, ℕ, ◌+◌, ◌<◌, ◌≤◌, ◌==◌, Bool, true, false, ◌||◌, if◌then◌else◌, nat_le, List}
use Rattle.std.proofs.Common.{[], Option, Some, refl, sym, ap, ◌∙◌, subst, inl, inr, ◌⊎◌, arith, eqb-true}
use Rattle.std.specs.Option.{option_map}
use Rattle.std.proofs.lemmas.Bool.{leb-true}
use Rattle.std.proofs.lemmas.Bool.Decides.{nat_tests}
use Rattle.ds_map.specs.Bounds.{Bounds}
use Rattle.ds_step.specs.declared.Event.TheVariants as events
use Rattle.ds_step.specs.Word.{answer_on}
use Rattle.ds_plain.specs.declared.TrapKind.TheVariants.{BadJoin}
use Rattle.ds_plain.specs.declared.JoinAt.{JoinAt}
use Rattle.ds_plain.specs.declared.JoinAt.TheVariants.{LoadGiven, LoadEnded}
use Rattle.ds_plain.specs.declared.Position.TheVariants.{Join, StoreEnded}
use Rattle.ds_plain.specs.declared.Request.{Request}
use Rattle.ds_plain.specs.declared.Request.TheVariants as requests
use Rattle.ds_plain.specs.Behaviour.{Behaviour, place_in_text}
use Rattle.ds_plain.specs.State.{Doing, Phase, State, Setting}
use Rattle.ds_plain.specs.Plain.{IsBadJoin, IsStopped, request_of, phase_answered, phase_with, trap_of, trap_stop}
use Rattle.ds_plain.specs.Plain.{place_of_phase, changed}
use Rattle.ds_plain.specs.Starting.{start_word}
use Rattle.ds_plain.specs.Spawning.{given_word}
use Rattle.ds_plain.specs.Joining.{join_op, is_bad_join, join_event, JoinsOn, Joined, FailsJoin, join_next}
use Rattle.ds_plain.specs.Operations.{load_of}
use Rattle.ds_plain.specs.Thread.{Thread, standing, moved_from_join}
use Rattle.ds_plain_laws.proofs.Choices.{replaced_same}
use Rattle.ds_plain_laws.proofs.Words.{agrees_loaded}
use Rattle.ds_plain_laws.proofs.Phases.{Asking, asked_for, asks_for, goes_run}
use Rattle.ds_plain_laws.proofs.Leaving.{leaves_all}
use Rattle.ds_plain_laws.proofs.Links.{LinkedAt, Trapped, join_goes}
use Rattle.ds_plain_laws.proofs.Makes.{Makes, Before, replaced_passes, all_same, answered_linked}
use Rattle.ds_plain_laws.proofs.Seats.{IsSeated, start_of}

or_cases : (a b : Bool) → (a || b) ≡ true → (a ≡ true) ⊎ (b ≡ true)
or_cases true b h = inl refl
or_cases false b h = inr h

-- why a join is a bad one
bad_by : (t number given : ℕ) → is_bad_join t number given ≡ true
    → (number ≡ t) ⊎ (16 ≤ number) ⊎ (given ≤ number)
bad_by t number given e = by (or_cases (number == t) (nat_le 16 number || nat_le given number) e)
  where
    by : (((number == t) ≡ true) ⊎ ((nat_le 16 number || nat_le given number) ≡ true))
        → (number ≡ t) ⊎ (16 ≤ number) ⊎ (given ≤ number)
    by (inl is) = inl (eqb-true number t is)
    by (inr is) = by_range (or_cases (nat_le 16 number) (nat_le given number) is)
      where
        by_range : (((nat_le 16 number) ≡ true) ⊎ ((nat_le given number) ≡ true))
            → (number ≡ t) ⊎ (16 ≤ number) ⊎ (given ≤ number)
        by_range (inl le) = inr (inl (leb-true 16 number le))
        by_range (inr le) = inr (inr (leb-true given number le))

-- a good one is of a thread that was given out
pub good_by : (t number given : ℕ) → is_bad_join t number given ≡ false → (number < 16) × (number < given)
good_by t number given e = by (number == t) (nat_le 16 number) (nat_le given number) refl refl e
  where
    by : (a b c : Bool) → (nat_le 16 number) ≡ b → (nat_le given number) ≡ c → (a || (b || c)) ≡ false
        → (number < 16) × (number < given)
    by true b c p q h = absurd (cc (h))
    by false true c p q h = absurd (cc (h))
    by false false true p q h = absurd (cc (h))
    by false false false p q h = (grind (arith, nat_tests, p), grind (arith, nat_tests, q))

module _ (setting : Setting) (t : ℕ) (words : List ℕ) (s : State) (before : Before setting words s)
    (rest : Behaviour) (units : ℕ) (began : Bool) (cursors : List ℕ) where
  abbrev lim : Bounds
  lim = setting.lim

  abbrev thread : JoinAt → Thread
  thread at = record { rest = rest; position = Join at; units = units; began = began; cursors = cursors }

  abbrev Links : JoinAt → Type 0
  Links at = LinkedAt setting.program lim t rest began s cursors (Join at)

  -- a load that means nothing
  on_makes : (word n : ℕ) (at : JoinAt) → Links at → Asking rest (s.threads t) (requests.Join n) → began ≡ true
      → Makes setting t words s (load_of word) events.Log s
      (standing lim cursors rest (units + 1) began (Join (LoadEnded n)))
  on_makes word n at l asking b = record {
    allowed = λ h. absurd (cc (h));
    linked = join_goes setting.program lim t s cursors l.looks rest (units + 1) began (LoadEnded n) (b, asking) b
        (goes_run rest (s.threads t) asking.runs) l.frees_so;
    others = λ u ne. all_same setting t s u;
    leaves = leaves_all t s s refl refl;
    agrees = agrees_loaded lim words s s before.agrees word
        (record { given = refl; out = refl; pages = refl; blocks = refl }) refl;
    prints = omega arith;
  }

  -- the trap that the plain machine finds
  trap_is : (number : ℕ) → Asking rest (s.threads t) (requests.Join number)
      → option_map (trap_stop (place_of_phase (s.threads t))) (trap_of lim s (request_of (s.threads t)))
      ≡ Some (trap_stop (place_in_text (rest [])) (BadJoin number))
  trap_is number asking =
      ap (λ (request : Option Request). option_map (trap_stop (place_of_phase (s.threads t))) (trap_of lim s request))
      (asked_for rest (s.threads t) (requests.Join number) asking)
      ∙ ap (λ (phase : Phase). Some (trap_stop (place_of_phase phase) (BadJoin number))) asking.runs.going

  trap_makes : (number : ℕ) → Links (LoadGiven number) → IsBadJoin setting s t number
      → Makes setting t words s (load_of given_word) events.Trap (changed setting s t events.Trap)
      (standing lim cursors rest (units + 1) began
      (StoreEnded (trap_stop (place_in_text (rest [])) (BadJoin number))))
  trap_makes number l bad =
      let asking = l.stands.1 in
      let traps : Doing → Doing = λ doing. record doing {
        ended = option_map (trap_stop (place_of_phase (s.threads t))) (trap_of lim s (request_of (s.threads t)));
      } in
      let s' : State = changed setting s t events.Trap in
      let phase : Phase = phase_with traps (s.threads t) in
      record {
        allowed = λ _. inl (number, asks_for setting s t rest (requests.Join number) asking, bad);
        linked = record {
          stands = Trapped l.stands.0 (record {
            doing = traps asking.runs.doing;
            going = replaced_same s.threads t phase ∙ ap (phase_with traps) asking.runs.going;
            ended = trap_is number asking;
          });
          frees_so = tt;
          looks = l.looks;
        };
        others = replaced_passes setting t s s phase (all_same setting t s);
        leaves = leaves_all t s s' refl refl;
        agrees = agrees_loaded lim words s s' before.agrees given_word
            (record { given = refl; out = refl; pages = refl; blocks = refl }) refl;
        prints = omega arith;
      }

  given_by : (number old : ℕ) (b : Bool) → is_bad_join t number old ≡ b → old ≡ s.given → Links (LoadGiven number)
      → Makes setting t words s (load_of given_word) (if b then events.Trap else events.Log)
      (changed setting s t (if b then events.Trap else events.Log))
      (moved_from_join lim (thread (LoadGiven number)) (if b then FailsJoin number else JoinsOn (LoadEnded number)))
  given_by number old true bad is l =
      trap_makes number l (bad_by t number s.given (subst (λ n. is_bad_join t number n ≡ true) is bad))
  given_by number old false bad is l = on_makes given_word number (LoadGiven number) l l.stands.1 l.stands.0

  ended_by : (n old : ℕ) (b : Bool) → (old == 2) ≡ b → Links (LoadEnded n) → (n < 16) × (n < s.given)
      → (old ≡ 2 → IsStopped (s.threads n))
      → Makes setting t words s (load_of (start_word n)) (if b then events.Join n else events.Log)
      (changed setting s t (if b then events.Join n else events.Log))
      (moved_from_join lim (thread (LoadEnded n)) (if b then Joined else JoinsOn (LoadEnded n)))
  ended_by n old true two l known stopped =
      let asking = l.stands.1 in
      let s' : State = changed setting s t (events.Join n) in
      record {
        allowed = λ _. (
          asks_for setting s t rest (requests.Join n) asking,
          known.0,
          known.1,
          stopped (eqb-true old 2 two),
        );
        linked = answered_linked setting t s before.walks before.range s 0 rest asking.runs.doing (units + 1) cursors
            asking.runs.going l.frees_so l.looks;
        others = replaced_passes setting t s s (phase_answered lim s 0 (s.threads t)) (all_same setting t s);
        leaves = leaves_all t s s' refl refl;
        agrees = agrees_loaded lim words s s' before.agrees (start_word n)
            (record { given = refl; out = refl; pages = refl; blocks = refl }) refl;
        prints = omega arith;
      }
  ended_by n old false two l known stopped = on_makes (start_word n) n (LoadEnded n) l l.stands.1 l.stands.0

  pub join_makes : (at : JoinAt) (old : ℕ) (maker : ℕ → ℕ) → old ≡ answer_on words (join_op at)
      → IsSeated words s maker t (Join at)
      → ((n : ℕ) → n < 16 → start_of words n ≡ 2 → IsStopped (s.threads n)) → Links at
      → Makes setting t words s (join_op at) (join_event t at old) (changed setting s t (join_event t at old))
      (moved_from_join lim (thread at) (join_next t at old))
  join_makes (LoadGiven number) old maker is seat stopped l =
      given_by number old (is_bad_join t number old) refl (is ∙ before.agrees.given) l
  join_makes (LoadEnded n) old maker is seat stopped l =
      ended_by n old (old == 2) refl l seat (λ two. stopped n seat.0 (sym is ∙ two))
