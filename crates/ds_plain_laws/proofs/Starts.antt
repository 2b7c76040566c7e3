-- What each row of a thread that has not begun does: it waits, learns what it is to run, or begins.
use Rattle.std.proofs.Common.{◌≡◌, ℕ, ◌+◌, ◌^◌, ◌<◌, ◌==◌, Bool, true, false, ◌&&◌, if◌then◌else◌, List}
use Rattle.std.proofs.Common.{slice_index, slice_set}
use Rattle.std.proofs.Common.{nat_lt, refl, sym, ap, ◌∙◌, subst, inl, inr, ◌⊎◌, arith, eqb-true}
use Rattle.std.proofs.lemmas.Bool.{eq-eqb}
use Rattle.std.proofs.lemmas.List.{set-get_or}
use Rattle.ds_map.specs.Bounds.{Bounds}
use Rattle.ds_step.specs.declared.Event.TheVariants as events
use Rattle.ds_step.specs.Word.{answer_on}
use Rattle.ds_plain.specs.declared.Stop.TheVariants.{Fuel}
use Rattle.ds_plain.specs.declared.StartAt.{StartAt}
use Rattle.ds_plain.specs.declared.StartAt.TheVariants.{LoadStart, LoadFunction, LoadArgument}
use Rattle.ds_plain.specs.declared.Position.TheVariants.{Start, StoreEnded}
use Rattle.ds_plain.specs.Behaviour.{Behaviour}
use Rattle.ds_plain.specs.State.{Phase, NotGiven, Closed, Ready, Going, Stopped, State, Setting, come_to, replaced}
use Rattle.ds_plain.specs.Plain.{IsReady, phase_begun, changed}
use Rattle.ds_plain.specs.Operations.{load_of}
use Rattle.ds_plain.specs.Starting.{start_word, function_word, argument_word, start_op, start_event, StartsOn, Begins}
use Rattle.ds_plain.specs.Starting.{start_next}
use Rattle.ds_plain.specs.Thread.{Thread, standing, going_on, moved_from_start}
use Rattle.ds_plain_laws.proofs.Choices.{of_if, replaced_same}
use Rattle.ds_plain_laws.proofs.Words.{agrees_loaded}
use Rattle.ds_plain_laws.proofs.Phases.{NotBegun, passes_may, Goes, goes_run, fresh_come}
use Rattle.ds_plain_laws.proofs.Leaving.{leaves_all}
use Rattle.ds_plain_laws.proofs.Links.{LinkedAt, IsLinked, waiting_linked, going_linked}
use Rattle.ds_plain_laws.proofs.Makes.{Before, replaced_passes, all_same}
use Rattle.ds_plain_laws.proofs.Seats.{IsUnstarted, IsOpen, start_of, function_of, argument_of, IsSeated, Seats}
use Rattle.ds_plain_laws.proofs.Seats.{seats_by}
use Rattle.ds_plain_laws.proofs.Seating.{begun_step, waiting_step}
use Rattle.ds_plain_laws.proofs.Moves.{Moves, load_kept, Lands, going_lands, quiet_seated, going_no_wait}

-- a thread that has not begun and is open is ready
ready_of : (function argument : ℕ) (phase : Phase) → NotBegun phase → IsOpen function argument phase
    → phase ≡ Ready function argument
ready_of function argument NotGiven waits is = absurd is
ready_of function argument (Closed f a) waits is = absurd is
ready_of function argument (Ready f a) waits is = ap (λ f. Ready f a) (sym is.0) ∙ ap (Ready function) (sym is.1)
ready_of function argument (Going rest doing) waits is = absurd waits
ready_of function argument (Stopped stop) waits is = absurd waits

module _ (setting : Setting) (t : ℕ) (words : List ℕ) (s : State) (threads : ℕ → Thread) (maker : ℕ → ℕ)
    (before : Before setting words s) (seats : Seats words s threads maker) (few : t < 16)
    (rest : Behaviour) (units : ℕ) (began : Bool) (cursors : List ℕ) where
  abbrev lim : Bounds
  lim = setting.lim

  abbrev thread : StartAt → Thread
  thread at = record { rest = rest; position = Start at; units = units; began = began; cursors = cursors }

  abbrev Links : StartAt → Type 0
  Links at = LinkedAt setting.program lim t rest began s cursors (Start at)

  -- A STEP THAT ONLY LOADS

  wait_moves : (from at : StartAt) → Links from → IsSeated words s maker t (Start at)
      → Moves setting t words s threads (start_op t from) events.Log s
      (standing lim cursors rest (units + 1) began (Start at))
  wait_moves from at l seat = by from
    where
      linked : IsLinked setting.program lim t s (standing lim cursors rest (units + 1) began (Start at))
      linked = waiting_linked setting.program lim t s cursors l.looks rest (units + 1) began at l.stands.0 l.stands.1
          l.frees_so

      seated : IsSeated words s maker t (standing lim cursors rest (units + 1) began (Start at)).position
      seated = of_if (λ (a : Thread). IsSeated words s maker t a.position) (nat_lt (units + 1) lim.fuel)
          (record { rest = rest; position = Start at; units = units + 1; began = began; cursors = cursors })
          (record { rest = rest; position = StoreEnded Fuel; units = units + 1; began = began; cursors = cursors })
          seat tt

      kept : (word : ℕ) → Seats (slice_set words word (slice_index words word)) s
          (replaced threads t (standing lim cursors rest (units + 1) began (Start at))) maker
      kept word =
          subst (λ (ws : List ℕ). Seats ws s
          (replaced threads t (standing lim cursors rest (units + 1) began (Start at))) maker)
          (sym (set-get_or words word 0))
          (seats_by t words words s s threads maker maker (standing lim cursors rest (units + 1) began (Start at))
          (waiting_step t words s threads maker (standing lim cursors rest (units + 1) began (Start at)) seats
          (λ _. seated)) seats)

      loads : (word : ℕ) → Moves setting t words s threads (load_of word) events.Log s
          (standing lim cursors rest (units + 1) began (Start at))
      loads word = record {
        allowed = λ h. absurd (cc (h));
        linked = linked;
        others = λ u ne. passes_may (s.threads u) (s.threads u) (all_same setting t s u);
        leaves = leaves_all t s s refl refl;
        agrees = agrees_loaded lim words s s before.agrees word
            (record { given = refl; out = refl; pages = refl; blocks = refl }) refl;
        prints = omega arith;
        given = omega arith;
        maker = maker;
        seats = kept word;
      }

      by : (from : StartAt) → Moves setting t words s threads (start_op t from) events.Log s
          (standing lim cursors rest (units + 1) began (Start at))
      by LoadStart = loads (start_word t)
      by LoadFunction = loads (function_word t)
      by (LoadArgument function) = loads (argument_word t)

  -- THE BEGINNING

  begin_moves : (from : StartAt) (word function argument : ℕ) → start_op t from ≡ load_of word → Links from
      → s.threads t ≡ Ready function argument → start_of words t ≡ 1
      → Moves setting t words s threads (load_of word) events.Begin (changed setting s t events.Begin)
      (going_on lim cursors (units + 1) (setting.program.behaves t function argument))
  begin_moves from word function argument op l ready one =
      let begun : Phase = phase_begun setting s t (s.threads t) in
      let s' : State = changed setting s t events.Begin in
      let behaves : Behaviour = setting.program.behaves t function argument in
      let a : Thread = going_on lim cursors (units + 1) behaves in
      let come : s'.threads t ≡ come_to lim s behaves =
      replaced_same s.threads t begun ∙ ap (phase_begun setting s t) ready in
      let lands : Lands a = going_lands lim cursors (units + 1) behaves in
      let words' : List ℕ = slice_set words word (slice_index words word) in
      let goes : Goes (s'.threads t) =
      goes_run behaves (s'.threads t) (fresh_come lim s behaves (s'.threads t) come).runs in
      record {
        allowed = λ _. subst IsReady (sym ready) tt;
        linked = going_linked setting.program lim t s' cursors l.looks before.walks before.range behaves
            (fresh_come lim s behaves (s'.threads t) come) l.frees_so (units + 1);
        others = λ u ne. passes_may (s.threads u) (s'.threads u)
            (replaced_passes setting t s s begun (all_same setting t s) u ne);
        leaves = leaves_all t s s' refl refl;
        agrees = agrees_loaded lim words s s' before.agrees word
            (record { given = refl; out = refl; pages = refl; blocks = refl }) refl;
        prints = omega arith;
        given = omega arith;
        maker = maker;
        seats = seats_by t words words' s s' threads maker maker a
            (begun_step t words words' s s' threads maker a seats (λ i least lt. load_kept words word i)
            (replaced_passes setting t s s begun (all_same setting t s)) (omega arith) goes
            (λ un. subst IsUnstarted ready un) one
            (λ _. quiet_seated words' s' maker t a.position lands.quiet
            (λ n is. going_no_wait lim cursors (units + 1) behaves n is))) seats;
      }

  -- EACH ROW

  start_by : (old : ℕ) (b c : Bool) → (old == 1) ≡ b → (t == 0) ≡ c → old ≡ start_of words t → Links LoadStart
      → Moves setting t words s threads (start_op t LoadStart) (if c && b then events.Begin else events.Log)
      (changed setting s t (if c && b then events.Begin else events.Log))
      (moved_from_start setting.program lim t (thread LoadStart)
      (if b then (if c then Begins setting.program.main 0 else StartsOn LoadFunction) else StartsOn LoadStart))
  start_by old true true one main is l =
      begin_moves LoadStart (start_word t) setting.program.main 0 refl l (l.stands.1.main (eqb-true t 0 main))
      (sym is ∙ eqb-true old 1 one)
  start_by old true false one main is l =
      wait_moves LoadStart LoadFunction l
      (λ zero_t. let bad : true ≡ false = sym (eq-eqb t 0 zero_t) ∙ main in absurd (cc (bad)), sym is ∙ eqb-true old 1 one)
  start_by old false true one main is l = wait_moves LoadStart LoadStart l tt
  start_by old false false one main is l = wait_moves LoadStart LoadStart l tt

  function_by : (old : ℕ) (b : Bool) → old ≡ function_of words t → IsSeated words s maker t (Start LoadFunction)
      → Links LoadFunction
      → Moves setting t words s threads (start_op t LoadFunction) events.Log s
      (moved_from_start setting.program lim t (thread LoadFunction)
      (if b then StartsOn (LoadArgument old) else StartsOn LoadFunction))
  function_by old true is seat l = wait_moves LoadFunction (LoadArgument old) l (seat.0, seat.1, sym is)
  function_by old false is seat l = wait_moves LoadFunction LoadFunction l seat

  argument_by : (function old : ℕ) → old ≡ argument_of words t
      → IsSeated words s maker t (Start (LoadArgument function)) → Links (LoadArgument function)
      → ((t ≡ 0) ⊎ IsOpen (function_of words t) (argument_of words t) (s.threads t))
      → Moves setting t words s threads (start_op t (LoadArgument function)) events.Begin
      (changed setting s t events.Begin)
      (going_on lim cursors (units + 1) (setting.program.behaves t function old))
  argument_by function old is seat l (inl zero_t) = absurd (seat.0 zero_t)
  argument_by function old is seat l (inr is_open) =
      begin_moves (LoadArgument function) (argument_word t) function old refl l
      (ready_of function old (s.threads t) l.stands.1.waits
      (subst (λ f. IsOpen f old (s.threads t)) seat.2
      (subst (λ x. IsOpen (function_of words t) x (s.threads t)) (sym is) is_open))) seat.1

  pub start_moves : (at : StartAt) (old : ℕ) → old ≡ answer_on words (start_op t at)
      → IsSeated words s maker t (Start at) → Links at
      → Moves setting t words s threads (start_op t at) (start_event t at old)
      (changed setting s t (start_event t at old))
      (moved_from_start setting.program lim t (thread at) (start_next setting.program t at old))
  start_moves LoadStart old is seat l = start_by old (old == 1) (t == 0) refl refl is l
  start_moves LoadFunction old is seat l = function_by old (nat_lt old (2 ^ 32) && setting.program.may_start old) is seat l
  start_moves (LoadArgument function) old is seat l =
      argument_by function old is seat l (seats.opened t few seat.1)
