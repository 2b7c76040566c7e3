-- What each row of a thread that starts another one does.
use Rattle.std.proofs.Common.{◌≡◌, ℕ, suc, ◌+◌, ◌^◌, ◌<◌, ◌≤◌, Bool, true, false, if◌then◌else◌, nat_lt, List}
use Rattle.std.proofs.Common.{Some, slice_set, refl, sym, ap, ◌∙◌, subst, inl, inr}
use Rattle.std.proofs.Common.{◌⊎◌, arith}
use Rattle.std.proofs.lemmas.Bool.{cases_eq, ltb-true}
use Rattle.std.proofs.lemmas.Bool.Decides.{nat_tests}
use Rattle.std.proofs.lemmas.List.{set-get_or, get_or-set_same, get_or-set_other}
use Rattle.ds_map.specs.Bounds.{Bounds}
use Rattle.ds_map.specs.Words.{word_of}
use Rattle.ds_step.specs.declared.OpKind.TheVariants.{Cas}
use Rattle.ds_step.specs.declared.WordOp.{WordOp}
use Rattle.ds_step.specs.declared.Event.TheVariants as events
use Rattle.ds_step.specs.Word.{written_by, words_after, answer_on}
use Rattle.ds_plain.specs.declared.Stop.TheVariants.{Fuel}
use Rattle.ds_plain.specs.declared.SpawnAt.{SpawnAt}
use Rattle.ds_plain.specs.declared.SpawnAt.TheVariants.{DrawThread, StoreNumber, StoreFunction, StoreArgument}
use Rattle.ds_plain.specs.declared.SpawnAt.TheVariants.{OpenThread}
use Rattle.ds_plain.specs.declared.Position.TheVariants.{Spawn, StoreEnded}
use Rattle.ds_plain.specs.declared.Request.TheVariants as requests
use Rattle.ds_plain.specs.Behaviour.{Behaviour, told}
use Rattle.ds_plain.specs.State.{Doing, Phase, NotGiven, Closed, Ready, Going, Stopped, State, Setting, come_to}
use Rattle.ds_plain.specs.State.{replaced}
use Rattle.ds_plain.specs.Plain.{doing_of, request_of, request_in, phase_answered, phase_with, phase_given}
use Rattle.ds_plain.specs.Plain.{phase_opened}
use Rattle.ds_plain.specs.Plain.{with_phase, answered, not_due, written, opened, changed}
use Rattle.ds_plain.specs.Operations.{store_of}
use Rattle.ds_plain.specs.Starting.{start_word, function_word, argument_word}
use Rattle.ds_plain.specs.Spawning.{given_word, spawn_op, thread_drawn, spawn_event, SpawnsOn, SpawnTells, behind_draw}
use Rattle.ds_plain.specs.Spawning.{spawn_next}
use Rattle.ds_plain.specs.Thread.{Thread, standing, going_on, moved_from_spawn}
use Rattle.ds_plain_laws.proofs.Choices.{of_if, replaced_same, replaced_other}
use Rattle.ds_plain_laws.proofs.Words.{agrees_marked, agrees_stored, agrees_drawn, swap_kept, swap_made}
use Rattle.ds_plain_laws.proofs.Phases.{Asking, asks_for, Passes, MayPass, passes_same, passes_not_due, passes_may}
use Rattle.ds_plain_laws.proofs.Phases.{NotBegun, Goes, goes_run, Fresh, fresh_come, Draws}
use Rattle.ds_plain_laws.proofs.Leaving.{leaves_all}
use Rattle.ds_plain_laws.proofs.Links.{LinkedAt, SpawnLinked, spawn_goes, going_linked}
use Rattle.ds_plain_laws.proofs.Makes.{Before, replaced_passes, all_same, answered_linked}
use Rattle.ds_plain_laws.proofs.Seats.{IsUnstarted, IsMeant, IsToldOf, goes_meant, goes_unstarted, start_of}
use Rattle.ds_plain_laws.proofs.Seats.{function_of, argument_of, Creates, IsSeated, Seats, seats_by}
use Rattle.ds_plain_laws.proofs.Seating.{SameSeats, running_step, waiting_step}
use Rattle.ds_plain_laws.proofs.Creating.{draw_step, draw_creates, store_step, store_creates}
use Rattle.ds_plain_laws.proofs.Opening.{tell_step, let_step}
use Rattle.ds_plain_laws.proofs.Moves.{Moves, Lands, going_lands, lands_goes, quiet_seated, going_no_wait}

-- a thread that was not given out passes as its number is
given_passes : (function argument : ℕ) (phase : Phase) → IsUnstarted phase
    → MayPass phase (phase_given function argument phase)
given_passes function argument NotGiven un = tt
given_passes function argument (Closed f a) un = absurd un
given_passes function argument (Ready f a) un = absurd un
given_passes function argument (Going rest doing) un = absurd un
given_passes function argument (Stopped stop) un = refl

-- and one that is started as its number is stored
opened_passes : (function argument : ℕ) (phase middle : Phase) → Passes phase middle → IsMeant function argument phase
    → MayPass phase (phase_opened middle)
opened_passes function argument NotGiven middle passes is = absurd is
opened_passes function argument (Closed f a) middle passes is = subst (λ m. NotBegun (phase_opened m)) (sym passes) tt
opened_passes function argument (Ready f a) middle passes is = ap phase_opened passes
opened_passes function argument (Going rest doing) middle passes is = absurd is
opened_passes function argument (Stopped stop) middle passes is = ap phase_opened passes

module _ (setting : Setting) (t : ℕ) (words : List ℕ) (s : State) (threads : ℕ → Thread) (maker : ℕ → ℕ)
    (before : Before setting words s) (seats : Seats words s threads maker) (few : t < 16)
    (rest : Behaviour) (units : ℕ) (began : Bool) (cursors : List ℕ) where
  abbrev lim : Bounds
  lim = setting.lim

  abbrev thread : SpawnAt → Thread
  thread at = record { rest = rest; position = Spawn at; units = units; began = began; cursors = cursors }

  abbrev Links : SpawnAt → Type 0
  Links at = LinkedAt setting.program lim t rest began s cursors (Spawn at)

  -- where the thread goes on that starts another one
  abbrev onward : SpawnAt → Thread
  onward at = standing lim cursors rest (units + 1) began (Spawn at)

  -- it is seated there, or ends for want of fuel
  onward_seated : (words' : List ℕ) (s' : State) (maker' : ℕ → ℕ) (at : SpawnAt)
      → IsSeated words' s' maker' t (Spawn at) → IsSeated words' s' maker' t (onward at).position
  onward_seated words' s' maker' at seat =
      of_if (λ (a : Thread). IsSeated words' s' maker' t a.position) (nat_lt (units + 1) lim.fuel)
      (record { rest = rest; position = Spawn at; units = units + 1; began = began; cursors = cursors })
      (record { rest = rest; position = StoreEnded Fuel; units = units + 1; began = began; cursors = cursors })
      seat tt

  -- A NUMBER IS DRAWN

  module _ (loc function argument : ℕ) (l : Links (DrawThread loc function argument))
      (counts : s.given + 1 < 2 ^ 64) where
    abbrev drawing : WordOp
    drawing = spawn_op lim (DrawThread loc function argument)

    abbrev words_drawn : List ℕ
    words_drawn = words_after words drawing

    abbrev ask : Asking rest (s.threads t) (requests.Spawn loc function argument)
    ask = l.stands.1

    here_goes : Goes (s.threads t)
    here_goes = goes_run rest (s.threads t) ask.runs

    seats_same : SameSeats words words_drawn
    seats_same i least lt = get_or-set_other words given_word i _ 0 (omega (arith, least))

    module _ (few_n : s.given < 16) where
      abbrev n : ℕ
      n = s.given

      abbrev more : Doing → Doing
      more doing = record doing { spawned = Some n }

      abbrev given_state : State
      given_state = with_phase n (phase_given function argument (s.threads n)) (record s { given = suc s.given })

      abbrev drawn_state : State
      drawn_state = changed setting s t (events.Spawn n function argument)

      not_itself : n ≡ t → ⊥
      not_itself is =
          goes_unstarted (s.threads t) here_goes
          (subst (λ u. IsUnstarted (s.threads u)) is (seats.unstarted n (omega arith)))

      -- the phases behind it
      drawn_here : drawn_state.threads t ≡ Going rest (more ask.runs.doing)
      drawn_here =
          replaced_same given_state.threads t (phase_with more (given_state.threads t))
          ∙ (ap (phase_with more) (replaced_other s.threads n (phase_given function argument (s.threads n)) t not_itself)
          ∙ ap (phase_with more) ask.runs.going)

      drawn_there : drawn_state.threads n ≡ phase_given function argument (s.threads n)
      drawn_there =
          replaced_other given_state.threads t (phase_with more (given_state.threads t)) n (λ e. not_itself (sym e))
          ∙ replaced_same s.threads n (phase_given function argument (s.threads n))

      drawn_elsewhere : (u : ℕ) → (t ≡ u → ⊥) → (n ≡ u → ⊥) → drawn_state.threads u ≡ s.threads u
      drawn_elsewhere u ne other =
          replaced_other given_state.threads t (phase_with more (given_state.threads t)) u ne
          ∙ replaced_other s.threads n (phase_given function argument (s.threads n)) u other

      drawn_passes : (u : ℕ) → (t ≡ u → ⊥) → ((n ≡ u) ⊎ (n ≡ u → ⊥)) → MayPass (s.threads u) (drawn_state.threads u)
      drawn_passes u ne (inl is) =
          subst (λ u. MayPass (s.threads u) (drawn_state.threads u)) is
          (subst (MayPass (s.threads n)) (sym drawn_there)
          (given_passes function argument (s.threads n) (seats.unstarted n (omega arith))))
      drawn_passes u ne (inr other) =
          subst (MayPass (s.threads u)) (sym (drawn_elsewhere u ne other))
          (passes_may (s.threads u) (s.threads u) (passes_same (s.threads u)))

      drawn_goes : Goes (drawn_state.threads t)
      drawn_goes = record { rest = rest; doing = more ask.runs.doing; going = drawn_here }

      abbrev next : Thread
      next = onward (StoreNumber n loc function argument)

      maker' : ℕ → ℕ
      maker' = replaced maker n t

      drawn_seated : (here : t < 16 → IsSeated words_drawn drawn_state (replaced maker n t) t next.position)
          → Seats words_drawn drawn_state (replaced threads t next) (replaced maker n t)
      drawn_seated here =
          seats_by t words words_drawn s drawn_state threads maker (replaced maker n t) next
          (draw_step t function argument words words_drawn s drawn_state threads maker next seats seats_same few_n refl
          here_goes drawn_goes drawn_there drawn_elsewhere here) seats

      -- what thread t then starts is known with no word of where it stands
      drawn_creates : Creates words_drawn drawn_state (replaced maker n t) t n
          × IsMeant function argument (drawn_state.threads n)
      drawn_creates =
          draw_creates t function argument words words_drawn s drawn_state threads maker
          (record next { position = StoreEnded Fuel }) seats seats_same few_n refl here_goes drawn_goes drawn_there
          drawn_elsewhere (λ _. tt)

      pub drawn_moves : Moves setting t words s threads drawing (events.Spawn n function argument) drawn_state next
      drawn_moves = record {
        allowed = λ _. (
          (loc, asks_for setting s t rest (requests.Spawn loc function argument) ask),
          refl,
          few_n,
        );
        linked = spawn_goes setting.program lim t drawn_state cursors l.looks rest (units + 1) began
            (StoreNumber n loc function argument) (
              l.stands.0,
              record {
                doing = more ask.runs.doing;
                going = drawn_here;
                drawn = refl;
                not_ended = ask.runs.not_ended;
                begun = ask.begun;
                place = ask.place;
                asks = ask.asks;
              },
            ) l.stands.0 drawn_goes l.frees_so;
        others = λ u ne. drawn_passes u ne (cases_eq n u);
        leaves = leaves_all t s drawn_state refl refl;
        agrees = agrees_drawn lim words s drawn_state before.agrees (omega (arith, before.roomy)) counts refl refl refl
            refl refl;
        prints = omega arith;
        given = omega arith;
        maker = replaced maker n t;
        seats = drawn_seated (λ _. onward_seated words_drawn drawn_state (replaced maker n t)
            (StoreNumber n loc function argument) drawn_creates);
      }

    -- no number is left
    refused_moves : 16 ≤ s.given
        → Moves setting t words s threads drawing events.SpawnRefused (changed setting s t events.SpawnRefused)
        (going_on lim cursors (units + 1) (told rest 11))
    refused_moves none_left =
        let counted : State = record s { given = suc s.given } in
        let phase : Phase = phase_answered lim counted 11 (s.threads t) in
        let s' : State = changed setting s t events.SpawnRefused in
        let a : Thread = going_on lim cursors (units + 1) (told rest 11) in
        let lands : Lands a = going_lands lim cursors (units + 1) (told rest 11) in
        let linked =
        answered_linked setting t s before.walks before.range counted 11 rest ask.runs.doing (units + 1) cursors
        ask.runs.going l.frees_so l.looks in
        let others : (u : ℕ) → (t ≡ u → ⊥) → Passes (s.threads u) (s'.threads u) =
        replaced_passes setting t s counted phase (all_same setting t s) in
        record {
          allowed = λ _. (
            (
              loc,
              function,
              argument,
              asks_for setting s t rest (requests.Spawn loc function argument) ask,
            ),
            none_left,
          );
          linked = linked;
          others = λ u ne. passes_may (s.threads u) (s'.threads u) (others u ne);
          leaves = leaves_all t s s' refl refl;
          agrees = agrees_drawn lim words s s' before.agrees (omega (arith, before.roomy)) counts refl refl refl refl refl;
          prints = omega arith;
          given = omega arith;
          maker = maker;
          seats = seats_by t words words_drawn s s' threads maker maker a
              (running_step t words words_drawn s s' threads maker a seats seats_same (omega arith) others few here_goes
              (lands_goes setting.program lim t a.rest a.began s' a.position lands.begun lands.quiet linked.stands)
              (λ _. quiet_seated words_drawn s' maker t a.position lands.quiet
              (λ n is. going_no_wait lim cursors (units + 1) (told rest 11) n is))) seats;
        }

    draw_by : (b : Bool) → nat_lt s.given 16 ≡ b
        → Moves setting t words s threads drawing
        (if b then events.Spawn s.given function argument else events.SpawnRefused)
        (changed setting s t (if b then events.Spawn s.given function argument else events.SpawnRefused))
        (moved_from_spawn lim (thread (DrawThread loc function argument))
        (if b then SpawnsOn (StoreNumber s.given loc function argument) else SpawnTells 11))
    draw_by true e = drawn_moves (ltb-true s.given 16 e)
    draw_by false e = refused_moves (grind (arith, nat_tests, e))

  -- THE NUMBER IS STORED

  module _ (n loc function argument : ℕ) (l : Links (StoreNumber n loc function argument))
      (seat : IsSeated words s maker t (Spawn (StoreNumber n loc function argument))) where
    abbrev draws : Draws rest (s.threads t) n loc function argument
    draws = l.stands.1

    abbrev there : State
    there = written loc n s

    abbrev open_phase : Phase
    open_phase = phase_opened (there.threads n)

    abbrev open_state : State
    open_state = with_phase n open_phase there

    abbrev stored_state : State
    stored_state = answered lim t 0 open_state

    number_goes : Goes (s.threads t)
    number_goes = record { rest = rest; doing = draws.doing; going = draws.going }

    not_own : n ≡ t → ⊥
    not_own is =
        goes_meant function argument (s.threads t) number_goes
        (subst (λ u. IsMeant function argument (s.threads u)) is seat.1)

    stored_here : stored_state.threads t ≡ come_to lim open_state (told rest 0)
    stored_here =
        replaced_same open_state.threads t (phase_answered lim open_state 0 (open_state.threads t))
        ∙ ap (phase_answered lim open_state 0)
        (replaced_other there.threads n open_phase t not_own ∙ ap (phase_with (not_due loc)) draws.going)

    stored_there : stored_state.threads n ≡ open_phase
    stored_there =
        replaced_other open_state.threads t (phase_answered lim open_state 0 (open_state.threads t)) n
        (λ e. not_own (sym e))
        ∙ replaced_same there.threads n open_phase

    stored_elsewhere : (u : ℕ) → (t ≡ u → ⊥) → (n ≡ u → ⊥) → Passes (s.threads u) (stored_state.threads u)
    stored_elsewhere u ne other =
        subst (Passes (s.threads u))
        (sym (replaced_other open_state.threads t (phase_answered lim open_state 0 (open_state.threads t)) u ne
        ∙ replaced_other there.threads n open_phase u other)) (passes_not_due loc (s.threads u))

    stored_passes : (u : ℕ) → (t ≡ u → ⊥) → ((n ≡ u) ⊎ (n ≡ u → ⊥)) → MayPass (s.threads u) (stored_state.threads u)
    stored_passes u ne (inl is) =
        subst (λ u. MayPass (s.threads u) (stored_state.threads u)) is
        (subst (MayPass (s.threads n)) (sym stored_there)
        (opened_passes function argument (s.threads n) (there.threads n) (passes_not_due loc (s.threads n)) seat.1))
    stored_passes u ne (inr other) =
        passes_may (s.threads u) (stored_state.threads u) (stored_elsewhere u ne other)

    stored_fresh : Fresh lim stored_state.blocks (told rest 0) (stored_state.threads t)
    stored_fresh = fresh_come lim open_state (told rest 0) (stored_state.threads t) stored_here

    stored_goes : Goes (stored_state.threads t)
    stored_goes = goes_run (told rest 0) (stored_state.threads t) stored_fresh.runs

    abbrev words_stored : List ℕ
    words_stored = slice_set words (word_of lim loc) n

    stored_same : SameSeats words words_stored
    stored_same i least lt = get_or-set_other words (word_of lim loc) i n 0 (λ e. omega (arith, e, lt))

    abbrev telling : Thread
    telling = onward (StoreFunction n function argument)

    stored_creates : Creates words_stored stored_state maker t n
        × IsToldOf function argument (stored_state.threads n)
    stored_creates =
        store_creates t n function argument words words_stored s stored_state threads maker
        (record telling { position = StoreEnded Fuel }) seats stored_same refl few number_goes stored_goes seat.0 seat.1
        (there.threads n) (passes_not_due loc (s.threads n)) stored_there stored_elsewhere (λ _. tt)

    -- behind a request that drew a number the store opens the thread of that number
    store_opens : changed setting s t (events.Store loc n) ≡ stored_state
    store_opens =
        ap (λ drawn. answered lim t 0 (opened drawn there))
        (ap (λ phase. (doing_of lim s phase).spawned) draws.going ∙ draws.drawn)

    store_moves : Moves setting t words s threads (spawn_op lim (StoreNumber n loc function argument)) (events.Store loc n)
        (changed setting s t (events.Store loc n)) telling
    store_moves = subst (λ (s' : State). Moves setting t words s threads
        (spawn_op lim (StoreNumber n loc function argument)) (events.Store loc n) s' telling) (sym store_opens) (record {
          allowed = λ _. inr (
            function,
            argument,
            ap request_of draws.going ∙ ap request_in draws.asks,
            ap (λ phase. (doing_of lim s phase).spawned) draws.going ∙ draws.drawn,
            ap (λ phase. (doing_of lim s phase).ended) draws.going ∙ draws.not_ended,
          );
          linked = spawn_goes setting.program lim t stored_state cursors l.looks rest (units + 1) began
              (StoreFunction n function argument) (l.stands.0, stored_fresh) l.stands.0 stored_goes l.frees_so;
          others = λ u ne. stored_passes u ne (cases_eq n u);
          leaves = leaves_all t s stored_state refl refl;
          agrees = agrees_stored lim words s stored_state before.agrees loc n
              (record { given = refl; out = refl; pages = refl; blocks = refl }) refl;
          prints = omega arith;
          given = omega arith;
          maker = maker;
          seats = seats_by t words words_stored s stored_state threads maker maker telling
              (store_step t n function argument words words_stored s stored_state threads maker telling seats stored_same
              refl few number_goes stored_goes seat.0 seat.1 (there.threads n) (passes_not_due loc (s.threads n))
              stored_there stored_elsewhere (λ _. onward_seated words_stored stored_state maker
              (StoreFunction n function argument) stored_creates)) seats;
        })

  -- THE OTHER THREAD IS TOLD WHAT IT IS TO RUN

  -- a step that stores a word of thread n, and changes no state
  module _ (n word value : ℕ) (creates : Creates words s maker t n) (least : 32 ≤ word) (most : word < 64)
      (functions : (u : ℕ) → u < 16 → (n ≡ u → ⊥) → function_word u ≡ word → ⊥)
      (arguments : (u : ℕ) → u < 16 → (n ≡ u → ⊥) → argument_word u ≡ word → ⊥) where
    abbrev words_told : List ℕ
    words_told = slice_set words word value

    told_starts : (u : ℕ) → u < 16 → start_of words_told u ≡ start_of words u
    told_starts u few_u = get_or-set_other words word (start_word u) value 0 (λ e. omega (arith, e, least, few_u))

    told_creates : Creates words_told s maker t n
    told_creates = record {
      made = creates.made;
      few = creates.few;
      given = creates.given;
      closed = λ one. creates.closed (sym (told_starts n creates.few) ∙ one);
    }

    told_moves : (at next : SpawnAt) → spawn_op lim at ≡ store_of word value → Links at
        → SpawnLinked lim rest began s.blocks (s.threads t) next → began ≡ true → Goes (s.threads t)
        → IsSeated words_told s maker t (Spawn next)
        → Moves setting t words s threads (store_of word value) events.Log s (onward next)
    told_moves at next op l linked b goes seat = record {
      allowed = λ h. absurd (cc (h));
      linked = spawn_goes setting.program lim t s cursors l.looks rest (units + 1) began next linked b goes l.frees_so;
      others = λ u ne. passes_may (s.threads u) (s.threads u) (all_same setting t s u);
      leaves = leaves_all t s s refl refl;
      agrees = agrees_marked lim words s s before.agrees word value (omega (arith, least)) (omega (arith, most))
          (record { given = refl; out = refl; pages = refl; blocks = refl }) refl;
      prints = omega arith;
      given = omega arith;
      maker = maker;
      seats = seats_by t words words_told s s threads maker maker (onward next)
          (tell_step t n words words_told s threads maker (onward next) seats creates
          (λ u few_u ne. get_or-set_other words word (function_word u) value 0
          (functions u few_u ne))
          (λ u few_u ne. get_or-set_other words word (argument_word u) value 0
          (arguments u few_u ne))
          (λ _. onward_seated words_told s maker next seat) told_starts) seats;
    }

  function_moves : (n function argument : ℕ) → Links (StoreFunction n function argument)
      → IsSeated words s maker t (Spawn (StoreFunction n function argument))
      → Moves setting t words s threads (store_of (function_word n) function) events.Log s
      (onward (StoreArgument n argument))
  function_moves n function argument l seat =
      let few_n : n < 16 = seat.0.few in
      let words' : List ℕ = slice_set words (function_word n) function in
      told_moves n (function_word n) function seat.0 (omega arith) (omega (arith, few_n))
      (λ u few_u ne e. ne (omega (arith, e))) (λ u few_u ne e. omega (arith, e, few_n))
      (StoreFunction n function argument) (StoreArgument n argument) refl l l.stands l.stands.0
      (goes_run (told rest 0) (s.threads t) l.stands.1.runs) (
        told_creates n (function_word n) function seat.0 (omega arith) (omega (arith, few_n))
            (λ u few_u ne e. ne (omega (arith, e))) (λ u few_u ne e. omega (arith, e, few_n)),
        subst (λ f. IsToldOf f argument (s.threads n))
            (sym (get_or-set_same words (function_word n) function 0 (omega (arith, few_n, before.roomy)))) seat.1,
      )

  argument_moves : (n argument : ℕ) → Links (StoreArgument n argument)
      → IsSeated words s maker t (Spawn (StoreArgument n argument))
      → Moves setting t words s threads (store_of (argument_word n) argument) events.Log s (onward (OpenThread n))
  argument_moves n argument l seat =
      let few_n : n < 16 = seat.0.few in
      let words' : List ℕ = slice_set words (argument_word n) argument in
      told_moves n (argument_word n) argument seat.0 (omega arith) (omega (arith, few_n))
      (λ u few_u ne e. omega (arith, e, few_u)) (λ u few_u ne e. ne (omega (arith, e)))
      (StoreArgument n argument) (OpenThread n) refl l l.stands l.stands.0
      (goes_run (told rest 0) (s.threads t) l.stands.1.runs) (
        told_creates n (argument_word n) argument seat.0 (omega arith) (omega (arith, few_n))
            (λ u few_u ne e. omega (arith, e, few_u)) (λ u few_u ne e. ne (omega (arith, e))),
        subst (λ f. IsToldOf f (argument_of words' n) (s.threads n))
            (sym (get_or-set_other words (argument_word n) (function_word n) argument 0 (λ e. omega (arith, e, few_n))))
            (subst (λ x. IsToldOf (function_of words n) x (s.threads n))
            (sym (get_or-set_same words (argument_word n) argument 0 (omega (arith, few_n, before.roomy)))) seat.1),
      )

  -- THE OTHER THREAD IS LET BEGIN

  module _ (n : ℕ) (l : Links (OpenThread n)) (seat : IsSeated words s maker t (Spawn (OpenThread n))) where
    abbrev fresh : Fresh lim s.blocks (told rest 0) (s.threads t)
    fresh = l.stands.1

    abbrev done : Thread
    done = going_on lim cursors (units + 1) (told rest 0)

    abbrev words_let : (v : ℕ) → List ℕ
    words_let v = slice_set words (start_word n) v

    few_n : n < 16
    few_n = seat.0.few

    done_seated : (words' : List ℕ) → t < 16 → IsSeated words' s maker t done.position
    done_seated words' few_t =
        let lands = going_lands lim cursors (units + 1) (told rest 0) in
        quiet_seated words' s maker t done.position lands.quiet
        (λ n is. going_no_wait lim cursors (units + 1) (told rest 0) n is)

    -- by what the start word becomes
    let_moves : (v : ℕ) → written_by Cas 0 1 (start_of words n) ≡ v
        → Seats (words_let v) s (replaced threads t done) maker
        → Moves setting t words s threads (spawn_op lim (OpenThread n)) events.Log s done
    let_moves v is after = record {
      allowed = λ h. absurd (cc (h));
      linked = going_linked setting.program lim t s cursors l.looks before.walks before.range (told rest 0) fresh
          l.frees_so (units + 1);
      others = λ u ne. passes_may (s.threads u) (s.threads u) (all_same setting t s u);
      leaves = leaves_all t s s refl refl;
      agrees = agrees_marked lim words s s before.agrees (start_word n) (written_by Cas 0 1 (start_of words n))
          (omega arith) (omega (arith, few_n))
          (record { given = refl; out = refl; pages = refl; blocks = refl }) refl;
      prints = omega arith;
      given = omega arith;
      maker = maker;
      seats = subst (λ v. Seats (words_let v) s (replaced threads t done) maker) (sym is) after;
    }

    let_by : ((start_of words n ≡ 0) ⊎ (start_of words n ≡ 0 → ⊥))
        → Moves setting t words s threads (spawn_op lim (OpenThread n)) events.Log s done
    let_by (inl is) =
        let one : start_of (words_let 1) n ≡ 1 =
        get_or-set_same words (start_word n) 1 0 (omega (arith, few_n, before.roomy)) in
        let functions : (u : ℕ) → function_of (words_let 1) u ≡ function_of words u =
        λ u. get_or-set_other words (start_word n) (function_word u) 1 0 (λ e. omega (arith, e, few_n)) in
        let arguments : (u : ℕ) → argument_of (words_let 1) u ≡ argument_of words u =
        λ u. get_or-set_other words (start_word n) (argument_word u) 1 0 (λ e. omega (arith, e, few_n)) in
        let_moves 1 (swap_made 0 1 (start_of words n) is)
        (seats_by t words (words_let 1) s s threads maker maker done
        (let_step t n words (words_let 1) s threads maker done seats seat.0 (λ u few_u ne. functions u)
        (λ u few_u ne. arguments u) (done_seated (words_let 1))
        (subst (λ f. IsToldOf f (argument_of (words_let 1) n) (s.threads n)) (sym (functions n))
        (subst (λ x. IsToldOf (function_of words n) x (s.threads n)) (sym (arguments n)) seat.1)) is one
        (λ u few_u ne. get_or-set_other words (start_word n) (start_word u) 1 0
        (λ e. ne (omega (arith, e))))) seats)
    let_by (inr ne) =
        let_moves (start_of words n) (swap_kept 0 1 (start_of words n) ne)
        (subst (λ (ws : List ℕ). Seats ws s (replaced threads t done) maker)
        (sym (set-get_or words (start_word n) 0))
        (seats_by t words words s s threads maker maker done
        (waiting_step t words s threads maker done seats (done_seated words)) seats))

  -- EACH ROW

  pub spawn_moves : (at : SpawnAt) (old : ℕ) → s.given + 1 < 2 ^ 64 → old ≡ answer_on words (spawn_op lim at)
      → IsSeated words s maker t (Spawn at) → Links at
      → Moves setting t words s threads (spawn_op lim at) (spawn_event at old) (changed setting s t (spawn_event at old))
      (moved_from_spawn lim (thread at) (spawn_next at old))
  spawn_moves (DrawThread loc function argument) old counts is seat l =
      subst (λ old. Moves setting t words s threads (spawn_op lim (DrawThread loc function argument))
      (thread_drawn function argument old) (changed setting s t (thread_drawn function argument old))
      (moved_from_spawn lim (thread (DrawThread loc function argument)) (behind_draw loc function argument old)))
      (sym (is ∙ before.agrees.given)) (draw_by loc function argument l counts (nat_lt s.given 16) refl)
  spawn_moves (StoreNumber n loc function argument) old counts is seat l = store_moves n loc function argument l seat
  spawn_moves (StoreFunction n function argument) old counts is seat l = function_moves n function argument l seat
  spawn_moves (StoreArgument n argument) old counts is seat l = argument_moves n argument l seat
  spawn_moves (OpenThread n) old counts is seat l = let_by n l seat (cases_eq (start_of words n) 0)
