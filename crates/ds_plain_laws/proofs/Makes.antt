-- What each row of the step table does: its event is allowed, and words, state and threads go together afterwards.
use Rattle.std.proofs.Common.{◌≡◌, ℕ, ◌+◌, ◌^◌, ◌<◌, ◌≤◌, Bool, true, false, if◌then◌else◌, List, [], ◌∷◌}
use Rattle.std.proofs.Common.{◌++◌, length, refl, sym, ap, ◌∙◌, subst, inl, inr, arith}
use Rattle.std.specs.Option.{unwrap_or}
use Rattle.std.proofs.lemmas.List.{length_push}
use Rattle.ds_map.specs.Bounds.{IsInRange}
use Rattle.ds_map.specs.Words.{first_program_word, word_of}
use Rattle.ds_step.specs.declared.WordOp.{WordOp}
use Rattle.ds_step.specs.declared.Event.{Event}
use Rattle.ds_step.specs.declared.Event.TheVariants as events
use Rattle.ds_step.specs.Word.{words_after, answer_on}
use Rattle.ds_plain.specs.declared.Stop.{Stop}
use Rattle.ds_plain.specs.declared.Stop.TheVariants.{Idle, Running, Returned, Trap, Full, Fuel}
use Rattle.ds_plain.specs.declared.Request.TheVariants as requests
use Rattle.ds_plain.specs.declared.AccessAt.TheVariants.{LoadWord, StoreWord}
use Rattle.ds_plain.specs.declared.Position.TheVariants.{DrawPrint, StoreEnded, Over}
use Rattle.ds_plain.specs.declared.Position.TheVariants as positions
use Rattle.ds_plain.specs.Behaviour.{Behaviour, told}
use Rattle.ds_plain.specs.State.{Doing, Phase, Going, Stopped, State, Setting}
use Rattle.ds_plain.specs.State.{replaced}
use Rattle.ds_plain.specs.Plain.{doing_of, IsStopped, Allowed, phase_answered, answered, opened}
use Rattle.ds_plain.specs.Plain.{written, request_in, requested_stop, named_stop, final_stop, phase_with, not_due}
use Rattle.ds_plain.specs.Plain.{changed}
use Rattle.ds_plain.specs.Starting.{start_word}
use Rattle.ds_plain.specs.Table.{op_at}
use Rattle.ds_plain.specs.Reached.{AreCursors}
use Rattle.ds_plain.specs.Thread.{Thread, going_on}
use Rattle.ds_plain.specs.History.{is_log}
use Rattle.ds_plain.specs.Explained.{Agrees, is_fuel}
use Rattle.ds_plain_laws.proofs.Choices.{replaced_same, replaced_other}
use Rattle.ds_plain_laws.proofs.Words.{agrees_loaded, agrees_marked, agrees_stored, agrees_printed, program_word}
use Rattle.ds_plain_laws.proofs.Phases.{Runs, Asking, Halts, asks_for, Passes, passes_same, passes_not_due}
use Rattle.ds_plain_laws.proofs.Phases.{waits_not_stopped, fresh_come}
use Rattle.ds_plain_laws.proofs.Leaving.{Leaves, leaves_all, FreesNone}
use Rattle.ds_plain_laws.proofs.Links.{Walks, Ending, Finishes, Trapped, Spent, Never, LinkedAt, IsLinked}
use Rattle.ds_plain_laws.proofs.Links.{going_linked}

-- A step of thread t, with its operation and its event, on these words and from one state to another: the event is
-- allowed, and the words, the phases and the thread that it leaves go together.
pub record Makes (setting : Setting) (t : ℕ) (words : List ℕ) (s : State) (op : WordOp) (event : Event) (s' : State)
    (a : Thread) : Type 0 where
  pub allowed : is_log event ≡ false → Allowed setting s t event
  pub linked : IsLinked setting.program setting.lim t s' a
  pub others : (u : ℕ) → (t ≡ u → ⊥) → Passes (s.threads u) (s'.threads u)
  pub leaves : Leaves t s s'
  pub agrees : Agrees setting.lim (words_after words op) s'
  pub prints : length s'.out ≤ length s.out + 1

-- what is known before a step
pub record Before (setting : Setting) (words : List ℕ) (s : State) : Type 0 where
  pub walks : Walks
  pub range : IsInRange setting.lim
  pub agrees : Agrees setting.lim words s
  pub roomy : first_program_word setting.lim ≤ length words
  -- frees are taken at their word
  pub weak : setting.weak ≡ true

-- THREADS AFTER A STEP OF THREAD T

module _ (setting : Setting) (t : ℕ) (s : State) where
  -- the phases of the others are not replaced
  pub replaced_passes : (s' : State) (phase : Phase) → ((u : ℕ) → Passes (s.threads u) (s'.threads u)) → (u : ℕ)
      → (t ≡ u → ⊥) → Passes (s.threads u) (replaced s'.threads t phase u)
  replaced_passes s' phase passes u ne =
      subst (Passes (s.threads u)) (sym (replaced_other s'.threads t phase u ne)) (passes u)

  pub all_same : (u : ℕ) → Passes (s.threads u) (s.threads u)
  all_same u = passes_same (s.threads u)

  -- a thread that runs is given an answer, in some state, and comes to its next request
  pub answered_linked : Walks → IsInRange setting.lim → (s' : State) (answer : ℕ) (rest : Behaviour) (doing : Doing)
      (units : ℕ) (cursors : List ℕ) → s'.threads t ≡ Going rest doing → FreesNone t s'.blocks
      → AreCursors setting.lim cursors
      → IsLinked setting.program setting.lim t (answered setting.lim t answer s')
      (going_on setting.lim cursors units (told rest answer))
  answered_linked walks range s' answer rest doing units cursors going none looks =
      let after : State = answered setting.lim t answer s' in
      going_linked setting.program setting.lim t after cursors looks walks range (told rest answer)
      (fresh_come setting.lim s' (told rest answer) (after.threads t)
      (replaced_same s'.threads t (phase_answered setting.lim s' answer (s'.threads t))
      ∙ ap (phase_answered setting.lim s' answer) going)) none units

module _ (setting : Setting) (t : ℕ) (words : List ℕ) (s : State) (before : Before setting words s)
    (rest : Behaviour) (units : ℕ) (began : Bool) (cursors : List ℕ) where
  -- PROGRAM MEMORY

  pub load_word_makes : (loc old : ℕ)
      → old ≡ answer_on words (op_at setting.lim t (positions.Access (LoadWord loc)))
      → LinkedAt setting.program setting.lim t rest began s cursors (positions.Access (LoadWord loc))
      → Makes setting t words s (op_at setting.lim t (positions.Access (LoadWord loc))) (events.Load loc old)
      (changed setting s t (events.Load loc old)) (going_on setting.lim cursors (units + 1) (told rest old))
  load_word_makes loc old is l =
      let at = l.stands in
      let runs = at.2.runs in
      record {
        allowed = λ _. (
          inl (at.0, asks_for setting s t rest (requests.Load at.0) at.2, at.1),
          is ∙ program_word setting.lim words s before.agrees loc,
        );
        linked = answered_linked setting t s before.walks before.range s old rest runs.doing (units + 1) cursors
            runs.going l.frees_so l.looks;
        others = replaced_passes setting t s s (phase_answered setting.lim s old (s.threads t)) (all_same setting t s);
        leaves = leaves_all t s (changed setting s t (events.Load loc old)) refl refl;
        agrees = agrees_loaded setting.lim words s (changed setting s t (events.Load loc old)) before.agrees
            (word_of setting.lim loc) (record { given = refl; out = refl; pages = refl; blocks = refl }) refl;
        prints = omega arith;
      }

  -- behind a request that drew no number a store opens nothing
  store_opens_none : (loc value : ℕ) → Runs rest (s.threads t)
      → changed setting s t (events.Store loc value) ≡ answered setting.lim t 0 (written loc value s)
  store_opens_none loc value runs =
      ap (λ drawn. answered setting.lim t 0 (opened drawn (written loc value s)))
      (ap (λ phase. (doing_of setting.lim s phase).spawned) runs.going ∙ runs.not_spawned)

  pub store_word_makes : (loc value : ℕ)
      → LinkedAt setting.program setting.lim t rest began s cursors (positions.Access (StoreWord loc value))
      → Makes setting t words s (op_at setting.lim t (positions.Access (StoreWord loc value)))
      (events.Store loc value) (changed setting s t (events.Store loc value))
      (going_on setting.lim cursors (units + 1) (told rest 0))
  store_word_makes loc value l =
      let at = l.stands in
      let runs = at.3.runs in
      let s' : State = written loc value s in
      let phase : Phase = phase_answered setting.lim s' 0 (s'.threads t) in
      subst (λ (after : State). Makes setting t words s
      (op_at setting.lim t (positions.Access (StoreWord loc value))) (events.Store loc value) after
      (going_on setting.lim cursors (units + 1) (told rest 0))) (sym (store_opens_none loc value runs)) (record {
        allowed = λ _. inl (at.0, asks_for setting s t rest (requests.Store at.0 value) at.3, at.1, at.2);
        linked = answered_linked setting t s before.walks before.range s' 0 rest (not_due loc runs.doing) (units + 1)
            cursors (ap (phase_with (not_due loc)) runs.going) l.frees_so l.looks;
        others = replaced_passes setting t s s' phase (λ u. passes_not_due loc (s.threads u));
        leaves = leaves_all t s (answered setting.lim t 0 s') refl refl;
        agrees = agrees_stored setting.lim words s (answered setting.lim t 0 s') before.agrees loc value
            (record { given = refl; out = refl; pages = refl; blocks = refl }) refl;
        prints = omega arith;
      })

  -- PRINTS

  pub print_makes : (value old : ℕ) → length s.out + 1 < 2 ^ 64
      → old ≡ answer_on words (op_at setting.lim t (DrawPrint value))
      → LinkedAt setting.program setting.lim t rest began s cursors (DrawPrint value)
      → Makes setting t words s (op_at setting.lim t (DrawPrint value)) (events.Print old value)
      (changed setting s t (events.Print old value)) (going_on setting.lim cursors (units + 1) (told rest 0))
  print_makes value old few is l =
      let runs = l.stands.runs in
      let s' : State = record s { out = s.out ++ value ∷ [] } in
      record {
        allowed = λ _. (asks_for setting s t rest (requests.Print value) l.stands, is ∙ before.agrees.prints);
        linked = answered_linked setting t s before.walks before.range s' 0 rest runs.doing (units + 1) cursors
            runs.going l.frees_so l.looks;
        others = replaced_passes setting t s s' (phase_answered setting.lim s' 0 (s.threads t))
            (all_same setting t s);
        leaves = leaves_all t s (changed setting s t (events.Print old value)) refl refl;
        agrees = agrees_printed setting.lim words s (changed setting s t (events.Print old value)) before.agrees value
            (omega (arith, before.roomy)) few refl refl refl refl refl;
        prints = omega (arith, length_push s.out value);
      }

  -- THE END

  -- the stop that the plain machine gives is the one at which the thread stands
  named_by : (stop : Stop) (phase : Phase) → Asking rest phase (requests.Stop stop) → named_stop phase ≡ stop
  named_by stop phase asking =
      let runs = asking.runs in
      ap named_stop runs.going
      ∙ (ap (λ ended. unwrap_or ended (requested_stop (request_in (rest [])))) runs.not_ended
      ∙ ap (λ asked. requested_stop (request_in asked)) asking.asks)

  named_halted : (stop : Stop) (phase : Phase) → Halts rest phase stop → named_stop phase ≡ stop
  named_halted stop phase halts =
      ap named_stop halts.going ∙ ap (λ ended. unwrap_or ended (requested_stop (request_in (rest [])))) halts.ended

  named_ending : (stop : Stop) (phase : Phase) → is_fuel stop ≡ false
      → Ending setting.program t rest began phase stop → named_stop phase ≡ stop
  named_ending stop phase other (Finishes b asking) = named_by stop phase asking
  named_ending stop phase other (Trapped b halts) = named_halted stop phase halts
  named_ending stop phase other (Spent b goes fuel) =
      let is : is_fuel stop ≡ true = ap is_fuel fuel in absurd (cc (is, other))
  named_ending stop phase other (Never b waiting fuel) =
      let is : is_fuel stop ≡ true = ap is_fuel fuel in absurd (cc (is, other))

  ending_stop : (stop : Stop) (phase : Phase) → Ending setting.program t rest began phase stop
      → (if is_fuel stop then Fuel else named_stop phase) ≡ stop
  ending_stop Fuel phase e = refl
  ending_stop Idle phase e = named_ending Idle phase refl e
  ending_stop Running phase e = named_ending Running phase refl e
  ending_stop (Returned value) phase e = named_ending (Returned value) phase refl e
  ending_stop (Trap trap) phase e = named_ending (Trap trap) phase refl e
  ending_stop (Full place what) phase e = named_ending (Full place what) phase refl e

  ending_allowed : (stop : Stop) → setting.out_of_fuel t ≡ is_fuel stop
      → Ending setting.program t rest began (s.threads t) stop → Allowed setting s t events.End
  ending_allowed stop recorded (Finishes b asking) = (
    λ h. subst IsStopped asking.runs.going h,
    inl (inl (stop, asks_for setting s t rest (requests.Stop stop) asking)),
  )
  ending_allowed stop recorded (Trapped b halts) = (
    λ h. subst IsStopped halts.going h,
    inl (inr (stop, ap (λ phase. (doing_of setting.lim s phase).ended) halts.going ∙ halts.ended)),
  )
  ending_allowed stop recorded (Spent b goes fuel) =
      (λ h. subst IsStopped goes.going h, inr (recorded ∙ ap is_fuel fuel))
  ending_allowed stop recorded (Never b waiting fuel) =
      (λ h. waits_not_stopped (s.threads t) waiting.waits h, inr (recorded ∙ ap is_fuel fuel))

  pub end_makes : (stop : Stop) → t < 16 → setting.out_of_fuel t ≡ is_fuel stop
      → LinkedAt setting.program setting.lim t rest began s cursors (StoreEnded stop)
      → Makes setting t words s (op_at setting.lim t (StoreEnded stop)) events.End (changed setting s t events.End)
      (record { rest = rest; position = Over stop; units = units; began = began; cursors = cursors })
  end_makes stop within recorded l =
      let stopped : Phase = Stopped (final_stop setting t (s.threads t)) in
      let given : final_stop setting t (s.threads t) ≡ stop =
      ap (λ b. if b then Fuel else named_stop (s.threads t)) recorded ∙ ending_stop stop (s.threads t) l.stands in
      record {
        allowed = λ _. ending_allowed stop recorded l.stands;
        linked = record {
          stands = replaced_same s.threads t stopped ∙ ap Stopped given;
          frees_so = tt;
          looks = l.looks;
        };
        others = replaced_passes setting t s s stopped (all_same setting t s);
        leaves = leaves_all t s (changed setting s t events.End) refl refl;
        agrees = agrees_marked setting.lim words s (changed setting s t events.End) before.agrees (start_word t) 2
            (omega arith) (omega arith) (record { given = refl; out = refl; pages = refl; blocks = refl }) refl;
        prints = omega arith;
      }
