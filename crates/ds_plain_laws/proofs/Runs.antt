-- Every legal order of the traces is a run of the plain machine: by induction on the history from its front, at any
-- words, state and threads that go together.
use Rattle.std.proofs.Common.{◌≡◌, ℕ, zero, suc, ◌+◌, ◌^◌, ◌<◌, ◌≤◌, Bool, false, if◌then◌else◌}
use Rattle.std.proofs.Common.{List, [], ◌∷◌, length, take, refl, sym, ap, ◌∙◌, subst, inl, inr, ◌⊎◌, arith}
use Rattle.std.proofs.lemmas.Bool.{cases_eq, cases_lt, eq-eqb, ne_eqb}
use Rattle.std.proofs.lemmas.List.{length-set, get_or_past}
use Rattle.ds_map.specs.Bounds.{Bounds, IsInRange}
use Rattle.ds_map.specs.Words.{first_program_word, first_words}
use Rattle.ds_step.specs.declared.Event.{Event}
use Rattle.ds_step.specs.declared.Event.TheVariants as events
use Rattle.ds_step.specs.declared.Step.{Step}
use Rattle.ds_step.specs.Word.{words_after, answer_on}
use Rattle.ds_plain.specs.declared.Stop.{Stop}
use Rattle.ds_plain.specs.declared.StartAt.TheVariants.{LoadStart}
use Rattle.ds_plain.specs.declared.Position.{Position}
use Rattle.ds_plain.specs.declared.Position.TheVariants.{Start, Access, Malloc, Note, Free, Spawn, Join}
use Rattle.ds_plain.specs.declared.Position.TheVariants.{DrawPrint, StoreEnded, Over, NoRow}
use Rattle.ds_plain.specs.Behaviour.{Behaviour, silent, Program}
use Rattle.ds_plain.specs.State.{State, Setting, first_state, replaced, stop_of_phase}
use Rattle.ds_plain.specs.Plain.{Allowed, changed, IsPlainRun, state_after}
use Rattle.ds_plain.specs.Table.{op_at, event_at, is_over}
use Rattle.ds_plain.specs.Thread.{Thread, first_cursors, first_thread, moved, moved_from, Follows, thread_after}
use Rattle.ds_plain.specs.Thread.{stop_of}
use Rattle.ds_plain.specs.History.{History, steps_of, Interleaves, IsLegal, words_left, is_log, erase}
use Rattle.ds_plain.specs.Explained.{Agrees, is_fuel, stop_in, setting_of, IsRecord, IsLegalRun, IsExplained}
use Rattle.ds_plain_laws.proofs.Choices.{replaced_same, replaced_other}
use Rattle.ds_plain_laws.proofs.Words.{agrees_first, roomy_first}
use Rattle.ds_plain_laws.proofs.Leaving.{frees_first}
use Rattle.ds_plain_laws.proofs.Links.{Walks, LinkedAt, IsLinked, linked_on, linked_stop, waiting_linked}
use Rattle.ds_plain_laws.proofs.Phases.{waiting_first}
use Rattle.ds_plain_laws.proofs.Makes.{Before}
use Rattle.ds_plain_laws.proofs.Seats.{IsSeated, Seats}
use Rattle.ds_plain_laws.proofs.Moves.{Moves}
use Rattle.ds_plain_laws.proofs.Starts.{start_moves}
use Rattle.ds_plain_laws.proofs.Acts.{access_moves, malloc_moves, note_moves, free_moves, join_moves}
use Rattle.ds_plain_laws.proofs.Acts.{print_moves}
use Rattle.ds_plain_laws.proofs.Spawns.{spawn_moves}
use Rattle.ds_plain_laws.proofs.Ends.{end_moves, seats_first}
use Rattle.ds_plain_laws.proofs.Counts.{over_rest, standing_pays, trace_length, history_length}

-- The words, the plain state and the threads go together, and what is left of the history is legal, follows the step
-- table and leads to the recorded stops.
pub record Keeps (program : Program) (lim : Bounds) (stops : List Stop) (h : History) (words : List ℕ) (s : State)
    (threads : ℕ → Thread) : Type 0 where
  pub agrees : Agrees lim words s
  pub roomy : first_program_word lim ≤ length words
  pub linked : (t : ℕ) → IsLinked program lim t s (threads t)
  pub legal : IsLegal words h
  pub follows : (t : ℕ) → Follows program lim t (threads t) (steps_of t h)
  pub ends : (t : ℕ) → t < 16 → stop_in stops t ≡ stop_of (thread_after program lim t (threads t) (steps_of t h))
  pub none_past : (t : ℕ) → 16 ≤ t → steps_of t h ≡ []
  pub few : length s.out + length h < 2 ^ 64
  pub few_given : s.given + length h < 2 ^ 64
  pub maker : ℕ → ℕ
  pub seats : Seats words s threads maker

-- what is left of the history is a run of the plain machine from this state, which agrees with the words at every
-- moment
pub record Explains (program : Program) (lim : Bounds) (stops : List Stop) (h : History) (words : List ℕ)
    (s : State) : Type 0 where
  pub plain : IsPlainRun (setting_of program lim stops) s (erase h)
  pub agrees : (k : ℕ)
      → Agrees lim (words_left words (take k h)) (state_after (setting_of program lim stops) s (erase (take k h)))
  pub ends : (t : ℕ) → t < 16
      → stop_in stops t ≡ stop_of_phase ((state_after (setting_of program lim stops) s (erase h)).threads t)

module _ (program : Program) (lim : Bounds) (stops : List Stop) (t : ℕ) (words : List ℕ) (s : State)
    (threads : ℕ → Thread) (maker : ℕ → ℕ) (before : Before (setting_of program lim stops) words s)
    (seats : Seats words s threads maker) (within : t < 16) where
  moves_at : (p : Position) (rest : Behaviour) (units old : ℕ) (began : Bool) (cursors : List ℕ) (ss : List Step)
      → length s.out + 1 < 2 ^ 64 → s.given + 1 < 2 ^ 64 → is_over p ≡ false → old ≡ answer_on words (op_at lim t p)
      → LinkedAt program lim t rest began s cursors p → IsSeated words s maker t p
      → Follows program lim t (moved_from program lim t
      (record { rest = rest; position = p; units = units; began = began; cursors = cursors }) p old) ss
      → stop_in stops t ≡ stop_of (thread_after program lim t (moved_from program lim t
      (record { rest = rest; position = p; units = units; began = began; cursors = cursors }) p old) ss)
      → Moves (setting_of program lim stops) t words s threads (op_at lim t p) (event_at lim t p old)
      (changed (setting_of program lim stops) s t (event_at lim t p old))
      (moved_from program lim t
      (record { rest = rest; position = p; units = units; began = began; cursors = cursors }) p old)
  moves_at (Start at) rest units old began cursors ss few few_given over is l seat follows ends =
      start_moves (setting_of program lim stops) t words s threads maker before seats within rest units began cursors at
      old is seat l
  moves_at (Access at) rest units old began cursors ss few few_given over is l seat follows ends =
      access_moves (setting_of program lim stops) t words s threads maker before seats within rest units began cursors at
      old is l
  moves_at (Malloc at) rest units old began cursors ss few few_given over is l seat follows ends =
      malloc_moves (setting_of program lim stops) t words s threads maker before seats within rest units began cursors at
      old is l
  moves_at (Note at) rest units old began cursors ss few few_given over is l seat follows ends =
      note_moves (setting_of program lim stops) t words s threads maker before seats within rest units began cursors at
      old is l
  moves_at (Free at) rest units old began cursors ss few few_given over is l seat follows ends =
      free_moves (setting_of program lim stops) t words s threads maker before seats within rest units began cursors at
      old is l
  moves_at (Spawn at) rest units old began cursors ss few few_given over is l seat follows ends =
      spawn_moves (setting_of program lim stops) t words s threads maker before seats within rest units began cursors at
      old few_given is seat l
  moves_at (Join at) rest units old began cursors ss few few_given over is l seat follows ends =
      join_moves (setting_of program lim stops) t words s threads maker before seats within rest units began cursors at
      old is seat l
  moves_at (DrawPrint value) rest units old began cursors ss few few_given over is l seat follows ends =
      print_moves (setting_of program lim stops) t words s threads maker before seats within rest units began cursors
      value old few is l
  moves_at (StoreEnded stop) rest units old began cursors ss few few_given over is l seat follows ends =
      let a : Thread =
      record { rest = rest; position = Over stop; units = units; began = began; cursors = cursors } in
      let recorded : stop_in stops t ≡ stop =
      ends ∙ ap (λ ss. stop_of (thread_after program lim t a ss)) (over_rest program lim t a ss refl follows) in
      end_moves (setting_of program lim stops) t words s threads maker before seats within rest units began cursors stop
      (ap is_fuel recorded) l
  moves_at (Over stop) rest units old began cursors ss few few_given over is l seat follows ends = absurd (cc (over))
  moves_at NoRow rest units old began cursors ss few few_given over is l seat follows ends = absurd (cc (over))

module _ (setting : Setting) (s : State) (t : ℕ) where
  plain_more : (event : Event) (es : List (ℕ × Event)) → (is_log event ≡ false → Allowed setting s t event)
      → IsPlainRun setting (changed setting s t event) es
      → IsPlainRun setting s (if is_log event then es else (t, event) ∷ es)
  plain_more events.Log es allowed rest = rest
  plain_more event es allowed rest = (allowed refl, rest)

  state_more : (event : Event) (es : List (ℕ × Event))
      → state_after setting s (if is_log event then es else (t, event) ∷ es)
      ≡ state_after setting (changed setting s t event) es
  state_more events.Log es = refl
  state_more event es = refl

module _ (walks : Walks) (program : Program) (lim : Bounds) (range : IsInRange lim) (stops : List Stop) (e : ℕ × Step)
    (h : History) (words : List ℕ) (s : State) (threads : ℕ → Thread)
    (keeps : Keeps program lim stops (e ∷ h) words s threads) where
  abbrev thread : Thread
  thread = moved program lim e.0 (threads e.0) e.1.old

  abbrev threads' : ℕ → Thread
  threads' = replaced threads e.0 thread

  abbrev state : State
  state = changed (setting_of program lim stops) s e.0 e.1.event

  steps_here : steps_of e.0 (e ∷ h) ≡ e.1 ∷ steps_of e.0 h
  steps_here = rw (eq-eqb e.0 e.0 refl)

  steps_away : (u : ℕ) → (e.0 ≡ u → ⊥) → steps_of u (e ∷ h) ≡ steps_of u h
  steps_away u ne = rw (ne_eqb u e.0 (λ same. ne (sym same)))

  follows_here : Follows program lim e.0 (threads e.0) (e.1 ∷ steps_of e.0 h)
  follows_here = subst (Follows program lim e.0 (threads e.0)) steps_here (keeps.follows e.0)

  -- only the 16 threads make steps
  within_by : ((e.0 < 16) ⊎ (16 ≤ e.0)) → e.0 < 16
  within_by (inl lt) = lt
  within_by (inr le) =
      let none : e.1 ∷ steps_of e.0 h ≡ [] = sym steps_here ∙ keeps.none_past e.0 le in absurd (cc (none))

  within : e.0 < 16
  within = within_by (cases_lt e.0 16)

  ends_here : stop_in stops e.0 ≡ stop_of (thread_after program lim e.0 thread (steps_of e.0 h))
  ends_here = keeps.ends e.0 within ∙ ap (λ ss. stop_of (thread_after program lim e.0 (threads e.0) ss)) steps_here

  pub moves : Moves (setting_of program lim stops) e.0 words s threads e.1.op e.1.event state thread
  moves =
      let a = threads e.0 in
      let setting : Setting = setting_of program lim stops in
      let answer : e.1.old ≡ answer_on words (op_at lim e.0 a.position) =
      keeps.legal.0 ∙ ap (λ (st : Step). answer_on words st.op) follows_here.1 in
      let few : length s.out + 1 < 2 ^ 64 = omega (arith, keeps.few) in
      let before : Before setting words s = record {
        walks = walks;
        range = range;
        agrees = keeps.agrees;
        roomy = keeps.roomy;
        weak = refl;
      } in
      let few_given : s.given + 1 < 2 ^ 64 = omega (arith, keeps.few_given) in
      subst (λ (st : Step). Moves setting e.0 words s threads st.op st.event (changed setting s e.0 st.event) thread)
      (sym follows_here.1)
      (moves_at program lim stops e.0 words s threads keeps.maker before keeps.seats within a.position a.rest a.units
      e.1.old a.began a.cursors (steps_of e.0 h) few few_given follows_here.0 answer (keeps.linked e.0)
      (keeps.seats.seated e.0 within) follows_here.2 ends_here)

  links_on : (u : ℕ) → ((e.0 ≡ u) ⊎ (e.0 ≡ u → ⊥)) → IsLinked program lim u state (threads' u)
  links_on u (inl is) = subst (λ u. IsLinked program lim u state (threads' u)) is
      (subst (IsLinked program lim e.0 state) (sym (replaced_same threads e.0 thread)) moves.linked)
  links_on u (inr ne) =
      let a : Thread = threads u in
      subst (IsLinked program lim u state) (sym (replaced_other threads e.0 thread u ne))
      (linked_on program lim e.0 u s state ne (moves.others u ne) moves.leaves a.rest a.began a.cursors a.position
      (keeps.linked u))

  follows_on : (u : ℕ) → ((e.0 ≡ u) ⊎ (e.0 ≡ u → ⊥)) → Follows program lim u (threads' u) (steps_of u h)
  follows_on u (inl is) = subst (λ u. Follows program lim u (threads' u) (steps_of u h)) is
      (subst (λ a. Follows program lim e.0 a (steps_of e.0 h)) (sym (replaced_same threads e.0 thread))
      follows_here.2)
  follows_on u (inr ne) =
      subst (λ a. Follows program lim u a (steps_of u h)) (sym (replaced_other threads e.0 thread u ne))
      (subst (Follows program lim u (threads u)) (steps_away u ne) (keeps.follows u))

  ends_on : (u : ℕ) → u < 16 → ((e.0 ≡ u) ⊎ (e.0 ≡ u → ⊥))
      → stop_in stops u ≡ stop_of (thread_after program lim u (threads' u) (steps_of u h))
  ends_on u lt (inl is) =
      subst (λ u. stop_in stops u ≡ stop_of (thread_after program lim u (threads' u) (steps_of u h))) is
      (ends_here ∙ ap (λ a. stop_of (thread_after program lim e.0 a (steps_of e.0 h)))
      (sym (replaced_same threads e.0 thread)))
  ends_on u lt (inr ne) =
      keeps.ends u lt ∙ (ap (λ ss. stop_of (thread_after program lim u (threads u) ss)) (steps_away u ne)
      ∙ ap (λ a. stop_of (thread_after program lim u a (steps_of u h)))
      (sym (replaced_other threads e.0 thread u ne)))

  pub keeps_on : Keeps program lim stops h (words_after words e.1.op) state threads'
  keeps_on = record {
    agrees = moves.agrees;
    roomy = omega (arith, keeps.roomy, length-set {A = ℕ});
    linked = λ u. links_on u (cases_eq e.0 u);
    legal = keeps.legal.1;
    follows = λ u. follows_on u (cases_eq e.0 u);
    ends = λ u lt. ends_on u lt (cases_eq e.0 u);
    none_past = λ u le. sym (steps_away u (λ is. absurd (omega (arith, is, within)))) ∙ keeps.none_past u le;
    few = omega (arith, moves.prints, keeps.few);
    few_given = omega (arith, moves.given, keeps.few_given);
    maker = moves.maker;
    seats = moves.seats;
  }

module _ (walks : Walks) (program : Program) (lim : Bounds) (range : IsInRange lim) (stops : List Stop) where
  pub explains : (h : History) (words : List ℕ) (s : State) (threads : ℕ → Thread)
      → Keeps program lim stops h words s threads → Explains program lim stops h words s
  explains [] words s threads keeps = record {
    plain = tt;
    agrees = now;
    ends = λ t lt. keeps.ends t lt ∙ linked_stop program lim t (threads t).rest (threads t).began s
        (threads t).position (keeps.linked t).stands;
  }
    where
      now : (k : ℕ) → Agrees lim (words_left words (take k []))
          (state_after (setting_of program lim stops) s (erase (take k [])))
      now zero = keeps.agrees
      now (suc k) = keeps.agrees
  explains (e ∷ h) words s threads keeps =
      then_more (explains h (words_after words e.1.op) (changed (setting_of program lim stops) s e.0 e.1.event)
      (replaced threads e.0 (moved program lim e.0 (threads e.0) e.1.old))
      (keeps_on walks program lim range stops e h words s threads keeps))
    where
      then_more : Explains program lim stops h (words_after words e.1.op)
          (changed (setting_of program lim stops) s e.0 e.1.event) → Explains program lim stops (e ∷ h) words s
      then_more rest = record {
        plain = plain_more (setting_of program lim stops) s e.0 e.1.event (erase h)
            (moves walks program lim range stops e h words s threads keeps).allowed rest.plain;
        agrees = elim [
          | zero ↦ keeps.agrees
          | suc k ↦
              subst (Agrees lim (words_left (words_after words e.1.op) (take k h)))
              (sym (state_more (setting_of program lim stops) s e.0 e.1.event (erase (take k h)))) (rest.agrees k)
        ];
        ends = λ t lt. rest.ends t lt ∙ ap (λ (s : State). stop_of_phase (s.threads t))
            (sym (state_more (setting_of program lim stops) s e.0 e.1.event (erase h)));
      }

-- from the start
module _ (walks : Walks) (program : Program) (lim : Bounds) (stops : List Stop) (traces : List (List Step))
    (range : IsInRange lim) (known : IsRecord program lim stops traces) (h : History) (takes : Interleaves traces h)
    (legal : IsLegalRun program lim h) where
  none_past : (t : ℕ) → 16 ≤ t → steps_of t h ≡ []
  none_past t le = takes t ∙ get_or_past traces t [] (omega (arith, known.sixteen_traces))

  follows_all : (t : ℕ) → ((t < 16) ⊎ (16 ≤ t)) → Follows program lim t (first_thread lim) (steps_of t h)
  follows_all t (inl lt) = subst (Follows program lim t (first_thread lim)) (sym (takes t)) (known.follows t lt)
  follows_all t (inr le) = subst (Follows program lim t (first_thread lim)) (sym (none_past t le)) tt

  ends_all : (t : ℕ) → t < 16
      → stop_in stops t ≡ stop_of (thread_after program lim t (first_thread lim) (steps_of t h))
  ends_all t lt =
      known.ends t lt ∙ ap (λ ss. stop_of (thread_after program lim t (first_thread lim) ss)) (sym (takes t))

  few_steps : (t : ℕ) → length (steps_of t h) ≤ lim.fuel + 1
  few_steps t =
      let a = first_thread lim in
      let bound = trace_length program lim t (steps_of t h) a.rest a.position a.units a.began a.cursors
      (standing_pays lim first_cursors silent 0 false (Start LoadStart) (omega arith)).paid
      (follows_all t (cases_lt t 16)) in
      omega (arith, bound)

  keeps_first : Keeps program lim stops h (first_words lim program.image) (first_state program lim)
      (λ t. first_thread lim)
  keeps_first = record {
    agrees = agrees_first program lim;
    roomy = roomy_first lim program.image;
    linked = λ t. waiting_linked program lim t (first_state program lim) first_cursors (walks.start lim range) silent 0
        false LoadStart refl (waiting_first program t) (frees_first t);
    legal = legal;
    follows = λ t. follows_all t (cases_lt t 16);
    ends = ends_all;
    none_past = none_past;
    few = omega (arith, history_length 16 (lim.fuel + 1) h few_steps none_past, range.fuel);
    few_given = omega (arith, history_length 16 (lim.fuel + 1) h few_steps none_past, range.fuel);
    maker = λ n. 0;
    seats = seats_first program lim;
  }

  pub explained : IsExplained program lim stops h
  explained =
      let run = explains walks program lim range stops h (first_words lim program.image) (first_state program lim)
      (λ t. first_thread lim) keeps_first in
      record {
        plain = run.plain;
        agrees = run.agrees;
        ends = run.ends;
      }
