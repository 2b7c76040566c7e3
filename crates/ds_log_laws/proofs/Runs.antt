-- The logs behind every legal history: by induction on it from its front.
use Rattle.std.proofs.Common.{◌≡◌, ℕ, suc, None, ◌+◌, ◌<◌, ◌≤◌, Bool, true, false, if◌then◌else◌, List, [], ◌∷◌}
use Rattle.std.proofs.Common.{◌||◌, length, refl, sym, ap, ◌∙◌, subst, inl, inr, ◌⊎◌, arith}
use Rattle.std.proofs.lemmas.Bool.{cases_eq, cases_lt, eq-eqb, ne_eqb}
use Rattle.std.proofs.lemmas.List.{length-set, get_or_past}
use Rattle.ds_map.specs.Bounds.{Bounds, IsInRange}
use Rattle.ds_map.specs.Words.{first_program_word, first_words}
use Rattle.ds_step.specs.declared.Event.{Event}
use Rattle.ds_step.specs.declared.FullWhat.{FullWhat}
use Rattle.ds_step.specs.declared.FullWhat.TheVariants as tables
use Rattle.ds_step.specs.declared.Step.{Step}
use Rattle.ds_step.specs.Word.{words_after, answer_on}
use Rattle.ds_plain.specs.declared.Place.{Place}
use Rattle.ds_plain.specs.declared.Stop.{Stop}
use Rattle.ds_plain.specs.declared.Stop.TheVariants.{Full}
use Rattle.ds_plain.specs.declared.StartAt.TheVariants.{LoadStart}
use Rattle.ds_plain.specs.declared.Position.{Position}
use Rattle.ds_plain.specs.declared.Position.TheVariants.{Start, Access, Malloc, Note, Free, Spawn, Join}
use Rattle.ds_plain.specs.declared.Position.TheVariants.{DrawPrint, StoreEnded, Over, NoRow}
use Rattle.ds_plain.specs.Behaviour.{silent, Program}
use Rattle.ds_plain.specs.State.{State, Setting, first_state, replaced}
use Rattle.ds_plain.specs.Plain.{Allowed, changed, IsPlainRun}
use Rattle.ds_plain.specs.Listing.{home_word}
use Rattle.ds_plain.specs.Table.{op_at, event_at, is_over}
use Rattle.ds_plain.specs.Thread.{Thread, first_cursors, first_thread, moved, moved_from, Follows, thread_after}
use Rattle.ds_plain.specs.Thread.{stop_at, stop_of}
use Rattle.ds_plain.specs.History.{History, steps_of, Interleaves, IsLegal, is_log, erase}
use Rattle.ds_plain.specs.Explained.{stop_in, trace_of, setting_of, IsRecord, IsLegalRun, IsExplained}
use Rattle.ds_log_laws.specs.Told.{IsTold, notes_for, noted_count, last_found}
use Rattle.ds_log_laws.specs.Full.{FullLogs, FullHash}
use Rattle.ds_log_laws.proofs.Choices.{replaced_same, replaced_other}
use Rattle.ds_log_laws.proofs.Links.{home, Logs, Counted, Past, IsSound, past_behind, sound_behind, notes_at, EndsFull}
use Rattle.ds_log_laws.proofs.Links.{Ends, Stands, IsLinked, standing_linked}
use Rattle.ds_log_laws.proofs.First.{zero_word, counter_first, roomy_first}
use Rattle.ds_log_laws.proofs.Others.{later_same, linked_on}
use Rattle.ds_log_laws.proofs.Makes.{Makes, start_makes, access_makes, malloc_makes, free_makes, spawn_makes}
use Rattle.ds_log_laws.proofs.Makes.{join_makes, print_makes, end_makes}
use Rattle.ds_log_laws.proofs.Noted.{MakesSome, FindsNow, note_makes}
use Rattle.ds_log_laws.proofs.Lives.{lives_of, lives_grow, finds_now, plain_parts}
use Rattle.ds_log_laws.proofs.Bounded.{count_fits, full_logs}
use Rattle.ds_log_laws.proofs.Tied.{is_noted, noted_here, noted_away}

-- The words, the logs, the lives of blocks and the threads go together, and what is left of the history is legal,
-- follows the step table, and is a run of the plain machine.
pub record Keeps (program : Program) (lim : Bounds) (stops : List Stop) (traces : List (List Step)) (h : History)
    (words : List ℕ) (s : State) (threads : ℕ → Thread) (logs : Logs) (pasts : ℕ → Past) : Type 0 where
  pub counted : Counted lim traces words logs
  pub roomy : first_program_word lim ≤ length words
  pub sound : (t : ℕ) → IsSound (pasts t)
  pub linked : (t : ℕ) → t < 16 → IsLinked lim traces words logs t (pasts t) (lives_of s) (threads t)
  pub legal : IsLegal words h
  pub follows : (t : ℕ) → Follows program lim t (threads t) (steps_of t h)
  pub none_past : (t : ℕ) → 16 ≤ t → steps_of t h ≡ []
  pub tells : (t : ℕ) (event : Event) → IsTold event (steps_of t h) → IsTold event (trace_of traces t)
  pub finds : (t : ℕ) → last_found (pasts t).found (steps_of t h) ≡ last_found None (trace_of traces t)
  pub notes : (t place life : ℕ) → (pasts t).noted place life + noted_count place life (steps_of t h)
      ≡ noted_count place life (trace_of traces t)
  pub plain : IsPlainRun (setting_of program lim stops) s (erase h)
  pub tied : (t place life loc : ℕ) → (pasts t).has place life loc ≡ is_noted place life loc t s.noted

-- where the history leads the threads, they go together with some words, logs and lives, and they have told their
-- traces
pub record Leads (program : Program) (lim : Bounds) (traces : List (List Step)) (h : History)
    (threads : ℕ → Thread) : Type 0 where
  pub words : List ℕ
  pub logs : Logs
  pub pasts : ℕ → Past
  pub lives : ℕ → ℕ
  pub counted : Counted lim traces words logs
  pub linked : (t : ℕ) → t < 16
      → IsLinked lim traces words logs t (pasts t) lives (thread_after program lim t (threads t) (steps_of t h))
  pub found : (t : ℕ) → (pasts t).found ≡ last_found None (trace_of traces t)
  pub noted : (t place life : ℕ) → (pasts t).noted place life ≡ noted_count place life (trace_of traces t)

-- one step of any row
module _ (program : Program) (lim : Bounds) (range : IsInRange lim) (traces : List (List Step)) (words : List ℕ)
    (logs : Logs) (t : ℕ) (past : Past) (lives lives' : ℕ → ℕ) (few : t < 16) (a : Thread) (old : ℕ)
    (counted : Counted lim traces words logs) (grown : (place : ℕ) → lives place ≤ lives' place)
    (roomy : first_program_word lim ≤ length words) (sound : IsSound past) where
  abbrev MakesAt : Position → Type 0
  MakesAt p =
      MakesSome lim traces t words (words_after words (op_at lim t p)) logs (past_behind (event_at lim t p old) past)
      lives' (moved_from program lim t a p old)

  some_makes : (p : Position)
      → Makes lim traces t words (words_after words (op_at lim t p)) logs logs (past_behind (event_at lim t p old) past)
      lives' (moved_from program lim t a p old) → MakesAt p
  some_makes p makes = record { logs' = logs; makes = makes }

  -- the link of the thread, as lives have grown
  raised : (p : Position) → Stands lim traces words logs t past lives p → Stands lim traces words logs t past lives' p
  raised p l =
      linked_on lim traces words words logs logs t past lives lives' (suc t) few (λ e. omega (arith, e)) (record {
        homes = λ u place few' inside ne. refl;
        headers = λ log drawn few' ne. refl;
        entries = λ log n drawn few' ne lt. refl;
        later = later_same logs;
        drawn = λ n lt. inl lt;
      }) grown p l

  pub makes_at : (p : Position) → is_over p ≡ false → old ≡ answer_on words (op_at lim t p)
      → IsTold (event_at lim t p old) (trace_of traces t) → FindsNow (event_at lim t p old) lives'
      → Stands lim traces words logs t past lives p → MakesAt p
  makes_at (Start at) over is is_told now l =
      some_makes (Start at)
      (start_makes program lim range traces words logs t past lives lives' few a old counted grown at l)
  makes_at (Access at) over is is_told now l =
      some_makes (Access at)
      (access_makes program lim range traces words logs t past lives lives' few a old counted grown at l)
  makes_at (Malloc at) over is is_told now l =
      some_makes (Malloc at)
      (malloc_makes program lim range traces words logs t past lives lives' few a old counted grown at l)
  makes_at (Note at) over is is_told now l =
      note_makes lim traces words logs t past lives' few a counted roomy range sound at old
      (count_fits lim traces words logs counted range) is is_told now (raised (Note at) l)
  makes_at (Free at) over is is_told now l =
      some_makes (Free at)
      (free_makes program lim range traces words logs t past lives lives' few a old counted grown at l)
  makes_at (Spawn at) over is is_told now l =
      some_makes (Spawn at)
      (spawn_makes program lim range traces words logs t past lives lives' few a old counted grown at l)
  makes_at (Join at) over is is_told now l =
      some_makes (Join at)
      (join_makes program lim range traces words logs t past lives lives' few a old counted grown at l)
  makes_at (DrawPrint value) over is is_told now l =
      some_makes (DrawPrint value)
      (print_makes program lim range traces words logs t past lives lives' few a old counted grown value l)
  makes_at (StoreEnded stop) over is is_told now l =
      some_makes (StoreEnded stop)
      (end_makes program lim range traces words logs t past lives lives' few a old counted grown stop l)
  makes_at (Over stop) over is is_told now l = absurd (cc (over))
  makes_at NoRow over is is_told now l = absurd (cc (over))

module _ (program : Program) (lim : Bounds) (range : IsInRange lim) (stops : List Stop) (traces : List (List Step))
    (e : ℕ × Step) (h : History) (words : List ℕ) (s : State) (threads : ℕ → Thread) (logs : Logs) (pasts : ℕ → Past)
    (keeps : Keeps program lim stops traces (e ∷ h) words s threads logs pasts) where
  abbrev setting : Setting
  setting = setting_of program lim stops

  abbrev state : State
  state = changed setting s e.0 e.1.event

  abbrev past : Past
  past = past_behind e.1.event (pasts e.0)

  abbrev pasts' : ℕ → Past
  pasts' = replaced pasts e.0 past

  abbrev thread : Thread
  thread = moved program lim e.0 (threads e.0) e.1.old

  abbrev threads' : ℕ → Thread
  threads' = replaced threads e.0 thread

  steps_here : steps_of e.0 (e ∷ h) ≡ e.1 ∷ steps_of e.0 h
  steps_here = rw (eq-eqb e.0 e.0 refl)

  steps_away : (u : ℕ) → (e.0 ≡ u → ⊥) → steps_of u (e ∷ h) ≡ steps_of u h
  steps_away u ne = rw (ne_eqb u e.0 (λ same. ne (sym same)))

  follows_here : Follows program lim e.0 (threads e.0) (e.1 ∷ steps_of e.0 h)
  follows_here = subst (Follows program lim e.0 (threads e.0)) steps_here (keeps.follows e.0)

  -- only the 16 threads make steps
  within_by : ((e.0 < 16) ⊎ (16 ≤ e.0)) → e.0 < 16
  within_by (inl lt) = lt
  within_by (inr le) =
      let none : e.1 ∷ steps_of e.0 h ≡ [] = sym steps_here ∙ keeps.none_past e.0 le in absurd (cc (none))

  within : e.0 < 16
  within = within_by (cases_lt e.0 16)

  tells_here : (event : Event) → IsTold event (e.1 ∷ steps_of e.0 h) → IsTold event (trace_of traces e.0)
  tells_here event is = keeps.tells e.0 event (subst (IsTold event) (sym steps_here) is)

  plain_here : (is_log e.1.event ≡ false → Allowed setting s e.0 e.1.event) × IsPlainRun setting state (erase h)
  plain_here = plain_parts setting s e.0 e.1.event (erase h) keeps.plain

  grown : (place : ℕ) → lives_of s place ≤ lives_of state place
  grown place = lives_grow setting s e.0 e.1.event plain_here.0 place

  pub makes : MakesSome lim traces e.0 words (words_after words e.1.op) logs past (lives_of state) thread
  makes =
      let a = threads e.0 in
      let answer : e.1.old ≡ answer_on words (op_at lim e.0 a.position) =
      keeps.legal.0 ∙ ap (λ (st : Step). answer_on words st.op) follows_here.1 in
      let event : e.1.event ≡ event_at lim e.0 a.position e.1.old = ap (λ (st : Step). st.event) follows_here.1 in
      let now : FindsNow (event_at lim e.0 a.position e.1.old) (lives_of state) =
      subst (λ (ev : Event). FindsNow ev (lives_of state)) event (finds_now setting s e.0 e.1.event plain_here.0) in
      subst (λ (st : Step). MakesSome lim traces e.0 words (words_after words st.op) logs
      (past_behind st.event (pasts e.0)) (lives_of state) thread) (sym follows_here.1)
      (makes_at program lim range traces words logs e.0 (pasts e.0) (lives_of s) (lives_of state) within a e.1.old
      keeps.counted grown keeps.roomy (keeps.sound e.0) a.position follows_here.0 answer
      (tells_here (event_at lim e.0 a.position e.1.old) (inl event)) now (keeps.linked e.0 within))

  links_on : (u : ℕ) → u < 16 → ((e.0 ≡ u) ⊎ (e.0 ≡ u → ⊥))
      → IsLinked lim traces (words_after words e.1.op) makes.logs' u (pasts' u) (lives_of state) (threads' u)
  links_on u lt (inl is) =
      subst (λ u. IsLinked lim traces (words_after words e.1.op) makes.logs' u (pasts' u) (lives_of state) (threads' u))
      is (subst (λ p. IsLinked lim traces (words_after words e.1.op) makes.logs' e.0 p (lives_of state)
      (threads' e.0)) (sym (replaced_same pasts e.0 past))
      (subst (IsLinked lim traces (words_after words e.1.op) makes.logs' e.0 past (lives_of state))
      (sym (replaced_same threads e.0 thread)) makes.makes.linked))
  links_on u lt (inr ne) =
      subst (λ p. IsLinked lim traces (words_after words e.1.op) makes.logs' u p (lives_of state) (threads' u))
      (sym (replaced_other pasts e.0 past u ne))
      (subst (IsLinked lim traces (words_after words e.1.op) makes.logs' u (pasts u) (lives_of state))
      (sym (replaced_other threads e.0 thread u ne))
      (linked_on lim traces words (words_after words e.1.op) logs makes.logs' u (pasts u) (lives_of s) (lives_of state)
      e.0 lt ne makes.makes.passes grown (threads u).position (keeps.linked u lt)))

  sound_on : (u : ℕ) → ((e.0 ≡ u) ⊎ (e.0 ≡ u → ⊥)) → IsSound (pasts' u)
  sound_on u (inl is) =
      subst (λ u. IsSound (pasts' u)) is
      (subst IsSound (sym (replaced_same pasts e.0 past)) (sound_behind e.1.event (pasts e.0) (keeps.sound e.0)))
  sound_on u (inr ne) = subst IsSound (sym (replaced_other pasts e.0 past u ne)) (keeps.sound u)

  -- WHAT THE THREADS TOLD

  finds_here : last_found past.found (steps_of e.0 h) ≡ last_found None (trace_of traces e.0)
  finds_here = sym (ap (last_found (pasts e.0).found) steps_here) ∙ keeps.finds e.0

  finds_on : (u : ℕ) → ((e.0 ≡ u) ⊎ (e.0 ≡ u → ⊥))
      → last_found (pasts' u).found (steps_of u h) ≡ last_found None (trace_of traces u)
  finds_on u (inl is) =
      subst (λ u. last_found (pasts' u).found (steps_of u h) ≡ last_found None (trace_of traces u)) is
      (ap (λ (p : Past). last_found p.found (steps_of e.0 h)) (replaced_same pasts e.0 past) ∙ finds_here)
  finds_on u (inr ne) =
      ap (λ (p : Past). last_found p.found (steps_of u h)) (replaced_other pasts e.0 past u ne)
      ∙ (sym (ap (last_found (pasts u).found) (steps_away u ne)) ∙ keeps.finds u)

  notes_here : (place life : ℕ) → past.noted place life + noted_count place life (steps_of e.0 h)
      ≡ noted_count place life (trace_of traces e.0)
  notes_here place life =
      one_later' (notes_for place life e.1.event) ((pasts e.0).noted place life)
      (noted_count place life (steps_of e.0 h))
      ∙ (sym (ap (λ ss. (pasts e.0).noted place life + noted_count place life ss) steps_here)
      ∙ keeps.notes e.0 place life)
    where
      one_later' : (b : Bool) (n c : ℕ) → (if b then suc n else n) + c ≡ n + (if b then suc c else c)
      one_later' true n c = omega arith
      one_later' false n c = refl

  notes_on : (u place life : ℕ) → ((e.0 ≡ u) ⊎ (e.0 ≡ u → ⊥))
      → (pasts' u).noted place life + noted_count place life (steps_of u h)
      ≡ noted_count place life (trace_of traces u)
  notes_on u place life (inl is) =
      subst (λ u. (pasts' u).noted place life + noted_count place life (steps_of u h)
      ≡ noted_count place life (trace_of traces u)) is
      (ap (λ (p : Past). p.noted place life + noted_count place life (steps_of e.0 h)) (replaced_same pasts e.0 past)
      ∙ notes_here place life)
  notes_on u place life (inr ne) =
      ap (λ (p : Past). p.noted place life + noted_count place life (steps_of u h)) (replaced_other pasts e.0 past u ne)
      ∙ (sym (ap (λ ss. (pasts u).noted place life + noted_count place life ss) (steps_away u ne))
      ∙ keeps.notes u place life)

  tied_on : (u place life loc : ℕ) → ((e.0 ≡ u) ⊎ (e.0 ≡ u → ⊥))
      → (pasts' u).has place life loc ≡ is_noted place life loc u state.noted
  tied_on u place life loc (inl is) =
      subst (λ u. (pasts' u).has place life loc ≡ is_noted place life loc u state.noted) is
      (ap (λ (p : Past). p.has place life loc) (replaced_same pasts e.0 past)
      ∙ (ap (λ b. notes_at place life loc e.1.event || b) (keeps.tied e.0 place life loc)
      ∙ sym (noted_here place life loc e.0 setting s e.1.event)))
  tied_on u place life loc (inr ne) =
      ap (λ (p : Past). p.has place life loc) (replaced_other pasts e.0 past u ne)
      ∙ (keeps.tied u place life loc ∙ sym (noted_away place life loc u setting s e.0 ne e.1.event))

  follows_on : (u : ℕ) → ((e.0 ≡ u) ⊎ (e.0 ≡ u → ⊥)) → Follows program lim u (threads' u) (steps_of u h)
  follows_on u (inl is) = subst (λ u. Follows program lim u (threads' u) (steps_of u h)) is
      (subst (λ a. Follows program lim e.0 a (steps_of e.0 h)) (sym (replaced_same threads e.0 thread))
      follows_here.2)
  follows_on u (inr ne) =
      subst (λ a. Follows program lim u a (steps_of u h)) (sym (replaced_other threads e.0 thread u ne))
      (subst (Follows program lim u (threads u)) (steps_away u ne) (keeps.follows u))

  tells_on : (u : ℕ) (event : Event) → ((e.0 ≡ u) ⊎ (e.0 ≡ u → ⊥)) → IsTold event (steps_of u h)
      → IsTold event (trace_of traces u)
  tells_on u event (inl is) is_told =
      subst (λ u. IsTold event (trace_of traces u)) is
      (tells_here event (inr (subst (λ u. IsTold event (steps_of u h)) (sym is) is_told)))
  tells_on u event (inr ne) is_told = keeps.tells u event (subst (IsTold event) (sym (steps_away u ne)) is_told)

  pub keeps_on : Keeps program lim stops traces h (words_after words e.1.op) state threads' makes.logs' pasts'
  keeps_on = record {
    counted = makes.makes.counted;
    roomy = omega (arith, keeps.roomy, length-set {A = ℕ});
    sound = λ u. sound_on u (cases_eq e.0 u);
    linked = λ u lt. links_on u lt (cases_eq e.0 u);
    legal = keeps.legal.1;
    follows = λ u. follows_on u (cases_eq e.0 u);
    none_past = λ u le. sym (steps_away u (λ is. absurd (omega (arith, is, within)))) ∙ keeps.none_past u le;
    tells = λ u event. tells_on u event (cases_eq e.0 u);
    finds = λ u. finds_on u (cases_eq e.0 u);
    notes = λ u place life. notes_on u place life (cases_eq e.0 u);
    plain = plain_here.1;
    tied = λ u place life loc. tied_on u place life loc (cases_eq e.0 u);
  }

  -- the threads are led where the rest of the history leads them
  after_on : (u : ℕ) → ((e.0 ≡ u) ⊎ (e.0 ≡ u → ⊥))
      → thread_after program lim u (threads' u) (steps_of u h)
      ≡ thread_after program lim u (threads u) (steps_of u (e ∷ h))
  after_on u (inl is) =
      subst (λ u. thread_after program lim u (threads' u) (steps_of u h)
      ≡ thread_after program lim u (threads u) (steps_of u (e ∷ h))) is
      (ap (λ a. thread_after program lim e.0 a (steps_of e.0 h)) (replaced_same threads e.0 thread)
      ∙ sym (ap (thread_after program lim e.0 (threads e.0)) steps_here))
  after_on u (inr ne) =
      ap (λ a. thread_after program lim u a (steps_of u h)) (replaced_other threads e.0 thread u ne)
      ∙ sym (ap (thread_after program lim u (threads u)) (steps_away u ne))

  pub leads_on : Leads program lim traces h threads' → Leads program lim traces (e ∷ h) threads
  leads_on rest = record {
    words = rest.words;
    logs = rest.logs;
    pasts = rest.pasts;
    lives = rest.lives;
    counted = rest.counted;
    linked = λ u lt.
        subst (IsLinked lim traces rest.words rest.logs u (rest.pasts u) rest.lives) (after_on u (cases_eq e.0 u))
        (rest.linked u lt);
    found = rest.found;
    noted = rest.noted;
  }

module _ (program : Program) (lim : Bounds) (range : IsInRange lim) (stops : List Stop)
    (traces : List (List Step)) where
  pub leads : (h : History) (words : List ℕ) (s : State) (threads : ℕ → Thread) (logs : Logs) (pasts : ℕ → Past)
      → Keeps program lim stops traces h words s threads logs pasts → Leads program lim traces h threads
  leads [] words s threads logs pasts keeps = record {
    words = words;
    logs = logs;
    pasts = pasts;
    lives = lives_of s;
    counted = keeps.counted;
    linked = keeps.linked;
    found = keeps.finds;
    noted = λ t place life. omega (arith, keeps.notes t place life);
  }
  leads (e ∷ h) words s threads logs pasts keeps =
      let makes' = makes program lim range stops traces e h words s threads logs pasts keeps in
      leads_on program lim range stops traces e h words s threads logs pasts keeps
      (leads h (words_after words e.1.op) (changed (setting_of program lim stops) s e.0 e.1.event)
      (replaced threads e.0 (moved program lim e.0 (threads e.0) e.1.old)) makes'.logs'
      (replaced pasts e.0 (past_behind e.1.event (pasts e.0)))
      (keeps_on program lim range stops traces e h words s threads logs pasts keeps))

-- a thread that ended since a table is full
module _ (lim : Bounds) (traces : List (List Step)) (words : List ℕ) (logs : Logs) (t : ℕ) (past : Past)
    (lives : ℕ → ℕ) where
  pub ended_full : (p : Position) (began : Bool) (place : Place) (what : FullWhat) → stop_at began p ≡ Full place what
      → Stands lim traces words logs t past lives p → EndsFull lim traces words logs t past lives what
  ended_full (Start at) began place what e l = absurd (cc (e))
  ended_full (Access at) began place what e l = absurd (cc (e))
  ended_full (Malloc at) began place what e l = absurd (cc (e))
  ended_full (Note at) began place what e l = absurd (cc (e))
  ended_full (Free at) began place what e l = absurd (cc (e))
  ended_full (Spawn at) began place what e l = absurd (cc (e))
  ended_full (Join at) began place what e l = absurd (cc (e))
  ended_full (DrawPrint value) began place what e l = absurd (cc (e))
  ended_full (StoreEnded stop) true place what e l = absurd (cc (e))
  ended_full (StoreEnded stop) false place what e l = absurd (cc (e))
  ended_full (Over stop) began place what e l = subst (Ends lim traces words logs t past lives) e l.0
  ended_full NoRow began place what e l = absurd (cc (e))

-- from the start
module _ (program : Program) (lim : Bounds) (stops : List Stop) (traces : List (List Step)) (range : IsInRange lim)
    (known : IsRecord program lim stops traces) (h : History) (takes : Interleaves traces h)
    (legal : IsLegalRun program lim h) (explained : IsExplained program lim stops h) where
  none_past : (t : ℕ) → 16 ≤ t → steps_of t h ≡ []
  none_past t le = takes t ∙ get_or_past traces t [] (omega (arith, known.sixteen_traces))

  follows_all : (t : ℕ) → ((t < 16) ⊎ (16 ≤ t)) → Follows program lim t (first_thread lim) (steps_of t h)
  follows_all t (inl lt) = subst (Follows program lim t (first_thread lim)) (sym (takes t)) (known.follows t lt)
  follows_all t (inr le) = subst (Follows program lim t (first_thread lim)) (sym (none_past t le)) tt

  abbrev pub none_drawn : Logs
  none_drawn = record { count = 0; place = λ n. 0; owner = λ n. 0 }

  abbrev pub none_told : Past
  none_told =
      record { noted = λ place life. 0; has = λ place life loc. false; found = None; seen = λ place. 0 }

  abbrev pub first : List ℕ
  first = first_words lim program.image

  first_linked : (t : ℕ) → t < 16
      → IsLinked lim traces first none_drawn t none_told (lives_of (first_state program lim)) (first_thread lim)
  first_linked t few =
      standing_linked lim traces first none_drawn t none_told
      (lives_of (first_state program lim)) first_cursors silent 0
      false (Start LoadStart) (λ place inside.
      let zero' : home lim first t place ≡ 0 = zero_word lim program.image (home_word lim t place) (omega arith)
      (omega (arith, few, inside)) in
      record {
        none = λ at_none has. absurd (omega (arith, has.drawn));
        kept = record {
          unnoted = λ at_none life. refl;
          some = λ log is. absurd (omega (arith, is, zero'));
          seen_now = omega arith;
        };
      })

  pub keeps_first : Keeps program lim stops traces h first (first_state program lim) (λ t. first_thread lim) none_drawn
      (λ t. none_told)
  keeps_first = record {
    counted = record {
      counter = counter_first lim program.image;
      distinct = λ n m ln lm places owners. absurd (omega (arith, ln));
      each = λ n lt. absurd (omega (arith, lt));
    };
    roomy = roomy_first lim program.image;
    sound = λ t. record { unheld = λ place life loc none. refl };
    linked = first_linked;
    legal = legal;
    follows = λ t. follows_all t (cases_lt t 16);
    none_past = none_past;
    tells = λ t event is. subst (IsTold event) (takes t) is;
    finds = λ t. ap (last_found None) (takes t);
    notes = λ t place life. omega (arith, ap (noted_count place life) (takes t));
    plain = explained.plain;
    tied = λ t place life loc. refl;
  }

  pub run_leads : Leads program lim traces h (λ t. first_thread lim)
  run_leads =
      leads program lim range stops traces h first (first_state program lim) (λ t. first_thread lim) none_drawn
      (λ t. none_told) keeps_first

  ends_full : (t : ℕ) (place : Place) (what : FullWhat) → t < 16 → stop_in stops t ≡ Full place what
      → EndsFull lim traces run_leads.words run_leads.logs t (run_leads.pasts t) run_leads.lives what
  ends_full t place what lt is =
      let a = thread_after program lim t (first_thread lim) (steps_of t h) in
      let ends : stop_of a ≡ Full place what =
      ap (λ ss. stop_of (thread_after program lim t (first_thread lim) ss)) (takes t) ∙ (sym (known.ends t lt) ∙ is) in
      ended_full lim traces run_leads.words run_leads.logs t (run_leads.pasts t)
      run_leads.lives a.position a.began place
      what ends (run_leads.linked t lt)

  -- THE LAWS

  pub drawn : (t : ℕ) (place : Place) → t < 16 → stop_in stops t ≡ Full place tables.Logs → FullLogs lim traces
  drawn t place lt is =
      full_logs lim traces run_leads.words run_leads.logs run_leads.counted (ends_full t place tables.Logs lt is)

  pub used : (t : ℕ) (place : Place) → t < 16 → stop_in stops t ≡ Full place tables.Hash
      → FullHash (trace_of traces t)
  used t place lt is =
      let fills = ends_full t place tables.Hash lt is in
      record {
        place = fills.place;
        life = fills.life;
        found = sym (run_leads.found t) ∙ fills.found_is;
        noted = sym (run_leads.noted t fills.place fills.life) ∙ fills.noted;
      }
