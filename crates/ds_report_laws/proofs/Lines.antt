-- The lines of the traces are those of the events of a history that takes them.
use Rattle.std.proofs.Common.{◌≡◌, ℕ, suc, ◌+◌, ◌<◌, ◌==◌, Bool, true, false, if◌then◌else◌, List, [], ◌∷◌, ◌++◌}
use Rattle.std.proofs.Common.{length, slice_index_or, refl, sym, ap, ◌∙◌, subst, arith}
use Rattle.std.specs.List.{flat_map, range_with_len}
use Rattle.ds_step.specs.declared.Event.{Event}
use Rattle.ds_step.specs.declared.Event.TheVariants.{Log}
use Rattle.ds_step.specs.declared.Step.{Step}
use Rattle.ds_plain.specs.History.{History, steps_of, Interleaves, is_log, erase}
use Rattle.ds_report.specs.Lines.{lines_from}
use Rattle.ds_report.specs.Trace.{event_line, thread_lines, trace_lines}
use Rattle.ds_report_laws.specs.Told.{lines_of_thread, lines_of_threads}

-- ONE THREAD

module _ (t : ℕ) where
  -- the line of an event, if it is one of this thread
  abbrev line : ℕ × Event → List ℕ
  line e = if t == e.0 then event_line t e.1 else []

  of_step : (b : Bool) (step : Step) (steps : List Step)
      → thread_lines t (if b then step ∷ steps else steps)
      ≡ (if b then event_line t step.event else []) ++ thread_lines t steps
  of_step true step steps = refl
  of_step false step steps = refl

  no_line : (b : Bool) (es : List (ℕ × Event)) → flat_map line es ≡ (if b then [] else []) ++ flat_map line es
  no_line true es = refl
  no_line false es = refl

  of_event : (u : ℕ) (event : Event) (es : List (ℕ × Event))
      → flat_map line (if is_log event then es else (u, event) ∷ es) ≡ line (u, event) ++ flat_map line es
  of_event u Log es = no_line (t == u) es
  of_event u event es = refl

  same_thread : (h : History) → thread_lines t (steps_of t h) ≡ lines_of_thread (erase h) t
  same_thread [] = refl
  same_thread (e ∷ h) =
      of_step (t == e.0) e.1 (steps_of t h)
      ∙ (ap (λ (lines : List ℕ). line (e.0, e.1.event) ++ lines) (same_thread h)
      ∙ sym (of_event e.0 e.1.event (erase h)))

-- ALL THREADS

-- lines of each of several things are lines of their numbers
numbered_lines : {A : Type 0} (lines : ℕ → A → List ℕ) (d : A) (by_number : ℕ → List ℕ) (n : ℕ) (xs : List A)
    → ((k t : ℕ) → n + k ≡ t → k < length xs → lines t (slice_index_or xs k d) ≡ by_number t)
    → lines_from lines n xs ≡ flat_map by_number (range_with_len n (length xs))
numbered_lines lines d by_number n [] same = refl
numbered_lines lines d by_number n (x ∷ xs) same =
    let rest : lines_from lines (n + 1) xs ≡ flat_map by_number (range_with_len (n + 1) (length xs)) =
    numbered_lines lines d by_number (n + 1) xs (λ k t is lt. same (suc k) t (omega (arith, is)) (omega (arith, lt))) in
    ap (λ (line : List ℕ). line ++ lines_from lines (n + 1) xs) (same 0 n (omega arith) (omega arith))
    ∙ ap (λ (lines : List ℕ). by_number n ++ lines) rest

pub same_trace : (h : History) (traces : List (List Step)) → length traces ≡ 16 → Interleaves traces h
    → trace_lines traces ≡ lines_of_threads (erase h)
same_trace h traces sixteen takes =
    numbered_lines thread_lines [] (lines_of_thread (erase h)) 0 traces
    (λ k t is lt. subst (λ (u : ℕ). thread_lines t (slice_index_or traces u []) ≡ lines_of_thread (erase h) t)
    (sym (number k t is)) (ap (thread_lines t) (sym (takes t)) ∙ same_thread t h))
    ∙ ap (λ (n : ℕ). flat_map (lines_of_thread (erase h)) (range_with_len 0 n)) sixteen
  where
    number : (k t : ℕ) → 0 + k ≡ t → k ≡ t
    number k t is = omega (arith, is)
