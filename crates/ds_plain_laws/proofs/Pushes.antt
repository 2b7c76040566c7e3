-- One step more, at the end of a trace and at the end of a history.
use Rattle.std.proofs.Common.{◌≡◌, ℕ, ◌<◌, ◌==◌, Bool, true, false, if◌then◌else◌, List, [], ◌∷◌, ◌++◌, length}
use Rattle.std.proofs.Common.{slice_set, refl, sym, ap, ◌∙◌, subst, inl, inr, ◌⊎◌}
use Rattle.std.proofs.lemmas.Bool.{cases_eq, eq-eqb, ne_eqb}
use Rattle.std.proofs.lemmas.List.{get_or-set_same, get_or-set_other}
use Rattle.ds_map.specs.Bounds.{Bounds}
use Rattle.ds_map.specs.Words.{first_words}
use Rattle.ds_step.specs.declared.WordOp.{WordOp}
use Rattle.ds_step.specs.declared.Step.{Step}
use Rattle.ds_step.specs.Word.{words_after, answer_on}
use Rattle.ds_plain.specs.Behaviour.{Program}
use Rattle.ds_plain.specs.State.{replaced}
use Rattle.ds_plain.specs.Table.{step_at, is_over}
use Rattle.ds_plain.specs.Thread.{Thread, first_thread, Follows, thread_after, moved}
use Rattle.ds_plain.specs.History.{History, steps_of, Answers, words_at_end}
use Rattle.ds_plain.specs.Explained.{trace_of}
use Rattle.ds_plain.specs.Stands.{Stands}
use Rattle.ds_plain_laws.specs.Laws.{next_step}
use Rattle.ds_plain_laws.proofs.Choices.{replaced_same, replaced_other}

module _ {E : Type 0} (op : E → WordOp) (old : E → ℕ) where
  pub words_push : (words : List ℕ) (es : List E) (e : E)
      → words_at_end op words (es ++ e ∷ []) ≡ words_after (words_at_end op words es) (op e)
  words_push words [] e = refl
  words_push words (x ∷ es) e = words_push (words_after words (op x)) es e

  pub answers_push : (words : List ℕ) (es : List E) (e : E) → Answers op old words es
      → old e ≡ answer_on (words_at_end op words es) (op e) → Answers op old words (es ++ e ∷ [])
  answers_push words [] e legal is = (is, tt)
  answers_push words (x ∷ es) e legal is = (legal.0, answers_push (words_after words (op x)) es e legal.1 is)

push_in : (b : Bool) (x s : Step) (whole before : List Step) → whole ≡ before ++ s ∷ []
    → (if b then x ∷ whole else whole) ≡ (if b then x ∷ before else before) ++ s ∷ []
push_in true x s whole before is = ap (λ w. x ∷ w) is
push_in false x s whole before is = is

pub steps_of-push_same : (t : ℕ) (h : History) (s : Step) → steps_of t (h ++ (t, s) ∷ []) ≡ steps_of t h ++ s ∷ []
steps_of-push_same t [] s = rw (eq-eqb t t refl)
steps_of-push_same t (e ∷ h) s =
    push_in (t == e.0) e.1 s (steps_of t (h ++ (t, s) ∷ [])) (steps_of t h) (steps_of-push_same t h s)

pub steps_of-push_other : (u t : ℕ) (h : History) (s : Step) → (u ≡ t → ⊥)
    → steps_of u (h ++ (t, s) ∷ []) ≡ steps_of u h
steps_of-push_other u t [] s ne = rw (ne_eqb u t ne)
steps_of-push_other u t (e ∷ h) s ne = ap (λ w. if u == e.0 then e.1 ∷ w else w) (steps_of-push_other u t h s ne)

module _ (program : Program) (lim : Bounds) (t : ℕ) where
  pub follows_push : (a : Thread) (ss : List Step) (s : Step) → Follows program lim t a ss
      → is_over (thread_after program lim t a ss).position ≡ false
      → s ≡ step_at lim t (thread_after program lim t a ss).position s.old
      → Follows program lim t a (ss ++ s ∷ [])
  follows_push a [] s follows over is = (over, is, tt)
  follows_push a (x ∷ ss) s follows over is =
      (follows.0, follows.1, follows_push (moved program lim t a x.old) ss s follows.2 over is)

  pub after_push : (a : Thread) (ss : List Step) (s : Step)
      → thread_after program lim t a (ss ++ s ∷ []) ≡ moved program lim t (thread_after program lim t a ss) s.old
  after_push a [] s = refl
  after_push a (x ∷ ss) s = after_push (moved program lim t a x.old) ss s

module _ (program : Program) (lim : Bounds) (traces : List (List Step)) (h : History) (words : List ℕ)
    (threads : ℕ → Thread) (t : ℕ)
    (within : t < length traces) (stands : Stands program lim traces h words threads)
    (over : is_over (threads t).position ≡ false) where
  abbrev step : Step
  step = next_step lim words threads t

  abbrev traces' : List (List Step)
  traces' = slice_set traces t (trace_of traces t ++ step ∷ [])

  trace_same : trace_of traces' t ≡ trace_of traces t ++ step ∷ []
  trace_same = get_or-set_same traces t (trace_of traces t ++ step ∷ []) [] within

  trace_other : (u : ℕ) → (t ≡ u → ⊥) → trace_of traces' u ≡ trace_of traces u
  trace_other u ne = get_or-set_other traces t u (trace_of traces t ++ step ∷ []) [] (λ e. ne (sym e))

  interleaves_more : (u : ℕ) → ((t ≡ u) ⊎ (t ≡ u → ⊥)) → steps_of u (h ++ (t, step) ∷ []) ≡ trace_of traces' u
  interleaves_more u (inl e) = subst (λ u. steps_of u (h ++ (t, step) ∷ []) ≡ trace_of traces' u) e
      (steps_of-push_same t h step ∙ (ap (λ w. w ++ step ∷ []) (stands.interleaves t) ∙ sym trace_same))
  interleaves_more u (inr ne) =
      steps_of-push_other u t h step (λ e. ne (sym e)) ∙ (stands.interleaves u ∙ sym (trace_other u ne))

  follows_more : (u : ℕ) → ((t ≡ u) ⊎ (t ≡ u → ⊥)) → Follows program lim u (first_thread lim) (trace_of traces' u)
  follows_more u (inl e) =
      let at : thread_after program lim t (first_thread lim) (trace_of traces t) ≡ threads t = stands.at t in
      let this : Follows program lim t (first_thread lim) (trace_of traces t ++ step ∷ []) =
      follows_push program lim t (first_thread lim) (trace_of traces t) step (stands.follows t) (rw at over)
      (rw at refl) in
      subst (λ u. Follows program lim u (first_thread lim) (trace_of traces' u)) e (rw trace_same this)
  follows_more u (inr ne) = rw (trace_other u ne) (stands.follows u)

  at_more : (u : ℕ) → ((t ≡ u) ⊎ (t ≡ u → ⊥))
      → thread_after program lim u (first_thread lim) (trace_of traces' u) ≡ replaced threads t
      (moved program lim t (threads t) step.old) u
  at_more u (inl e) =
      let this = ap (thread_after program lim t (first_thread lim)) trace_same
      ∙ (after_push program lim t (first_thread lim) (trace_of traces t) step
      ∙ (ap (λ a. moved program lim t a step.old) (stands.at t)
      ∙ sym (replaced_same threads t (moved program lim t (threads t) step.old)))) in
      subst (λ u. thread_after program lim u (first_thread lim) (trace_of traces' u) ≡ replaced threads t
      (moved program lim t (threads t) step.old) u) e this
  at_more u (inr ne) = ap (thread_after program lim u (first_thread lim)) (trace_other u ne)
      ∙ (stands.at u ∙ sym (replaced_other threads t (moved program lim t (threads t) step.old) u ne))

  pub one_more : Stands program lim traces' (h ++ (t, step) ∷ []) (words_after words step.op)
      (replaced threads t (moved program lim t (threads t) step.old))
  one_more = record {
    interleaves = λ u. interleaves_more u (cases_eq t u);
    legal = answers_push (λ (e : ℕ × Step). e.1.op) (λ (e : ℕ × Step). e.1.old) (first_words lim program.image) h
        (t, step) stands.legal (ap (λ w. answer_on w step.op) (sym stands.left));
    left = words_push (λ (e : ℕ × Step). e.1.op) (λ (e : ℕ × Step). e.1.old) (first_words lim program.image) h (t, step)
        ∙ ap (λ w. words_after w step.op) stands.left;
    follows = λ u. follows_more u (cases_eq t u);
    at = λ u. at_more u (cases_eq t u);
  }
