-- Sums over the steps of all traces, and over the same steps in one order, with log steps and without.
use Rattle.std.proofs.Common.{◌≡◌, ℕ, suc, ◌+◌, ◌<◌, ◌≤◌, if◌then◌else◌, List, [], ◌∷◌, length}
use Rattle.std.proofs.Common.{slice_set, slice_index_or, refl, sym, ap, ◌∙◌, subst, inl, inr, ◌⊎◌, arith}
use Rattle.std.specs.List.{sum_by, flat_map}
use Rattle.std.proofs.lemmas.Bool.{cases_eq, cases_lt, eq-eqb, ne_eqb}
use Rattle.std.proofs.lemmas.List.{get_or_past, get_or-set_same, get_or-set_other}
use Rattle.std.proofs.lemmas.List.Sums.{sum_by-cons, sum_by-append, sum_by-set}
use mathlib.Core.Path.{fun_ext}
use Rattle.ds_step.specs.declared.Event.{Event}
use Rattle.ds_step.specs.declared.Event.TheVariants.{Log}
use Rattle.ds_step.specs.declared.Step.{Step}
use Rattle.ds_plain.specs.History.{History, steps_of, Interleaves, is_log, erase}

-- a sum of the same terms
pub sum_by_same : {X : Type 0} (f g : X → ℕ) (xs : List X) → ((x : X) → f x ≡ g x) → sum_by f xs ≡ sum_by g xs
sum_by_same {X} f g xs same = ap (λ (k : X → ℕ). sum_by k xs) (fun_ext same)

-- a sum over lists that are joined
pub sum_by-flat_map : {X A : Type 0} (f : A → ℕ) (parts : X → List A) (xs : List X)
    → sum_by f (flat_map parts xs) ≡ sum_by (λ x. sum_by f (parts x)) xs
sum_by-flat_map f parts [] = refl
sum_by-flat_map f parts (x ∷ xs) =
    omega (
      arith,
      sum_by-append f (parts x) (flat_map parts xs),
      sum_by-flat_map f parts xs,
      sum_by-cons (λ x. sum_by f (parts x)) x xs,
    )

module _ (g : Step → ℕ) where
  -- the sum over one trace
  abbrev of_trace : List Step → ℕ
  of_trace steps = sum_by g steps

  -- no thread has a step
  empty_sum : (traces : List (List Step)) → ((t : ℕ) → [] ≡ slice_index_or traces t []) → sum_by of_trace traces ≡ 0
  empty_sum [] none = refl
  empty_sum (steps ∷ traces) none =
      omega (
        arith,
        sum_by-cons of_trace steps traces,
        ap of_trace (none 0),
        empty_sum traces (λ t. none (suc t)),
      )

  -- the traces without the first step of the history
  abbrev less : List (List Step) → ℕ × Step → History → List (List Step)
  less traces e h = slice_set traces e.0 (steps_of e.0 h)

  first_step : (e : ℕ × Step) (h : History) (traces : List (List Step)) → Interleaves traces (e ∷ h)
      → slice_index_or traces e.0 [] ≡ e.1 ∷ steps_of e.0 h
  first_step e h traces takes = sym (takes e.0) ∙ rw (eq-eqb e.0 e.0 refl)

  within : (e : ℕ × Step) (h : History) (traces : List (List Step)) → Interleaves traces (e ∷ h)
      → ((e.0 < length traces) ⊎ (length traces ≤ e.0)) → e.0 < length traces
  within e h traces takes (inl lt) = lt
  within e h traces takes (inr le) =
      let none : [] ≡ e.1 ∷ steps_of e.0 h =
      sym (get_or_past traces e.0 [] le) ∙ first_step e h traces takes in
      absurd (cc (none))

  less_taken : (e : ℕ × Step) (h : History) (traces : List (List Step)) → Interleaves traces (e ∷ h)
      → e.0 < length traces → (t : ℕ) → ((e.0 ≡ t) ⊎ (e.0 ≡ t → ⊥))
      → steps_of t h ≡ slice_index_or (less traces e h) t []
  less_taken e h traces takes lt t (inl is) =
      subst (λ (u : ℕ). steps_of u h ≡ slice_index_or (less traces e h) u []) is
      (sym (get_or-set_same traces e.0 (steps_of e.0 h) [] lt))
  less_taken e h traces takes lt t (inr ne) =
      let away : steps_of t (e ∷ h) ≡ steps_of t h = rw (ne_eqb t e.0 (λ same. ne (sym same))) in
      sym away ∙ (takes t ∙ sym (get_or-set_other traces e.0 t (steps_of e.0 h) [] (λ same. ne (sym same))))

  -- a sum over all traces is the sum over the history that takes them
  pub taken_sum : (h : History) (traces : List (List Step)) → Interleaves traces h
      → sum_by of_trace traces ≡ sum_by (λ (e : ℕ × Step). g e.1) h
  taken_sum [] traces takes = empty_sum traces takes
  taken_sum (e ∷ h) traces takes =
      let lt = within e h traces takes (cases_lt e.0 (length traces)) in
      omega (
        arith,
        sum_by-set of_trace traces e.0 (steps_of e.0 h) [] lt,
        ap of_trace (first_step e h traces takes),
        sum_by-cons g e.1 (steps_of e.0 h),
        sum_by-cons (λ (e : ℕ × Step). g e.1) e h,
        taken_sum h (less traces e h) (λ t. less_taken e h traces takes lt t (cases_eq e.0 t)),
      )

-- a sum in which log steps count nothing
module _ (g : Event → ℕ) (log : g Log ≡ 0) where
  erased_more : (t : ℕ) (event : Event) (es : List (ℕ × Event))
      → sum_by (λ (e : ℕ × Event). g e.1) (if is_log event then es else (t, event) ∷ es)
      ≡ g event + sum_by (λ (e : ℕ × Event). g e.1) es
  erased_more t Log es = omega (arith, log)
  erased_more t event es = sum_by-cons (λ (e : ℕ × Event). g e.1) (t, event) es

  -- is the sum over the history without them
  pub erased_sum : (h : History)
      → sum_by (λ (e : ℕ × Event). g e.1) (erase h) ≡ sum_by (λ (e : ℕ × Step). g e.1.event) h
  erased_sum [] = refl
  erased_sum (e ∷ h) =
      omega (
        arith,
        erased_more e.0 e.1.event (erase h),
        sum_by-cons (λ (e : ℕ × Step). g e.1.event) e h,
        erased_sum h,
      )

  -- so a sum over all traces is the sum over the events of the plain run
  pub events_sum : (h : History) (traces : List (List Step)) → Interleaves traces h
      → sum_by (λ (steps : List Step). sum_by (λ (step : Step). g step.event) steps) traces
      ≡ sum_by (λ (e : ℕ × Event). g e.1) (erase h)
  events_sum h traces takes = taken_sum (λ (step : Step). g step.event) h traces takes ∙ sym (erased_sum h)
