-- What a run of the plain machine prints: its values, and the numbers that its prints have.
use Rattle.std.proofs.Common.{◌≡◌, ℕ, suc, List, [], ◌∷◌, ◌++◌, length, map, Option, Some, None, refl, sym, ap}
use Rattle.std.proofs.Common.{◌∙◌, subst, arith, append-nil, append_assoc}
use Rattle.std.specs.List.{flat_map}
use Rattle.std.proofs.lemmas.List.{length_push, map-append}
use Rattle.ds_map.specs.Bounds.{Bounds}
use Rattle.ds_step.specs.declared.Event.{Event}
use Rattle.ds_step.specs.declared.Event.TheVariants as events
use Rattle.ds_plain.specs.State.{State, Setting}
use Rattle.ds_plain.specs.Plain.{Allowed, changed, so_far, written, opened, has_left, IsPlainRun, state_after}
use Rattle.ds_report.specs.declared.prints.Print.{Print}
use Rattle.ds_report.specs.Prints.{prints_by}
use Rattle.ds_report_laws.proofs.Numbers.{Numbered}

-- the prints among events, in their order
abbrev pub prints_among : List (ℕ × Event) → List Print
prints_among es = flat_map (λ e. prints_by e.1) es

-- the values of prints
abbrev pub values : List Print → List ℕ
values ps = map (λ (p : Print). p.value) ps

-- WHAT ONE EVENT PRINTS

left_out : (lim : Bounds) (t : ℕ) (s : State) (left : List ℕ) → (has_left lim t s left).out ≡ s.out
left_out lim t s [] = refl
left_out lim t s (place ∷ left) = refl

opened_out : (n : Option ℕ) (s : State) → (opened n s).out ≡ s.out
opened_out None s = refl
opened_out (Some n) s = refl

module _ (setting : Setting) (s : State) (t : ℕ) where
  -- nothing was added
  nothing : (out : List ℕ) → out ≡ s.out → out ≡ s.out ++ []
  nothing out is = is ∙ sym (append-nil s.out)

  pub printed : (event : Event) → (changed setting s t event).out ≡ s.out ++ values (prints_by event)
  printed (events.Print number value) = refl
  printed (events.Store loc value) =
      nothing (changed setting s t (events.Store loc value)).out
      (opened_out (so_far setting s t).spawned (written loc value s))
  printed (events.Taken place) =
      nothing (changed setting s t (events.Taken place)).out (left_out setting.lim t s _)
  printed (events.TakenPage page) =
      nothing (changed setting s t (events.TakenPage page)).out (left_out setting.lim t s _)
  printed event = sym (append-nil s.out)

  -- the prints behind it are numbered on
  numbered_more : (event : Event) (ps : List Print) → Allowed setting s t event
      → Numbered (length (changed setting s t event).out) ps → Numbered (length s.out) (prints_by event ++ ps)
  numbered_more (events.Print number value) ps allowed numbered =
      let next : length (s.out ++ value ∷ []) ≡ suc (length s.out) = omega (arith, length_push s.out value) in
      (allowed.1, subst (λ k. Numbered k ps) next numbered)
  numbered_more event ps allowed numbered =
      subst (λ (out : List ℕ). Numbered (length out) ps) (printed event ∙ append-nil s.out) numbered

-- WHAT A RUN PRINTS

-- the prints are numbered from what was printed before, and their values are what is printed in the end
pub record Prints (setting : Setting) (s : State) (es : List (ℕ × Event)) : Type 0 where
  pub numbered : Numbered (length s.out) (prints_among es)
  pub out : (state_after setting s es).out ≡ s.out ++ values (prints_among es)

pub run_prints : (setting : Setting) (es : List (ℕ × Event)) (s : State) → IsPlainRun setting s es
    → Prints setting s es
run_prints setting [] s run = record { numbered = tt; out = sym (append-nil s.out) }
run_prints setting (e ∷ es) s run =
    let now : List ℕ = values (prints_by e.1) in
    let rest : List ℕ = values (prints_among es) in
    let more = run_prints setting es (changed setting s e.0 e.1) run.1 in
    record {
      numbered = numbered_more setting s e.0 e.1 (prints_among es) run.0 more.numbered;
      out = more.out ∙ (ap (λ (out : List ℕ). out ++ rest) (printed setting s e.0 e.1)
          ∙ (append_assoc s.out now rest ∙ ap (λ (vs : List ℕ). s.out ++ vs)
          (sym (map-append (λ (p : Print). p.value) (prints_by e.1) (prints_among es)))));
    }
