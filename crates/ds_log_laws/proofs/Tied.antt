-- What is noted in a run of the plain machine, thread by thread.
use Rattle.std.proofs.Common.{◌≡◌, ℕ, zero, suc, Bool, true, false, ◌==◌, ◌&&◌, ◌||◌, List, [], ◌∷◌, Contains}
use Rattle.std.proofs.Common.{Option, Some, None, refl, ap, ◌∙◌, arith, eqb-true}
use Rattle.std.specs.List.{list_any}
use Rattle.std.proofs.lemmas.Bool.{and_parts, eq-eqb, ne_eqb}
use Rattle.ds_map.specs.Bounds.{Bounds}
use Rattle.ds_step.specs.declared.Event.{Event}
use Rattle.ds_step.specs.declared.Event.TheVariants as events
use Rattle.ds_plain.specs.State.{State, Setting, Note}
use Rattle.ds_plain.specs.Plain.{so_far, written, opened, has_left, changed}
use Rattle.ds_log_laws.proofs.Links.{is_in, notes_at}

-- MEMBERS OF LISTS

or_true : (b c : Bool) → c ≡ true → (b || c) ≡ true
or_true true c e = refl
or_true false c e = e

-- a test that only x passes finds whether x is in a list
module _ {X : Type 0} (test : X → Bool) (x : X) (passes : test x ≡ true) (alone : (y : X) → test y ≡ true → y ≡ x) where
  found : (xs : List X) → list_any test xs ≡ true → Contains xs x
  found [] e = absurd (cc (e))
  found (y ∷ ys) e = by (test y) refl (found ys) e
    where
      by : (b : Bool) → test y ≡ b → (list_any test ys ≡ true → Contains ys x) → (b || list_any test ys) ≡ true
          → Contains (y ∷ ys) x
      by true is more e' = (0, omega arith, alone y is)
      by false is more e' = let at = more e' in (suc at.0, omega (arith, at.1), at.2)

  finds : (xs : List X) → Contains xs x → list_any test xs ≡ true
  finds [] has = absurd (omega (arith, has.1))
  finds (y ∷ ys) (zero, lt, is) = ap (λ b. b || list_any test ys) (ap test is ∙ passes)
  finds (y ∷ ys) (suc k, lt, is) = or_true (test y) (list_any test ys) (finds ys (k, omega (arith, lt), is))

pub is_in_contains : (loc : ℕ) (locs : List ℕ) → is_in loc locs ≡ true → Contains locs loc
is_in_contains loc locs e = found (λ x. x == loc) loc (eq-eqb loc loc refl) (λ y is. eqb-true y loc is) locs e

pub contains_is_in : (loc : ℕ) (locs : List ℕ) → Contains locs loc → is_in loc locs ≡ true
contains_is_in loc locs has = finds (λ x. x == loc) loc (eq-eqb loc loc refl) (λ y is. eqb-true y loc is) locs has

-- NOTES

abbrev pub note_of : (place life loc thread : ℕ) → Note
note_of place life loc thread = record { place = place; life = life; loc = loc; thread = thread }

-- the note is this one
abbrev pub is_note : (place life loc thread : ℕ) → Note → Bool
is_note place life loc thread note =
    (((note.place == place) && (note.life == life)) && (note.loc == loc)) && (note.thread == thread)

-- it is among these
abbrev pub is_noted : (place life loc thread : ℕ) → List Note → Bool
is_noted place life loc thread notes = list_any (is_note place life loc thread) notes

module _ (place life loc thread : ℕ) where
  note_passes : is_note place life loc thread (note_of place life loc thread) ≡ true
  note_passes =
      rw (eq-eqb place place refl) (rw (eq-eqb life life refl) (rw (eq-eqb loc loc refl)
      (rw (eq-eqb thread thread refl) refl)))

  note_alone : (note : Note) → is_note place life loc thread note ≡ true → note ≡ note_of place life loc thread
  note_alone note is =
      let outer = and_parts (((note.place == place) && (note.life == life)) && (note.loc == loc))
      (note.thread == thread) is in
      let middle = and_parts ((note.place == place) && (note.life == life)) (note.loc == loc) outer.0 in
      let inner = and_parts (note.place == place) (note.life == life) middle.0 in
      ap (λ p. note_of p note.life note.loc note.thread) (eqb-true note.place place inner.0)
      ∙ (ap (λ l. note_of place l note.loc note.thread) (eqb-true note.life life inner.1)
      ∙ (ap (λ x. note_of place life x note.thread) (eqb-true note.loc loc middle.1)
      ∙ ap (note_of place life loc) (eqb-true note.thread thread outer.1)))

  pub noted_contains : (notes : List Note) → is_noted place life loc thread notes ≡ true
      → Contains notes (note_of place life loc thread)
  noted_contains notes e =
      found (is_note place life loc thread) (note_of place life loc thread) note_passes note_alone notes e

  pub contains_noted : (notes : List Note) → Contains notes (note_of place life loc thread)
      → is_noted place life loc thread notes ≡ true
  contains_noted notes has =
      finds (is_note place life loc thread) (note_of place life loc thread) note_passes note_alone notes has

-- WHAT AN EVENT ADDS

abbrev notes_behind : (t : ℕ) → Event → List Note → List Note
notes_behind t (events.Noted place life loc) notes = note_of place life loc t ∷ notes
notes_behind t event notes = notes

opened_notes : (o : Option ℕ) (s : State) → (opened o s).noted ≡ s.noted
opened_notes None s = refl
opened_notes (Some n) s = refl

left_notes : (lim : Bounds) (t : ℕ) (s : State) (left : List ℕ) → (has_left lim t s left).noted ≡ s.noted
left_notes lim t s [] = refl
left_notes lim t s (first ∷ left) = refl

changed_notes : (setting : Setting) (s : State) (t : ℕ) (event : Event)
    → (changed setting s t event).noted ≡ notes_behind t event s.noted
changed_notes setting s t (events.Store loc value) = opened_notes (so_far setting s t).spawned (written loc value s)
changed_notes setting s t (events.TakenPage page) = left_notes setting.lim t s _
changed_notes setting s t (events.Taken taken) = left_notes setting.lim t s _
changed_notes setting s t event = refl

and_with : (b c d : Bool) → c ≡ d → (b && c) ≡ (b && d)
and_with b c d e = ap (λ x. b && x) e

and_right : (b : Bool) → (b && true) ≡ b
and_right true = refl
and_right false = refl

and_none : (b : Bool) → (b && false) ≡ false
and_none true = refl
and_none false = refl

module _ (place life loc t : ℕ) where
  mine : (event : Event) (notes : List Note) → is_noted place life loc t (notes_behind t event notes)
      ≡ (notes_at place life loc event || is_noted place life loc t notes)
  mine (events.Noted other since x) notes =
      ap (λ b. b || is_noted place life loc t notes)
      (and_with (((other == place) && (since == life)) && (x == loc)) (t == t) true (eq-eqb t t refl)
      ∙ and_right (((other == place) && (since == life)) && (x == loc)))
  mine event notes = refl

  not_mine : (u : ℕ) → (u ≡ t → ⊥) → (event : Event) (notes : List Note)
      → is_noted place life loc t (notes_behind u event notes) ≡ is_noted place life loc t notes
  not_mine u ne (events.Noted other since x) notes =
      ap (λ b. b || is_noted place life loc t notes)
      (and_with (((other == place) && (since == life)) && (x == loc)) (u == t) false (ne_eqb u t ne)
      ∙ and_none (((other == place) && (since == life)) && (x == loc)))
  not_mine u ne event notes = refl

  -- an event of t adds what it tells, one of another thread adds nothing that is noted by t
  pub noted_here : (setting : Setting) (s : State) (event : Event)
      → is_noted place life loc t (changed setting s t event).noted
      ≡ (notes_at place life loc event || is_noted place life loc t s.noted)
  noted_here setting s event =
      ap (is_noted place life loc t) (changed_notes setting s t event) ∙ mine event s.noted

  pub noted_away : (setting : Setting) (s : State) (u : ℕ) → (u ≡ t → ⊥) → (event : Event)
      → is_noted place life loc t (changed setting s u event).noted ≡ is_noted place life loc t s.noted
  noted_away setting s u ne event =
      ap (is_noted place life loc t) (changed_notes setting s u event) ∙ not_mine u ne event s.noted
