-- Whether a thread may make an event, and whether events are a run, as tests that compute.
use Rattle.std.proofs.Common.{◌≡◌, ℕ, zero, suc, ◌<◌, ◌==◌, Bool, true, false, not, ◌&&◌, ◌||◌, nat_lt, nat_le, refl, sym, ap}
use Rattle.std.proofs.Common.{◌∙◌, subst, ◌⊎◌, Option, Some, None, List, [], ◌∷◌, length, arith}
use Rattle.std.proofs.lemmas.Bool.{and_from, and_parts, true≢false}
use Rattle.std.specs.Prelude.{is_none, Contains, slice_index_or}
use Rattle.ds_map.specs.Blocks.{place_holding, block_start, page_of}
use Rattle.ds_step.specs.declared.Event.{Event}
use Rattle.ds_step.specs.declared.Event.TheVariants.{Begin, Spawn, SpawnRefused, Join, End, Print, Load, Store}
use Rattle.ds_step.specs.declared.Event.TheVariants.{Exchange, Assign, Taken, TakenPage, Found, Skip, Noted}
use Rattle.ds_step.specs.declared.Event.TheVariants.{BeginFree, Mark, Seen, EndFree, Trap, Full, Log}
use Rattle.ds_step.specs.declared.Event.TheVariants as events
use Rattle.ds_plain.specs.declared.Request.TheVariants as requests
use Rattle.ds_plain.specs.State.{State, Setting, Note, Use, Freeing}
use Rattle.ds_plain.specs.Plain.{AsksFor, so_far, word, Allowed, changed, IsPlainRun, is_of, IsLiveAt}
use Rattle.ds_plain.specs.Plain.{IsBlock, NotesBlock, IsFreeing, IsNotedFor, Visits, points_to}
use Rattle.ds_tried.proofs.Tests.{Tells, both, either, not_so, as_good, equal, less, at_most, holds, held, holding, none_is}
use Rattle.ds_tried.proofs.Tests.{never, always, is_so, same, same_tests}
use Rattle.ds_tried.proofs.Asked.{asks, of_malloc, wants, wants_class, is_block, block_is, of_note, notes}
use Rattle.ds_tried.proofs.Asked.{of_free_at, frees, frees_place}
use Rattle.ds_tried.proofs.Memory.{is_ready, ready, is_stopped, stopped, is_live, live, is_free, free, is_freed_by, freed_by}
use Rattle.ds_tried.proofs.Memory.{reading, reads, storing, stores_number, writes, exchanging, exchanges, joining}
use Rattle.ds_tried.proofs.Memory.{joins_number, printing, prints, spawning, spawns_this, spawns_any, stopping, has_end}
use Rattle.ds_tried.proofs.Memory.{may_trap, traps}

-- NOTES

-- some thread noted the location for this life of the block at this place
abbrev pub noted_in : (place life loc : ℕ) → List Note → Bool
noted_in place life loc [] = false
noted_in place life loc (n ∷ ns) = (is_of place life n && (n.loc == loc)) || noted_in place life loc ns

abbrev NotedIn : (place life loc : ℕ) → List Note → Type 0
NotedIn place life loc ns =
    (thread : ℕ) × Contains ns (record { place = place; life = life; loc = loc; thread = thread })

module _ (place life loc : ℕ) where
  note_is : (n : Note) → n.place ≡ place → n.life ≡ life → n.loc ≡ loc
      → n ≡ record { place = place; life = life; loc = loc; thread = n.thread }
  note_is n p l q = rw (← p, ← l, ← q) refl

  this_note : (n : Note) → Tells (is_of place life n && (n.loc == loc))
      ((n.place ≡ place) × (n.life ≡ life) × (n.loc ≡ loc))
  this_note n = as_good (λ h. (h.0.0, h.0.1, h.1)) (λ h. ((h.0, h.1), h.2))
      (both (both (equal n.place place) (equal n.life life)) (equal n.loc loc))

  noted_so : (ns : List Note) → noted_in place life loc ns ≡ true → NotedIn place life loc ns
  noted_so [] e = absurd (true≢false (sym e))
  noted_so (n ∷ ns) e = by (is_of place life n && (n.loc == loc)) refl e (noted_so ns)
    where
      by : (b : Bool) → (is_of place life n && (n.loc == loc)) ≡ b → (b || noted_in place life loc ns) ≡ true
          → (noted_in place life loc ns ≡ true → NotedIn place life loc ns) → NotedIn place life loc (n ∷ ns)
      by true is e more =
          let h = (this_note n).so is in (n.thread, (0, omega arith, note_is n h.0 h.1 h.2))
      by false is e more = let (thread, (k, lt, at)) = more e in (thread, (suc k, omega arith, at))

  noted_true : (ns : List Note) (thread k : ℕ) → k < length ns
      → slice_index_or ns k (record { place = place; life = life; loc = loc; thread = thread })
      ≡ record { place = place; life = life; loc = loc; thread = thread }
      → noted_in place life loc ns ≡ true
  noted_true [] thread k lt at = absurd (omega arith)
  noted_true (n ∷ ns) thread zero lt at =
      ap (λ b. b || noted_in place life loc ns)
      ((this_note n).true_is (ap (λ (m : Note). m.place) at, ap (λ (m : Note). m.life) at, ap (λ (m : Note). m.loc) at))
  noted_true (n ∷ ns) thread (suc k) lt at =
      by (is_of place life n && (n.loc == loc)) (noted_true ns thread k (omega arith) at)
    where
      by : (b : Bool) → noted_in place life loc ns ≡ true → (b || noted_in place life loc ns) ≡ true
      by true h = refl
      by false h = h

  pub noted : (ns : List Note) → Tells (noted_in place life loc ns) (NotedIn place life loc ns)
  noted ns = record { so = noted_so ns; true_is = λ (thread, (k, lt, at)). noted_true ns thread k lt at }

-- EVENTS

module _ (setting : Setting) (s : State) (t : ℕ) where
  abbrev pub is_live_at : Option ℕ → Bool
  is_live_at o = holds (λ (place : ℕ). is_live (s.blocks place).state) o

  pub live_at : (o : Option ℕ) → Tells (is_live_at o) (IsLiveAt s o)
  live_at None = never
  live_at (Some place) = live (s.blocks place).state

  -- a found block in a page of its class, that starts there
  abbrev pub notes_block : (place start loc value : ℕ) → Bool
  notes_block place start loc value =
      holds (λ p. p == place) (place_holding setting.lim s.pages value)
      && holds (λ class. start == block_start place class) (s.pages (page_of place))

  block_noted : (place start : ℕ) → Tells (asks setting s t (of_note setting s t (notes_block place start)))
      (NotesBlock setting s t place start)
  block_noted place start = as_good
      (λ (loc, value, a, e).
      let p = and_parts (holds (λ p. p == place) (place_holding setting.lim s.pages value))
      (holds (λ class. start == block_start place class) (s.pages (page_of place))) e in
      let q = held (λ p. p == place) (place_holding setting.lim s.pages value) p.0 in
      let c = held (λ class. start == block_start place class) (s.pages (page_of place)) p.1 in
      (loc, value, c.0, a, q.1 ∙ ap Some ((equal q.0 place).so q.2), c.1, (equal start (block_start place c.0)).so c.2))
      (λ (loc, value, class, a, is, c, st). (
        loc,
        value,
        a,
        and_from (holds (λ p. p == place) (place_holding setting.lim s.pages value))
            (holds (λ class. start == block_start place class) (s.pages (page_of place)))
            (holding (λ p. p == place) (place_holding setting.lim s.pages value) place is ((equal place place).true_is refl))
            (holding (λ class. start == block_start place class) (s.pages (page_of place)) class c
            ((equal start (block_start place class)).true_is st)),
      ))
      (notes setting s t (notes_block place start))

  abbrev is_pair : (place life : ℕ) → ℕ × ℕ → Bool
  is_pair place life b = (b.0 == place) && (b.1 == life)

  pub found : (place life : ℕ) → Tells (holds (is_pair place life) (so_far setting s t).found)
      ((so_far setting s t).found ≡ Some (place, life))
  found place life = record {
    so = λ e. let h = held (is_pair place life) (so_far setting s t).found e in
        let p = (both (equal h.0.0 place) (equal h.0.1 life)).so h.2 in
        h.1 ∙ pair h.0.0 h.0.1 p.0 p.1;
    true_is = λ h. holding (is_pair place life) (so_far setting s t).found (place, life) h
        ((both (equal place place) (equal life life)).true_is (refl, refl));
  }
    where
      pair : (a b : ℕ) → a ≡ place → b ≡ life → ◌≡◌ {A = Option (ℕ × ℕ)} (Some (a, b)) (Some (place, life))
      pair a b p q = rw (p, q) refl

  -- the visit of a location by the free of the block at a place
  abbrev pub visits_block : (loc : ℕ) (points : Bool) (place : ℕ) → Bool
  visits_block loc points place =
      is_freed_by t (s.blocks place).state
      && (same points (points_to setting s t loc place (s.pages (page_of place)))
      && (noted_in place (s.blocks place).life loc s.noted || setting.weak))

  visits : (loc : ℕ) (points : Bool) → Tells (asks setting s t (of_free_at setting s t (visits_block loc points)))
      ((place : ℕ) × Visits setting s t place loc points)
  visits loc points = as_good
      (λ (place, f, e). let h = (parts place).so e in (place, ((f, h.0), h.1.0, h.1.1)))
      (λ (place, ((f, is), p, n)). (place, f, (parts place).true_is (is, (p, n))))
      (frees setting s t (visits_block loc points))
    where
      parts : (place : ℕ) → Tells (visits_block loc points place)
          (((s.blocks place).state ≡ Freeing t) × ((points_to setting s t loc place (s.pages (page_of place)) ≡ points)
          × (IsNotedFor setting s t place loc ⊎ (setting.weak ≡ true))))
      parts place = both (freed_by t (s.blocks place).state)
          (both (same_tests points (points_to setting s t loc place (s.pages (page_of place))))
          (either (noted place (s.blocks place).life loc s.noted) (is_so setting.weak)))

  abbrev is_empty : List ℕ → Bool
  is_empty [] = true
  is_empty (n ∷ ns) = false

  empty : (ns : List ℕ) → Tells (is_empty ns) (ns ≡ [])
  empty [] = record { so = λ e. refl; true_is = λ h. refl }
  empty (n ∷ ns) = record { so = λ e. absurd (true≢false (sym e)); true_is = λ h. cc h }

  frees_this : (place : ℕ) → Tells
      (asks setting s t (of_free_at setting s t (λ p. p == place)) && is_freed_by t (s.blocks place).state)
      (IsFreeing setting s t place)
  frees_this place = both (frees_place setting s t place) (freed_by t (s.blocks place).state)

  abbrev another_class : (page wanted : ℕ) → Bool
  another_class page wanted = holds (λ class. not (class == wanted)) (s.pages page)

  abbrev taken_block : (place class : ℕ) → Bool
  taken_block place class = is_block setting s t place class && not (is_free (s.blocks place).state)

  abbrev given_block : (place start life class : ℕ) → Bool
  given_block place start life class =
      is_block setting s t place class && (is_free (s.blocks place).state
      && ((start == block_start place class) && (life == suc (s.blocks place).life)))

  -- whether thread t may make this event now
  abbrev pub may : Event → Bool
  may Begin = is_ready (s.threads t)
  may (Load loc value) = asks setting s t (reading setting s t loc) && (value == word setting s t loc)
  may (Store loc value) = asks setting s t (storing setting s t loc value) || stores_number setting s t loc value
  may (Exchange loc value) = asks setting s t (exchanging setting s t loc value)
  may (Print number value) = asks setting s t (printing setting s t value) && (number == length s.out)
  may (Spawn n f x) =
      asks setting s t (spawning setting s t (λ g y. (g == f) && (y == x))) && ((n == s.given) && nat_lt n 16)
  may SpawnRefused = asks setting s t (spawning setting s t (λ g y. true)) && nat_le 16 s.given
  may (Join n) =
      asks setting s t (joining setting s t (λ m. m == n))
      && (nat_lt n 16 && (nat_lt n s.given && is_stopped (s.threads n)))
  may End =
      not (is_stopped (s.threads t))
      && ((asks setting s t (stopping setting s t) || holds (λ stop. true) (so_far setting s t).ended)
      || setting.out_of_fuel t)
  may (Assign page class) =
      asks setting s t (of_malloc setting s t (λ c. c == class))
      && (nat_lt page setting.lim.pages && is_none (s.pages page))
  may (TakenPage page) =
      asks setting s t (of_malloc setting s t (another_class page)) && nat_lt page setting.lim.pages
  may (Taken place) = asks setting s t (of_malloc setting s t (taken_block place))
  may (events.Block place start life) = asks setting s t (of_malloc setting s t (given_block place start life))
  may Skip =
      asks setting s t (of_note setting s t
      (λ loc value. not (is_live_at (place_holding setting.lim s.pages value))))
  may (Found place start life) =
      asks setting s t (of_note setting s t (notes_block place start))
      && (is_live (s.blocks place).state && (life == (s.blocks place).life))
  may (Noted place life loc) =
      asks setting s t (of_note setting s t (λ l value. l == loc))
      && holds (is_pair place life) (so_far setting s t).found
  may (Full what) =
      asks setting s t (of_note setting s t (λ l value. true)) && holds (λ block. true) (so_far setting s t).found
  may (BeginFree place life) =
      asks setting s t (of_free_at setting s t (λ p. p == place))
      && (is_live (s.blocks place).state && (life == (s.blocks place).life))
  may (Mark loc) = asks setting s t (of_free_at setting s t (visits_block loc true))
  may (Seen loc) = asks setting s t (of_free_at setting s t (visits_block loc false))
  may (EndFree place) =
      (asks setting s t (of_free_at setting s t (λ p. p == place)) && is_freed_by t (s.blocks place).state)
      && (is_empty (so_far setting s t).due || setting.weak)
  may Trap = may_trap setting s t
  may Log = false

  pub decides : (event : Event) → Tells (may event) (Allowed setting s t event)
  decides Begin = ready (s.threads t)
  decides (Load loc value) = both (reads setting s t loc) (equal value (word setting s t loc))
  decides (Store loc value) = writes setting s t loc value
  decides (Exchange loc value) = exchanges setting s t loc value
  decides (Print number value) = both (prints setting s t value) (equal number (length s.out))
  decides (Spawn n f x) = as_good (λ h. (h.0, h.1.0, h.1.1)) (λ h. (h.0, (h.1, h.2)))
      (both (spawns_this setting s t f x) (both (equal n s.given) (less n 16)))
  decides SpawnRefused = both (spawns_any setting s t) (at_most 16 s.given)
  decides (Join n) = as_good (λ h. (h.0, h.1.0, h.1.1.0, h.1.1.1)) (λ h. (h.0, (h.1, (h.2, h.3))))
      (both (joins_number setting s t n) (both (less n 16) (both (less n s.given) (stopped (s.threads n)))))
  decides End = both (not_so (stopped (s.threads t))) (either (has_end setting s t) (is_so (setting.out_of_fuel t)))
  decides (Assign page class) = as_good (λ h. (h.0, h.1.0, h.1.1)) (λ h. (h.0, (h.1, h.2)))
      (both (wants_class setting s t class) (both (less page setting.lim.pages) (none_is (s.pages page))))
  decides (TakenPage page) = as_good
      (λ ((wanted, w, e), lt). let h = held (λ class. not (class == wanted)) (s.pages page) e in
      (wanted, h.0, w, lt, h.1, (not_so (equal h.0 wanted)).so h.2))
      (λ (wanted, class, w, lt, is, ne). (
        (
          wanted,
          w,
          holding (λ class. not (class == wanted)) (s.pages page) class is ((not_so (equal class wanted)).true_is ne),
        ),
        lt,
      ))
      (both (wants setting s t (another_class page)) (less page setting.lim.pages))
  decides (Taken place) = as_good
      (λ (class, w, e). let h = (is_taken class).so e in (class, w, h.0, h.1))
      (λ (class, w, b, n). (class, w, (is_taken class).true_is (b, n)))
      (wants setting s t (taken_block place))
    where
      is_taken : (class : ℕ) → Tells (taken_block place class)
          (IsBlock setting s t place class × ¬ ((s.blocks place).state ≡ Use.Free))
      is_taken class = both (block_is setting s t place class) (not_so (free (s.blocks place).state))
  decides (events.Block place start life) = as_good
      (λ (class, w, e). let h = (is_given class).so e in (class, w, h.0, h.1.0, h.1.1.0, h.1.1.1))
      (λ (class, w, b, f, st, l). (class, w, (is_given class).true_is (b, (f, (st, l)))))
      (wants setting s t (given_block place start life))
    where
      is_given : (class : ℕ) → Tells (given_block place start life class)
          (IsBlock setting s t place class × (((s.blocks place).state ≡ Use.Free)
          × ((start ≡ block_start place class) × (life ≡ suc (s.blocks place).life))))
      is_given class = both (block_is setting s t place class) (both (free (s.blocks place).state)
          (both (equal start (block_start place class)) (equal life (suc (s.blocks place).life))))
  decides Skip = as_good
      (λ (loc, value, a, e). (loc, value, a, (not_so (live_at (place_holding setting.lim s.pages value))).so e))
      (λ (loc, value, a, n). (loc, value, a, (not_so (live_at (place_holding setting.lim s.pages value))).true_is n))
      (notes setting s t (λ loc value. not (is_live_at (place_holding setting.lim s.pages value))))
  decides (Found place start life) = as_good (λ h. (h.0, h.1.0, h.1.1)) (λ h. (h.0, (h.1, h.2)))
      (both (block_noted place start) (both (live (s.blocks place).state) (equal life (s.blocks place).life)))
  decides (Noted place life loc) = both
      (as_good
      (λ (l, value, a, e). (value, subst (λ x. AsksFor setting s t (requests.Note x value)) ((equal l loc).so e) a))
      (λ (value, a). (loc, value, a, (equal loc loc).true_is refl))
      (notes setting s t (λ l value. l == loc)))
      (found place life)
  decides (Full what) = both
      (as_good (λ (l, value, a, e). (l, value, a)) (λ (l, value, a). (l, value, a, refl)) (notes setting s t (λ l value. true)))
      (record {
        so = λ e. let h = held (λ block. true) (so_far setting s t).found e in (h.0, h.1);
        true_is = λ (block, is). holding (λ block. true) (so_far setting s t).found block is refl;
      })
  decides (BeginFree place life) = as_good (λ h. (h.0, h.1.0, h.1.1)) (λ h. (h.0, (h.1, h.2)))
      (both (frees_place setting s t place) (both (live (s.blocks place).state) (equal life (s.blocks place).life)))
  decides (Mark loc) = visits loc true
  decides (Seen loc) = visits loc false
  decides (EndFree place) = both (frees_this place) (either (empty (so_far setting s t).due) (is_so setting.weak))
  decides Trap = traps setting s t
  decides Log = never

-- RUNS

abbrev pub runs : Setting → State → List (ℕ × Event) → Bool
runs setting s [] = true
runs setting s (e ∷ es) = may setting s e.0 e.1 && runs setting (changed setting s e.0 e.1) es

pub is_run : (setting : Setting) (s : State) (es : List (ℕ × Event)) → Tells (runs setting s es) (IsPlainRun setting s es)
is_run setting s [] = always
is_run setting s (e ∷ es) =
    both (decides setting s e.0 e.1) (is_run setting (changed setting s e.0 e.1) es)
