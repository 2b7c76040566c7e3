-- How long traces and histories can be.
use Rattle.std.proofs.Common.{◌≡◌, ℕ, zero, suc, ◌+◌, ◌*◌, ◌<◌, ◌≤◌, ◌==◌, Bool, true, false, if◌then◌else◌}
use Rattle.std.proofs.Common.{nat_lt, slice_set}
use Rattle.std.proofs.Common.{nat_le, List, [], ◌∷◌, length, refl, sym, ap, ◌∙◌, subst, inl, inr, ◌⊎◌, arith, eqb-true}
use Rattle.std.proofs.Common.{ltb-true, leb-true}
use Rattle.std.proofs.lemmas.Bool.{cases_eq, eq-eqb, ne_eqb}
use Rattle.ds_map.specs.Bounds.{Bounds}
use Rattle.ds_map.specs.Blocks.{block_start}
use Rattle.ds_step.specs.declared.Step.{Step}
use Rattle.ds_plain.specs.declared.Stop.{Stop}
use Rattle.ds_plain.specs.declared.Stop.TheVariants.{Full, Fuel}
use Rattle.ds_plain.specs.declared.TrapKind.TheVariants.{BadJoin}
use Rattle.ds_plain.specs.declared.Position.{Position}
use Rattle.ds_plain.specs.declared.Position.TheVariants.{Start, Malloc, Note, Free, Spawn, Join}
use Rattle.ds_plain.specs.declared.Position.TheVariants.{DrawPrint, StoreEnded, Over, NoRow}
use Rattle.ds_plain.specs.declared.Position.TheVariants as positions
use Rattle.ds_plain.specs.Behaviour.{Asked, Asks, Silent, Behaviour, place_in_text, told, Program}
use Rattle.ds_plain.specs.Starting.{StartNext, StartsOn, Begins, start_next}
use Rattle.ds_plain.specs.Spawning.{SpawnNext, SpawnsOn, SpawnTells, spawn_next}
use Rattle.ds_plain.specs.Joining.{JoinNext, JoinsOn, Joined, FailsJoin, join_next}
use Rattle.ds_plain.specs.Accessing.{AccessNext, AccessesOn, Tells, access_next}
use Rattle.ds_plain.specs.Searching.{AllocNext, Looks, Takes, TakesNone, place_behind, alloc_next}
use Rattle.ds_plain.specs.Noting.{NoteNext, NotesOn, HasNoted, HasSkipped, FailsNote, note_next}
use Rattle.ds_plain.specs.Freeing.{FreeNext, FreesOn, Freed, FailsFree, free_next}
use Rattle.ds_plain.specs.Table.{position_of, is_over}
use Rattle.ds_plain.specs.Plain.{trap_stop}
use Rattle.ds_plain.specs.Thread.{Thread, paying, standing, arriving, going_on, moved_from_access, moved_from_malloc}
use Rattle.ds_plain.specs.Thread.{moved_from_start, moved_from_spawn, moved_from_join, moved_from_note}
use Rattle.ds_plain.specs.Thread.{moved_from_free, freed_address, trap_kind, moved_from, Follows}
use Rattle.ds_plain.specs.History.{History, steps_of}

-- a thread that is over makes no step
pub over_rest : (program : Program) (lim : Bounds) (t : ℕ) (a : Thread) (ss : List Step) → is_over a.position ≡ true
    → Follows program lim t a ss → ss ≡ []
over_rest program lim t a [] over follows = refl
over_rest program lim t a (s ∷ ss) over follows = absurd (cc (over, follows.0))

-- what a thread at this position has spent, and what it has left to spend
abbrev pub HasPaid : Bounds → ℕ → Position → Type 0
HasPaid lim units (Start at) = units < lim.fuel
HasPaid lim units (positions.Access at) = units < lim.fuel
HasPaid lim units (Malloc at) = units < lim.fuel
HasPaid lim units (Note at) = units < lim.fuel
HasPaid lim units (Free at) = units < lim.fuel
HasPaid lim units (Spawn at) = units < lim.fuel
HasPaid lim units (Join at) = units < lim.fuel
HasPaid lim units (DrawPrint value) = units < lim.fuel
HasPaid lim units (StoreEnded stop) = units ≤ lim.fuel
HasPaid lim units (Over stop) = units ≤ lim.fuel
HasPaid lim units NoRow = units < lim.fuel

-- the thread has spent at least this much, and no more than it may
pub record Pays (lim : Bounds) (low : ℕ) (a : Thread) : Type 0 where
  pub paid : HasPaid lim a.units a.position
  pub least : low ≤ a.units

pays_if : (lim : Bounds) (low : ℕ) (b : Bool) (x y : Thread) → (b ≡ true → Pays lim low x) → Pays lim low y
    → Pays lim low (if b then x else y)
pays_if lim low true x y p q = p refl
pays_if lim low false x y p q = q

module _ (lim : Bounds) (cursors : List ℕ) where
  -- a thread that comes to a step which costs one unit
  paying_pays : (rest : Behaviour) (units : ℕ) (began : Bool) (p : Position) → (units < lim.fuel → HasPaid lim units p)
      → units ≤ lim.fuel → Pays lim units (paying lim cursors rest units began p)
  paying_pays rest units began p paid le =
      pays_if lim units (nat_lt units lim.fuel)
      (record { rest = rest; position = p; units = units; began = began; cursors = cursors })
      (record { rest = rest; position = StoreEnded Fuel; units = units; began = began; cursors = cursors })
      (λ e. record { paid = paid (ltb-true units lim.fuel e); least = omega arith })
      (record { paid = le; least = omega arith })

  pub standing_pays : (rest : Behaviour) (units : ℕ) (began : Bool) (p : Position) → units ≤ lim.fuel
      → Pays lim units (standing lim cursors rest units began p)
  standing_pays rest units began (Start at) le = paying_pays rest units began (Start at) (λ lt. lt) le
  standing_pays rest units began (positions.Access at) le =
      paying_pays rest units began (positions.Access at) (λ lt. lt) le
  standing_pays rest units began (Malloc at) le = paying_pays rest units began (Malloc at) (λ lt. lt) le
  standing_pays rest units began (Note at) le = paying_pays rest units began (Note at) (λ lt. lt) le
  standing_pays rest units began (Free at) le = paying_pays rest units began (Free at) (λ lt. lt) le
  standing_pays rest units began (Spawn at) le = paying_pays rest units began (Spawn at) (λ lt. lt) le
  standing_pays rest units began (Join at) le = paying_pays rest units began (Join at) (λ lt. lt) le
  standing_pays rest units began (DrawPrint value) le = paying_pays rest units began (DrawPrint value) (λ lt. lt) le
  standing_pays rest units began (StoreEnded stop) le = record { paid = le; least = omega arith }
  standing_pays rest units began (Over stop) le = record { paid = le; least = omega arith }
  standing_pays rest units began NoRow le = paying_pays rest units began NoRow (λ lt. lt) le

  -- a thread that comes to its request
  arriving_pays : (rest : Behaviour) (units : ℕ) (asked : Asked) → units ≤ lim.fuel
      → Pays lim units (arriving lim cursors rest units asked)
  arriving_pays rest units (Asks begun place request) le =
      pays_if lim units (nat_le (units + begun) lim.fuel)
      (standing lim cursors rest (units + begun) true (position_of lim cursors request))
      (record { rest = rest; position = StoreEnded Fuel; units = lim.fuel; began = true; cursors = cursors })
      (λ e. let pays = standing_pays rest (units + begun) true (position_of lim cursors request)
      (leb-true (units + begun) lim.fuel e) in
      record { paid = pays.paid; least = omega (arith, pays.least) })
      (record { paid = omega arith; least = le })
  arriving_pays rest units Silent le = record { paid = omega arith; least = le }

  -- the next request is never dearer than the fuel
  going_pays : (units : ℕ) (rest : Behaviour) → units ≤ lim.fuel → Pays lim units (going_on lim cursors units rest)
  going_pays units rest le = arriving_pays rest units (rest []) le

-- the parts of a thread
abbrev thread_with : Behaviour → Position → ℕ → Bool → List ℕ → Thread
thread_with rest p units began cursors =
    record { rest = rest; position = p; units = units; began = began; cursors = cursors }

module _ (program : Program) (lim : Bounds) (t : ℕ) where
  -- how a thread at a position goes on, by an answer
  abbrev after : Position → Behaviour → ℕ → Bool → List ℕ → ℕ → Thread
  after p rest units began cursors old = moved_from program lim t (thread_with rest p units began cursors) p old

  start_pays : (a : Thread) (next : StartNext) → a.units < lim.fuel
      → Pays lim (a.units + 1) (moved_from_start program lim t a next)
  start_pays a (StartsOn at) lt = standing_pays lim a.cursors a.rest (a.units + 1) a.began (Start at) (omega arith)
  start_pays a (Begins function argument) lt =
      going_pays lim a.cursors (a.units + 1) (program.behaves t function argument) (omega arith)

  spawn_pays : (a : Thread) (next : SpawnNext) → a.units < lim.fuel
      → Pays lim (a.units + 1) (moved_from_spawn lim a next)
  spawn_pays a (SpawnsOn at) lt = standing_pays lim a.cursors a.rest (a.units + 1) a.began (Spawn at) (omega arith)
  spawn_pays a (SpawnTells answer) lt = going_pays lim a.cursors (a.units + 1) (told a.rest answer) (omega arith)

  join_pays : (a : Thread) (next : JoinNext) → a.units < lim.fuel
      → Pays lim (a.units + 1) (moved_from_join lim a next)
  join_pays a (JoinsOn at) lt = standing_pays lim a.cursors a.rest (a.units + 1) a.began (Join at) (omega arith)
  join_pays a Joined lt = going_pays lim a.cursors (a.units + 1) (told a.rest 0) (omega arith)
  join_pays a (FailsJoin number) lt =
      standing_pays lim a.cursors a.rest (a.units + 1) a.began
      (StoreEnded (trap_stop (place_in_text (a.rest [])) (BadJoin number))) (omega arith)

  access_pays : (a : Thread) (next : AccessNext) → a.units < lim.fuel
      → Pays lim (a.units + 1) (moved_from_access lim a next)
  access_pays a (AccessesOn at) lt =
      standing_pays lim a.cursors a.rest (a.units + 1) a.began (positions.Access at) (omega arith)
  access_pays a (Tells answer) lt = going_pays lim a.cursors (a.units + 1) (told a.rest answer) (omega arith)

  malloc_pays : (a : Thread) (next : AllocNext) → a.units < lim.fuel
      → Pays lim (a.units + 1) (moved_from_malloc lim a next)
  malloc_pays a (Looks at) lt = standing_pays lim a.cursors a.rest (a.units + 1) a.began (Malloc at) (omega arith)
  malloc_pays a (Takes class place life) lt =
      going_pays lim (slice_set a.cursors class (place_behind lim class place)) (a.units + 1)
      (told a.rest (block_start place class)) (omega arith)
  malloc_pays a TakesNone lt = going_pays lim a.cursors (a.units + 1) (told a.rest 0) (omega arith)

  note_pays : (a : Thread) (next : NoteNext) → a.units < lim.fuel
      → Pays lim (a.units + 1) (moved_from_note lim a next)
  note_pays a (NotesOn at) lt = standing_pays lim a.cursors a.rest (a.units + 1) a.began (Note at) (omega arith)
  note_pays a HasNoted lt = going_pays lim a.cursors (a.units + 1) (told a.rest 0) (omega arith)
  note_pays a HasSkipped lt = going_pays lim a.cursors (a.units + 1) (told a.rest 0) (omega arith)
  note_pays a (FailsNote what) lt =
      standing_pays lim a.cursors a.rest (a.units + 1) a.began
      (StoreEnded (Full (place_in_text (a.rest [])) what)) (omega arith)

  free_pays : (a : Thread) (address : ℕ) (next : FreeNext) → a.units < lim.fuel
      → Pays lim (a.units + 1) (moved_from_free lim a address next)
  free_pays a address (FreesOn at) lt =
      standing_pays lim a.cursors a.rest (a.units + 1) a.began (Free at) (omega arith)
  free_pays a address Freed lt = going_pays lim a.cursors (a.units + 1) (told a.rest 0) (omega arith)
  free_pays a address (FailsFree trap) lt =
      standing_pays lim a.cursors a.rest (a.units + 1) a.began
      (StoreEnded (trap_stop (place_in_text (a.rest [])) (trap_kind address trap))) (omega arith)

  -- each step but the last costs a unit
  step_pays : (p : Position) (rest : Behaviour) (units : ℕ) (began : Bool) (cursors : List ℕ) (old : ℕ)
      → units < lim.fuel → is_over p ≡ false → ((stop : Stop) → p ≡ StoreEnded stop → ⊥)
      → Pays lim (units + 1) (after p rest units began cursors old)
  step_pays (Start at) rest units began cursors old lt over goes =
      start_pays (thread_with rest (Start at) units began cursors) (start_next program t at old) lt
  step_pays (positions.Access at) rest units began cursors old lt over goes =
      access_pays (thread_with rest (positions.Access at) units began cursors) (access_next at old) lt
  step_pays (Malloc at) rest units began cursors old lt over goes =
      malloc_pays (thread_with rest (Malloc at) units began cursors) (alloc_next lim at old) lt
  step_pays (Note at) rest units began cursors old lt over goes =
      note_pays (thread_with rest (Note at) units began cursors) (note_next lim at old) lt
  step_pays (Free at) rest units began cursors old lt over goes =
      free_pays (thread_with rest (Free at) units began cursors) (freed_address at) (free_next at old) lt
  step_pays (Spawn at) rest units began cursors old lt over goes =
      spawn_pays (thread_with rest (Spawn at) units began cursors) (spawn_next at old) lt
  step_pays (Join at) rest units began cursors old lt over goes =
      join_pays (thread_with rest (Join at) units began cursors) (join_next t at old) lt
  step_pays (DrawPrint value) rest units began cursors old lt over goes =
      going_pays lim cursors (units + 1) (told rest 0) (omega arith)
  step_pays (StoreEnded stop) rest units began cursors old lt over goes = absurd (goes stop refl)
  step_pays (Over stop) rest units began cursors old lt over goes = absurd (cc (over))
  step_pays NoRow rest units began cursors old lt over goes = absurd (cc (over))

  -- a trace that follows has no more steps than the fuel pays for, and the last
  pub trace_length : (ss : List Step) (rest : Behaviour) (p : Position) (units : ℕ) (began : Bool) (cursors : List ℕ)
      → HasPaid lim units p
      → Follows program lim t (thread_with rest p units began cursors) ss
      → length ss + units ≤ lim.fuel + 1
  trace_length [] rest (Start at) units began cursors paid follows = omega arith
  trace_length [] rest (positions.Access at) units began cursors paid follows = omega arith
  trace_length [] rest (Malloc at) units began cursors paid follows = omega arith
  trace_length [] rest (Note at) units began cursors paid follows = omega arith
  trace_length [] rest (Free at) units began cursors paid follows = omega arith
  trace_length [] rest (Spawn at) units began cursors paid follows = omega arith
  trace_length [] rest (Join at) units began cursors paid follows = omega arith
  trace_length [] rest (DrawPrint value) units began cursors paid follows = omega arith
  trace_length [] rest (StoreEnded stop) units began cursors paid follows = omega arith
  trace_length [] rest (Over stop) units began cursors paid follows = omega arith
  trace_length [] rest NoRow units began cursors paid follows = omega arith
  trace_length (s ∷ ss) rest (StoreEnded stop) units began cursors paid follows =
      let none = over_rest program lim t (thread_with rest (Over stop) units began cursors) ss refl follows.2 in
      omega (arith, ap length none)
  trace_length (s ∷ ss) rest (Over stop) units began cursors paid follows = absurd (cc (follows.0))
  trace_length (s ∷ ss) rest NoRow units began cursors paid follows = absurd (cc (follows.0))
  trace_length (s ∷ ss) rest (Start at) units began cursors paid follows =
      let a : Thread = after (Start at) rest units began cursors s.old in
      let pays = step_pays (Start at) rest units began cursors s.old paid follows.0 (λ stop e. cc) in
      let more = trace_length ss a.rest a.position a.units a.began a.cursors pays.paid follows.2 in
      omega (arith, more, pays.least)
  trace_length (s ∷ ss) rest (positions.Access at) units began cursors paid follows =
      let a : Thread = after (positions.Access at) rest units began cursors s.old in
      let pays = step_pays (positions.Access at) rest units began cursors s.old paid follows.0 (λ stop e. cc) in
      let more = trace_length ss a.rest a.position a.units a.began a.cursors pays.paid follows.2 in
      omega (arith, more, pays.least)
  trace_length (s ∷ ss) rest (Malloc at) units began cursors paid follows =
      let a : Thread = after (Malloc at) rest units began cursors s.old in
      let pays = step_pays (Malloc at) rest units began cursors s.old paid follows.0 (λ stop e. cc) in
      let more = trace_length ss a.rest a.position a.units a.began a.cursors pays.paid follows.2 in
      omega (arith, more, pays.least)
  trace_length (s ∷ ss) rest (Note at) units began cursors paid follows =
      let a : Thread = after (Note at) rest units began cursors s.old in
      let pays = step_pays (Note at) rest units began cursors s.old paid follows.0 (λ stop e. cc) in
      let more = trace_length ss a.rest a.position a.units a.began a.cursors pays.paid follows.2 in
      omega (arith, more, pays.least)
  trace_length (s ∷ ss) rest (Free at) units began cursors paid follows =
      let a : Thread = after (Free at) rest units began cursors s.old in
      let pays = step_pays (Free at) rest units began cursors s.old paid follows.0 (λ stop e. cc) in
      let more = trace_length ss a.rest a.position a.units a.began a.cursors pays.paid follows.2 in
      omega (arith, more, pays.least)
  trace_length (s ∷ ss) rest (Spawn at) units began cursors paid follows =
      let a : Thread = after (Spawn at) rest units began cursors s.old in
      let pays = step_pays (Spawn at) rest units began cursors s.old paid follows.0 (λ stop e. cc) in
      let more = trace_length ss a.rest a.position a.units a.began a.cursors pays.paid follows.2 in
      omega (arith, more, pays.least)
  trace_length (s ∷ ss) rest (Join at) units began cursors paid follows =
      let a : Thread = after (Join at) rest units began cursors s.old in
      let pays = step_pays (Join at) rest units began cursors s.old paid follows.0 (λ stop e. cc) in
      let more = trace_length ss a.rest a.position a.units a.began a.cursors pays.paid follows.2 in
      omega (arith, more, pays.least)
  trace_length (s ∷ ss) rest (DrawPrint value) units began cursors paid follows =
      let a : Thread = after (DrawPrint value) rest units began cursors s.old in
      let pays = step_pays (DrawPrint value) rest units began cursors s.old paid follows.0 (λ stop e. cc) in
      let more = trace_length ss a.rest a.position a.units a.began a.cursors pays.paid follows.2 in
      omega (arith, more, pays.least)

-- a history without the steps of one thread
abbrev without : ℕ → History → History
without n [] = []
without n (e ∷ es) = if n == e.0 then without n es else e ∷ without n es

without_length : (n : ℕ) (h : History) → length (steps_of n h) + length (without n h) ≡ length h
without_length n [] = refl
without_length n (e ∷ h) = by (n == e.0) (without_length n h)
  where
    by : (b : Bool) → length (steps_of n h) + length (without n h) ≡ length h
        → length (if b then e.1 ∷ steps_of n h else steps_of n h) + length
        (if b then without n h else e ∷ without n h) ≡ suc (length h)
    by true ih = omega arith
    by false ih = omega arith

without_none : (n : ℕ) (h : History) → steps_of n (without n h) ≡ []
without_none n [] = refl
without_none n (e ∷ h) = by (n == e.0) refl (without_none n h)
  where
    by : (b : Bool) → (n == e.0) ≡ b → steps_of n (without n h) ≡ []
        → steps_of n (if b then without n h else e ∷ without n h) ≡ []
    by true is ih = ih
    by false is ih = rw is ih

without_others : (n t : ℕ) (h : History) → (n ≡ t → ⊥) → steps_of t (without n h) ≡ steps_of t h
without_others n t [] ne = refl
without_others n t (e ∷ h) ne = by (n == e.0) refl (without_others n t h ne)
  where
    by : (b : Bool) → (n == e.0) ≡ b → steps_of t (without n h) ≡ steps_of t h
        → steps_of t (if b then without n h else e ∷ without n h) ≡
        (if t == e.0 then e.1 ∷ steps_of t h else steps_of t h)
    by true is ih = let here : n ≡ e.0 = eqb-true n e.0 is in rw (ne_eqb t e.0 (λ same. ne (here ∙ sym same))) ih
    by false is ih = ap (λ w. if t == e.0 then e.1 ∷ w else w) ih

-- a history of n threads, each with at most m steps, has at most n * m
pub history_length : (n m : ℕ) (h : History) → ((t : ℕ) → length (steps_of t h) ≤ m)
    → ((t : ℕ) → n ≤ t → steps_of t h ≡ []) → length h ≤ n * m
history_length zero m [] few none = omega arith
history_length zero m (e ∷ h) few none = absurd (cc (rw (eq-eqb e.0 e.0 refl) at (none e.0 (omega arith))))
history_length (suc n) m h few none =
    let few' : (t : ℕ) → length (steps_of t (without n h)) ≤ m = λ t. few_by t (cases_eq n t) in
    let none' : (t : ℕ) → n ≤ t → steps_of t (without n h) ≡ [] = λ t le. none_by t le (cases_eq n t) in
    let less = history_length n m (without n h) few' none' in
    omega (arith, less, few n, without_length n h)
  where
    few_by : (t : ℕ) → ((n ≡ t) ⊎ (n ≡ t → ⊥)) → length (steps_of t (without n h)) ≤ m
    few_by t (inl e) = subst (λ t. length (steps_of t (without n h)) ≤ m) e (rw (without_none n h) (omega arith))
    few_by t (inr ne) = rw (without_others n t h ne) (few t)

    none_by : (t : ℕ) → n ≤ t → ((n ≡ t) ⊎ (n ≡ t → ⊥)) → steps_of t (without n h) ≡ []
    none_by t le (inl e) = subst (λ t. steps_of t (without n h) ≡ []) e (without_none n h)
    none_by t le (inr ne) = without_others n t h ne ∙ none t (grind arith)
