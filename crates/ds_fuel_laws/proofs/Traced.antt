-- What is kept along a trace, by induction from any thread that keeps it.
use Rattle.std.proofs.Common.{◌≡◌, ℕ, ◌+◌, ◌≤◌, Bool, true, false, List, [], ◌∷◌, refl, sym}
use Rattle.std.proofs.Common.{ap, ◌∙◌, subst, arith, slice_set}
use Rattle.ds_map.specs.Bounds.{Bounds}
use Rattle.ds_map.specs.Blocks.{block_start}
use Rattle.ds_step.specs.declared.Step.{Step}
use Rattle.ds_plain.specs.declared.Stop.{Stop}
use Rattle.ds_plain.specs.declared.Stop.TheVariants.{Full}
use Rattle.ds_plain.specs.declared.StartAt.TheVariants.{LoadStart}
use Rattle.ds_plain.specs.declared.Position.{Position}
use Rattle.ds_plain.specs.declared.TrapKind.TheVariants.{BadJoin}
use Rattle.ds_plain.specs.declared.Position.TheVariants.{Start, Access, Malloc, Note, Free, Spawn, Join}
use Rattle.ds_plain.specs.declared.Position.TheVariants.{DrawPrint, StoreEnded, Over, NoRow}
use Rattle.ds_plain.specs.Behaviour.{told, place_in_text, silent, Program}
use Rattle.ds_plain.specs.Plain.{trap_stop}
use Rattle.ds_plain.specs.Starting.{StartNext, StartsOn, Begins, start_next}
use Rattle.ds_plain.specs.Spawning.{SpawnNext, SpawnsOn, SpawnTells, spawn_next}
use Rattle.ds_plain.specs.Joining.{JoinNext, JoinsOn, Joined, FailsJoin, join_next}
use Rattle.ds_plain.specs.Accessing.{AccessNext, AccessesOn, Tells, access_next}
use Rattle.ds_plain.specs.Searching.{AllocNext, Looks, Takes, TakesNone, place_behind, alloc_next}
use Rattle.ds_plain.specs.Noting.{NoteNext, NotesOn, HasNoted, HasSkipped, FailsNote, note_next}
use Rattle.ds_plain.specs.Freeing.{FreeNext, FreesOn, Freed, FailsFree, free_next}
use Rattle.ds_plain.specs.Table.{is_over}
use Rattle.ds_plain.specs.Thread.{Thread, going_on, first_thread, moved_from, moved_from_access}
use Rattle.ds_plain.specs.Thread.{moved_from_start, moved_from_spawn, moved_from_join, moved_from_malloc, trap_kind}
use Rattle.ds_plain.specs.Thread.{moved_from_note, moved_from_free, freed_address, first_cursors, Follows}
use Rattle.ds_plain.specs.Thread.{thread_after, stop_at, stop_of}
use Rattle.ds_plain.specs.Explained.{HasEnded}
use Rattle.ds_fuel_laws.specs.Fuel.{Next, StepsOn, price_of, next_from_start, next_from_access}
use Rattle.ds_fuel_laws.specs.Fuel.{next_from_spawn, next_from_join, next_from_malloc, next_from_note, next_from_free}
use Rattle.ds_fuel_laws.specs.Fuel.{once_told}
use Rattle.ds_fuel_laws.specs.Fuel.{Account, paid_for, account_from, account_after, account_of, and_paid, EndsByFuel}
use Rattle.ds_fuel_laws.proofs.Kept.{Due, Ends, Keeps, IsKept, going_keeps, stepping_keeps, failing_keeps}

-- what is paid behind a step is what was spent and one unit more
is_paid : (lim : Bounds) (account : Account) (units : ℕ) → Due lim account units
    → and_paid account.paid (price_of account.next) ≡ units + 1
is_paid lim account units due = ap (and_paid account.paid) due.priced ∙ due.sum

one_more : (lim : Bounds) (account : Account) (units : ℕ) → Due lim account units → units + 1 ≤ lim.fuel
one_more lim account units due = omega (arith, due.left)

-- so that whatever keeps what was spent keeps the account
paying : (lim : Bounds) (account : Account) (units : ℕ) (next : Next) (a : Thread) → Due lim account units
    → IsKept lim (record { paid = units + 1; next = next }) a → IsKept lim (paid_for account next) a
paying lim account units next a due keeps =
    subst (λ n. IsKept lim (record { paid = n; next = next }) a) (sym (is_paid lim account units due)) keeps

module _ (program : Program) (lim : Bounds) (t : ℕ) where
  -- STEPS

  start_keeps : (a : Thread) (next : StartNext) → a.units + 1 ≤ lim.fuel
      → IsKept lim (record { paid = a.units + 1; next = next_from_start program t next })
      (moved_from_start program lim t a next)
  start_keeps a (StartsOn at) le = stepping_keeps lim a.cursors (a.units + 1) a.rest a.began (Start at) refl le
  start_keeps a (Begins function argument) le =
      going_keeps lim a.cursors (a.units + 1) (program.behaves t function argument) le

  told_keeps : (a : Thread) (cursors : List ℕ) (answer : ℕ) → a.units + 1 ≤ lim.fuel
      → IsKept lim (record { paid = a.units + 1; next = once_told a.rest answer })
      (going_on lim cursors (a.units + 1) (told a.rest answer))
  told_keeps a cursors answer le = going_keeps lim cursors (a.units + 1) (told a.rest answer) le

  access_keeps : (a : Thread) (next : AccessNext) → a.units + 1 ≤ lim.fuel
      → IsKept lim (record { paid = a.units + 1; next = next_from_access a.rest next }) (moved_from_access lim a next)
  access_keeps a (AccessesOn at) le = stepping_keeps lim a.cursors (a.units + 1) a.rest a.began (Access at) refl le
  access_keeps a (Tells answer) le = told_keeps a a.cursors answer le

  spawn_keeps : (a : Thread) (next : SpawnNext) → a.units + 1 ≤ lim.fuel
      → IsKept lim (record { paid = a.units + 1; next = next_from_spawn a.rest next }) (moved_from_spawn lim a next)
  spawn_keeps a (SpawnsOn at) le = stepping_keeps lim a.cursors (a.units + 1) a.rest a.began (Spawn at) refl le
  spawn_keeps a (SpawnTells answer) le = told_keeps a a.cursors answer le

  join_keeps : (a : Thread) (next : JoinNext) → a.units + 1 ≤ lim.fuel
      → IsKept lim (record { paid = a.units + 1; next = next_from_join a.rest next }) (moved_from_join lim a next)
  join_keeps a (JoinsOn at) le = stepping_keeps lim a.cursors (a.units + 1) a.rest a.began (Join at) refl le
  join_keeps a Joined le = told_keeps a a.cursors 0 le
  join_keeps a (FailsJoin number) le =
      failing_keeps lim a.cursors (a.units + 1) a.rest a.began
      (StoreEnded (trap_stop (place_in_text (a.rest [])) (BadJoin number))) (refl, λ e. cc) le

  malloc_keeps : (a : Thread) (next : AllocNext) → a.units + 1 ≤ lim.fuel
      → IsKept lim (record { paid = a.units + 1; next = next_from_malloc a.rest next }) (moved_from_malloc lim a next)
  malloc_keeps a (Looks at) le = stepping_keeps lim a.cursors (a.units + 1) a.rest a.began (Malloc at) refl le
  malloc_keeps a (Takes class place life) le =
      told_keeps a (slice_set a.cursors class (place_behind lim class place)) (block_start place class) le
  malloc_keeps a TakesNone le = told_keeps a a.cursors 0 le

  note_keeps : (a : Thread) (next : NoteNext) → a.units + 1 ≤ lim.fuel
      → IsKept lim (record { paid = a.units + 1; next = next_from_note a.rest next }) (moved_from_note lim a next)
  note_keeps a (NotesOn at) le = stepping_keeps lim a.cursors (a.units + 1) a.rest a.began (Note at) refl le
  note_keeps a HasNoted le = told_keeps a a.cursors 0 le
  note_keeps a HasSkipped le = told_keeps a a.cursors 0 le
  note_keeps a (FailsNote what) le =
      failing_keeps lim a.cursors (a.units + 1) a.rest a.began
      (StoreEnded (Full (place_in_text (a.rest [])) what)) (refl, λ e. cc) le

  free_keeps : (a : Thread) (address : ℕ) (next : FreeNext) → a.units + 1 ≤ lim.fuel
      → IsKept lim (record { paid = a.units + 1; next = next_from_free a.rest next })
      (moved_from_free lim a address next)
  free_keeps a address (FreesOn at) le = stepping_keeps lim a.cursors (a.units + 1) a.rest a.began (Free at) refl le
  free_keeps a address Freed le = told_keeps a a.cursors 0 le
  free_keeps a address (FailsFree trap) le =
      failing_keeps lim a.cursors (a.units + 1) a.rest a.began
      (StoreEnded (trap_stop (place_in_text (a.rest [])) (trap_kind address trap))) (refl, λ e. cc) le

  -- behind one step of a thread
  step_keeps : (a : Thread) (p : Position) (old : ℕ) (account : Account) → Keeps lim account a.units p
      → is_over p ≡ false
      → IsKept lim (account_from program lim t a p old account) (moved_from program lim t a p old)
  step_keeps a (Start at) old account due goes =
      let next : StartNext = start_next program t at old in
      paying lim account a.units (next_from_start program t next) (moved_from_start program lim t a next) due
      (start_keeps a next (one_more lim account a.units due))
  step_keeps a (Access at) old account due goes =
      let next : AccessNext = access_next at old in
      paying lim account a.units (next_from_access a.rest next) (moved_from_access lim a next) due
      (access_keeps a next (one_more lim account a.units due))
  step_keeps a (Malloc at) old account due goes =
      let next : AllocNext = alloc_next lim at old in
      paying lim account a.units (next_from_malloc a.rest next) (moved_from_malloc lim a next) due
      (malloc_keeps a next (one_more lim account a.units due))
  step_keeps a (Note at) old account due goes =
      let next : NoteNext = note_next lim at old in
      paying lim account a.units (next_from_note a.rest next) (moved_from_note lim a next) due
      (note_keeps a next (one_more lim account a.units due))
  step_keeps a (Free at) old account due goes =
      let next : FreeNext = free_next at old in
      paying lim account a.units (next_from_free a.rest next) (moved_from_free lim a (freed_address at) next) due
      (free_keeps a (freed_address at) next (one_more lim account a.units due))
  step_keeps a (Spawn at) old account due goes =
      let next : SpawnNext = spawn_next at old in
      paying lim account a.units (next_from_spawn a.rest next) (moved_from_spawn lim a next) due
      (spawn_keeps a next (one_more lim account a.units due))
  step_keeps a (Join at) old account due goes =
      let next : JoinNext = join_next t at old in
      paying lim account a.units (next_from_join a.rest next) (moved_from_join lim a next) due
      (join_keeps a next (one_more lim account a.units due))
  step_keeps a (DrawPrint value) old account due goes =
      paying lim account a.units (once_told a.rest 0) (going_on lim a.cursors (a.units + 1) (told a.rest 0)) due
      (told_keeps a a.cursors 0 (one_more lim account a.units due))
  step_keeps a (StoreEnded stop) old account ends goes = ends
  step_keeps a (Over stop) old account ends goes = absurd (cc (goes))
  step_keeps a NoRow old account due goes = absurd (cc (goes))

  -- behind a trace that follows the step table, from any thread
  kept : (ss : List Step) (a : Thread) (account : Account) → IsKept lim account a → Follows program lim t a ss
      → IsKept lim (account_after program lim t a account ss) (thread_after program lim t a ss)
  kept [] a account keeps follows = keeps
  kept (s ∷ ss) a account keeps follows =
      kept ss (moved_from program lim t a a.position s.old) (account_from program lim t a a.position s.old account)
      (step_keeps a a.position s.old account keeps follows.0) follows.2

-- THE LAWS

-- a thread that has ended
has_ended : (lim : Bounds) (account : Account) (p : Position) (units : ℕ) (began : Bool) (stop : Stop)
    → Keeps lim account units p → stop_at began p ≡ stop → HasEnded stop → Ends lim account units stop
has_ended lim account (Start at) units began stop keeps is ended = absurd (subst HasEnded (sym is) ended)
has_ended lim account (Access at) units began stop keeps is ended = absurd (subst HasEnded (sym is) ended)
has_ended lim account (Malloc at) units began stop keeps is ended = absurd (subst HasEnded (sym is) ended)
has_ended lim account (Note at) units began stop keeps is ended = absurd (subst HasEnded (sym is) ended)
has_ended lim account (Free at) units began stop keeps is ended = absurd (subst HasEnded (sym is) ended)
has_ended lim account (Spawn at) units began stop keeps is ended = absurd (subst HasEnded (sym is) ended)
has_ended lim account (Join at) units began stop keeps is ended = absurd (subst HasEnded (sym is) ended)
has_ended lim account (DrawPrint value) units began stop keeps is ended = absurd (subst HasEnded (sym is) ended)
has_ended lim account (StoreEnded stop') units true stop keeps is ended = absurd (subst HasEnded (sym is) ended)
has_ended lim account (StoreEnded stop') units false stop keeps is ended = absurd (subst HasEnded (sym is) ended)
has_ended lim account (Over stop') units began stop keeps is ended = subst (Ends lim account units) is keeps
has_ended lim account NoRow units began stop keeps is ended = absurd (subst HasEnded (sym is) ended)

within : (lim : Bounds) (account : Account) (p : Position) (units : ℕ) → Keeps lim account units p
    → units ≤ lim.fuel
within lim account (Start at) units keeps = omega (arith, keeps.left)
within lim account (Access at) units keeps = omega (arith, keeps.left)
within lim account (Malloc at) units keeps = omega (arith, keeps.left)
within lim account (Note at) units keeps = omega (arith, keeps.left)
within lim account (Free at) units keeps = omega (arith, keeps.left)
within lim account (Spawn at) units keeps = omega (arith, keeps.left)
within lim account (Join at) units keeps = omega (arith, keeps.left)
within lim account (DrawPrint value) units keeps = omega (arith, keeps.left)
within lim account (StoreEnded stop) units keeps = keeps.within
within lim account (Over stop) units keeps = keeps.within
within lim account NoRow units keeps = omega (arith, keeps.left)

module _ (program : Program) (lim : Bounds) (t : ℕ) (trace : List Step)
    (follows : Follows program lim t (first_thread lim) trace) where
  abbrev last : Thread
  last = thread_after program lim t (first_thread lim) trace

  from_first : IsKept lim (account_of program lim t trace) last
  from_first =
      kept program lim t trace (first_thread lim) (record { paid = 0; next = StepsOn })
      (stepping_keeps lim first_cursors 0 silent false (Start LoadStart) refl (omega arith)) follows

  pub ends_by_fuel : (stop : Stop) → stop_of last ≡ stop → HasEnded stop → EndsByFuel program lim t trace stop
  ends_by_fuel stop is ended =
      let ends = has_ended lim (account_of program lim t trace) last.position last.units last.began stop from_first is
      ended in
      record { exactly = ends.exactly; all_spent = ends.all_spent; as_asked = ends.as_asked }

  pub paid_within : last.units ≤ lim.fuel
  paid_within = within lim (account_of program lim t trace) last.position last.units from_first
