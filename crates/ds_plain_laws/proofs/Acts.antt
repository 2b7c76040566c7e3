-- The steps of a thread that runs and starts none: where they lead it, and that they leave the words of the threads
-- alone.
use Rattle.std.proofs.Common.{◌≡◌, ℕ, ◌+◌, ◌^◌, ◌<◌, ◌==◌, Bool, true, false, if◌then◌else◌, List, length}
use Rattle.std.proofs.Common.{slice_index, nat_lt, []}
use Rattle.std.proofs.Common.{slice_set, refl, sym, ◌∙◌, inl, inr, arith}
use Rattle.ds_map.specs.Bounds.{Bounds}
use Rattle.ds_map.specs.Blocks.{block_start}
use Rattle.ds_step.specs.declared.WordOp.{WordOp}
use Rattle.ds_step.specs.declared.Event.{Event}
use Rattle.ds_step.specs.Word.{words_after, answer_on}
use Rattle.ds_plain.specs.declared.Access.{Access}
use Rattle.ds_plain.specs.declared.Change.{Change}
use Rattle.ds_plain.specs.declared.Stop.TheVariants.{Full, Fuel}
use Rattle.ds_plain.specs.declared.TrapKind.TheVariants.{BadJoin}
use Rattle.ds_plain.specs.declared.AccessAt.{AccessAt}
use Rattle.ds_plain.specs.declared.AccessAt.TheVariants.{LoadWord, StoreWord, CombineWord, ReplaceWord, LoadPart}
use Rattle.ds_plain.specs.declared.AccessAt.TheVariants.{SwapPart}
use Rattle.ds_plain.specs.declared.AllocAt.{AllocAt}
use Rattle.ds_plain.specs.declared.AllocAt.TheVariants as allocs
use Rattle.ds_plain.specs.declared.ListAt.TheVariants.{LoadHome, DrawLog, StoreHeader, StoreHome, LoadHeader}
use Rattle.ds_plain.specs.declared.NoteAt.{NoteAt}
use Rattle.ds_plain.specs.declared.NoteAt.TheVariants.{Seek, StoreLife, StoreEntry, CountEntry}
use Rattle.ds_plain.specs.declared.NoteAt.TheVariants as notes
use Rattle.ds_plain.specs.declared.FreeAt.{FreeAt}
use Rattle.ds_plain.specs.declared.FreeAt.TheVariants as frees
use Rattle.ds_plain.specs.declared.JoinAt.{JoinAt}
use Rattle.ds_plain.specs.declared.JoinAt.TheVariants.{LoadGiven, LoadEnded}
use Rattle.ds_plain.specs.declared.Position.{Position}
use Rattle.ds_plain.specs.declared.Position.TheVariants.{Malloc, Note, Free, Join, DrawPrint, StoreEnded}
use Rattle.ds_plain.specs.declared.Position.TheVariants as positions
use Rattle.ds_plain.specs.Behaviour.{Behaviour, told, place_in_text}
use Rattle.ds_plain.specs.State.{State, Setting}
use Rattle.ds_plain.specs.Plain.{trap_stop, changed}
use Rattle.ds_plain.specs.Accessing.{AccessNext, AccessesOn, Tells, is_refused, change_answer, access_op, access_event}
use Rattle.ds_plain.specs.Accessing.{behind_part, access_next}
use Rattle.ds_plain.specs.Searching.{AllocNext, Looks, Takes, TakesNone, place_behind, alloc_op, alloc_event}
use Rattle.ds_plain.specs.Searching.{alloc_next}
use Rattle.ds_plain.specs.Noting.{NoteNext, NotesOn, HasNoted, HasSkipped, FailsNote, note_op, note_event, note_next}
use Rattle.ds_plain.specs.Freeing.{FreeNext, FreesOn, Freed, FailsFree, free_op, free_event, free_next}
use Rattle.ds_plain.specs.Joining.{is_bad_join, JoinsOn, Joined, FailsJoin, join_op, join_event, join_next}
use Rattle.ds_plain.specs.Table.{op_at, event_at}
use Rattle.ds_plain.specs.Thread.{Thread, standing, going_on, moved_from_access, moved_from_malloc, moved_from_note}
use Rattle.ds_plain.specs.Thread.{moved_from_free, moved_from_join, freed_address, trap_kind}
use Rattle.ds_plain_laws.proofs.Choices.{of_if}
use Rattle.ds_plain_laws.proofs.Phases.{Goes, goes_run}
use Rattle.ds_plain_laws.proofs.Links.{Linked, LinkedAt, note_begun}
use Rattle.ds_plain_laws.proofs.Makes.{Makes, Before, print_makes}
use Rattle.ds_plain_laws.proofs.Accesses.{access_makes}
use Rattle.ds_plain_laws.proofs.Mallocs.{malloc_makes}
use Rattle.ds_plain_laws.proofs.Notes.{note_makes}
use Rattle.ds_plain_laws.proofs.Frees.{free_makes}
use Rattle.ds_plain_laws.proofs.Joins.{good_by, join_makes}
use Rattle.ds_plain_laws.proofs.Seats.{IsSeated, Seats}
use Rattle.ds_plain_laws.proofs.Moves.{Moves, IsOfThreads, apart_kept, load_kept, IsQuiet, Lands, WaitsNot}
use Rattle.ds_plain_laws.proofs.Moves.{standing_lands, standing_not, going_lands, going_not, lands_goes, quiet_seated}
use Rattle.ds_plain_laws.proofs.Moves.{quiet_moves}

-- a thread that runs stands there, and in the midst of no wait
record Rests (a : Thread) : Type 0 where
  lands : Lands a
  waits : WaitsNot a.position

module _ (lim : Bounds) (cursors : List ℕ) where
  going_rests : (units : ℕ) (rest : Behaviour) → Rests (going_on lim cursors units rest)
  going_rests units rest =
      record { lands = going_lands lim cursors units rest; waits = going_not lim cursors units rest }

  standing_rests : (rest : Behaviour) (units : ℕ) (began : Bool) (p : Position) → began ≡ true → IsQuiet p
      → WaitsNot p → Rests (standing lim cursors rest units began p)
  standing_rests rest units began p b quiet waits = record {
    lands = standing_lands lim cursors rest units began p b quiet;
    waits = standing_not lim cursors rest units began p waits;
  }

module _ (setting : Setting) (t : ℕ) (words : List ℕ) (s : State) (threads : ℕ → Thread) (maker : ℕ → ℕ)
    (before : Before setting words s) (seats : Seats words s threads maker) (few : t < 16)
    (rest : Behaviour) (units : ℕ) (began : Bool) (cursors : List ℕ) where
  abbrev lim : Bounds
  lim = setting.lim

  abbrev thread : Position → Thread
  thread p = record { rest = rest; position = p; units = units; began = began; cursors = cursors }

  abbrev Links : Position → Type 0
  Links p = LinkedAt setting.program lim t rest began s cursors p

  abbrev IsKeptBy : WordOp → Type 0
  IsKeptBy op = (i : ℕ) → IsOfThreads i → slice_index (words_after words op) i ≡ slice_index words i

  -- ACCESSES

  access_kept : (at : AccessAt) → IsKeptBy (access_op lim at)
  access_kept (LoadWord loc) = λ i which. apart_kept words (access_op lim (LoadWord loc)) i (inr (omega arith)) which
  access_kept (StoreWord loc value) =
      λ i which. apart_kept words (access_op lim (StoreWord loc value)) i (inr (omega arith)) which
  access_kept (CombineWord loc op value) =
      λ i which. apart_kept words (access_op lim (CombineWord loc op value)) i (inr (omega arith)) which
  access_kept (ReplaceWord loc expected new) =
      λ i which. apart_kept words (access_op lim (ReplaceWord loc expected new)) i (inr (omega arith)) which
  access_kept (LoadPart access change) =
      λ i which. apart_kept words (access_op lim (LoadPart access change)) i (inr (omega arith)) which
  access_kept (SwapPart access change seen) =
      λ i which. apart_kept words (access_op lim (SwapPart access change seen)) i (inr (omega arith)) which

  part_rests : (a : Thread) (access : Access) (change : Change) (word : ℕ) → a.began ≡ true
      → Rests (moved_from_access lim a (behind_part access change word))
  part_rests a access change word b =
      of_if (λ (next : AccessNext). Rests (moved_from_access lim a next)) (is_refused access change word) (Tells word)
      (AccessesOn (SwapPart access change word)) (going_rests lim a.cursors (a.units + 1) (told a.rest word))
      (standing_rests lim a.cursors a.rest (a.units + 1) a.began (positions.Access (SwapPart access change word)) b tt
      (λ n is. cc))

  access_rests : (at : AccessAt) (old : ℕ) → Linked setting.program lim t rest began s (positions.Access at)
      → Rests (moved_from_access lim (thread (positions.Access at)) (access_next at old))
  access_rests (LoadWord loc) old l = going_rests lim cursors (units + 1) (told rest old)
  access_rests (StoreWord loc value) old l = going_rests lim cursors (units + 1) (told rest 0)
  access_rests (CombineWord loc op value) old l = going_rests lim cursors (units + 1) (told rest old)
  access_rests (ReplaceWord loc expected new) old l = going_rests lim cursors (units + 1) (told rest old)
  access_rests (LoadPart access change) old l =
      part_rests (thread (positions.Access (LoadPart access change))) access change old l.has_begun
  access_rests (SwapPart access change seen) old l =
      let a : Thread = thread (positions.Access (SwapPart access change seen)) in
      of_if (λ (next : AccessNext). Rests (moved_from_access lim a next)) (old == seen)
      (Tells (change_answer change seen)) (behind_part access change old)
      (going_rests lim cursors (units + 1) (told rest (change_answer change seen)))
      (part_rests a access change old l.0.has_begun)

  -- MALLOCS, NOTES AND FREES

  malloc_kept : (at : AllocAt) → IsKeptBy (alloc_op lim at)
  malloc_kept (allocs.LoadPage search) =
      λ i which. apart_kept words (alloc_op lim (allocs.LoadPage search)) i (inr (omega arith)) which
  malloc_kept (allocs.SwapPage search) =
      λ i which. apart_kept words (alloc_op lim (allocs.SwapPage search)) i (inr (omega arith)) which
  malloc_kept (allocs.LoadBlock search index) =
      λ i which. apart_kept words (alloc_op lim (allocs.LoadBlock search index)) i (inr (omega arith)) which
  malloc_kept (allocs.SwapBlock search index life) =
      λ i which. apart_kept words (alloc_op lim (allocs.SwapBlock search index life)) i (inr (omega arith)) which

  malloc_rests : (a : Thread) (next : AllocNext) → a.began ≡ true → Rests (moved_from_malloc lim a next)
  malloc_rests a (Looks at) b =
      standing_rests lim a.cursors a.rest (a.units + 1) a.began (Malloc at) b tt (λ n is. cc)
  malloc_rests a (Takes class place life) b =
      going_rests lim (slice_set a.cursors class (place_behind lim class place)) (a.units + 1)
      (told a.rest (block_start place class))
  malloc_rests a TakesNone b = going_rests lim a.cursors (a.units + 1) (told a.rest 0)

  note_kept : (at : NoteAt) → IsKeptBy (note_op lim t at)
  note_kept (notes.LoadPage loc value) =
      λ i which. apart_kept words (note_op lim t (notes.LoadPage loc value)) i (inr (omega arith)) which
  note_kept (notes.LoadBlock loc place start) =
      λ i which. apart_kept words (note_op lim t (notes.LoadBlock loc place start)) i (inr (omega arith)) which
  note_kept (Seek loc (LoadHome place life)) =
      λ i which. apart_kept words (note_op lim t (Seek loc (LoadHome place life))) i (inr (omega arith)) which
  note_kept (Seek loc (DrawLog place life)) =
      λ i which.
      apart_kept words (note_op lim t (Seek loc (DrawLog place life))) i (inl (omega arith, omega arith)) which
  note_kept (Seek loc (StoreHeader place life log)) =
      λ i which. apart_kept words (note_op lim t (Seek loc (StoreHeader place life log))) i (inr (omega arith)) which
  note_kept (Seek loc (StoreHome place life log)) =
      λ i which. apart_kept words (note_op lim t (Seek loc (StoreHome place life log))) i (inr (omega arith)) which
  note_kept (Seek loc (LoadHeader place life log)) =
      λ i which. apart_kept words (note_op lim t (Seek loc (LoadHeader place life log))) i (inr (omega arith)) which
  note_kept (StoreLife loc place life log) =
      λ i which. apart_kept words (note_op lim t (StoreLife loc place life log)) i (inr (omega arith)) which
  note_kept (StoreEntry loc place life log used) =
      λ i which. apart_kept words (note_op lim t (StoreEntry loc place life log used)) i (inr (omega arith)) which
  note_kept (CountEntry loc place life log used) =
      λ i which. apart_kept words (note_op lim t (CountEntry loc place life log used)) i (inr (omega arith)) which

  note_rests : (a : Thread) (next : NoteNext) → a.began ≡ true → Rests (moved_from_note lim a next)
  note_rests a (NotesOn at) b =
      standing_rests lim a.cursors a.rest (a.units + 1) a.began (Note at) b tt (λ n is. cc)
  note_rests a HasNoted b = going_rests lim a.cursors (a.units + 1) (told a.rest 0)
  note_rests a HasSkipped b = going_rests lim a.cursors (a.units + 1) (told a.rest 0)
  note_rests a (FailsNote what) b =
      standing_rests lim a.cursors a.rest (a.units + 1) a.began
      (StoreEnded (Full (place_in_text (a.rest [])) what)) b tt (λ n is. cc)

  free_kept : (at : FreeAt) → IsKeptBy (free_op lim at)
  free_kept (frees.LoadPage address) =
      λ i which. apart_kept words (free_op lim (frees.LoadPage address)) i (inr (omega arith)) which
  free_kept (frees.LoadBlock address place) =
      λ i which. apart_kept words (free_op lim (frees.LoadBlock address place)) i (inr (omega arith)) which
  free_kept (frees.SwapBlock address place life) =
      λ i which. apart_kept words (free_op lim (frees.SwapBlock address place life)) i (inr (omega arith)) which
  free_kept (frees.StoreFree place life) =
      λ i which. apart_kept words (free_op lim (frees.StoreFree place life)) i (inr (omega arith)) which

  free_rests : (a : Thread) (address : ℕ) (next : FreeNext) → a.began ≡ true → Rests (moved_from_free lim a address next)
  free_rests a address (FreesOn at) b =
      standing_rests lim a.cursors a.rest (a.units + 1) a.began (Free at) b tt (λ n is. cc)
  free_rests a address Freed b = going_rests lim a.cursors (a.units + 1) (told a.rest 0)
  free_rests a address (FailsFree trap) b =
      standing_rests lim a.cursors a.rest (a.units + 1) a.began
      (StoreEnded (trap_stop (place_in_text (a.rest [])) (trap_kind address trap))) b tt (λ n is. cc)

  free_begun : (at : FreeAt) → Linked setting.program lim t rest began s (Free at) → began ≡ true
  free_begun (frees.LoadPage address) l = l.0.has_begun
  free_begun (frees.LoadBlock address place) l = l.0.0.has_begun
  free_begun (frees.SwapBlock address place life) l = l.0.0.asks.has_begun
  free_begun (frees.StoreFree place life) l = l.0.1.has_begun

  -- JOINS

  join_kept : (at : JoinAt) → IsKeptBy (join_op at)
  join_kept (LoadGiven number) = λ i which. load_kept words (join_op (LoadGiven number)).word i
  join_kept (LoadEnded n) = λ i which. load_kept words (join_op (LoadEnded n)).word i

  join_begun : (at : JoinAt) → Linked setting.program lim t rest began s (Join at) → began ≡ true
  join_begun (LoadGiven number) l = l.0
  join_begun (LoadEnded n) l = l.0

  -- it lands, and where it waits the thread was given out
  record Awaits (words' : List ℕ) (s' : State) (a : Thread) : Type 0 where
    lands : Lands a
    seat : s'.given ≡ s.given → IsSeated words' s' maker t a.position

  rests_await : (words' : List ℕ) (s' : State) (a : Thread) → Rests a → Awaits words' s' a
  rests_await words' s' a rests = record {
    lands = rests.lands;
    seat = λ same. quiet_seated words' s' maker t a.position rests.lands.quiet (λ n is. absurd (rests.waits n is));
  }

  on_awaits : (words' : List ℕ) (s' : State) (n : ℕ) → began ≡ true → n < 16 → n < s.given
      → Awaits words' s' (standing lim cursors rest (units + 1) began (Join (LoadEnded n)))
  on_awaits words' s' n b few_n given = record {
    lands = standing_lands lim cursors rest (units + 1) began (Join (LoadEnded n)) b tt;
    seat = λ same. of_if (λ (a : Thread). IsSeated words' s' maker t a.position) (nat_lt (units + 1) lim.fuel)
        (record {
          rest = rest;
          position = Join (LoadEnded n);
          units = units + 1;
          began = began;
          cursors = cursors;
        })
        (record {
          rest = rest;
          position = StoreEnded Fuel;
          units = units + 1;
          began = began;
          cursors = cursors;
        })
        (few_n, omega (arith, given, same)) tt;
  }

  given_awaits : (words' : List ℕ) (s' : State) (number old : ℕ) (b : Bool) → is_bad_join t number old ≡ b
      → old ≡ s.given → began ≡ true
      → Awaits words' s' (moved_from_join lim (thread (Join (LoadGiven number)))
      (if b then FailsJoin number else JoinsOn (LoadEnded number)))
  given_awaits words' s' number old true bad is b =
      rests_await words' s' _ (standing_rests lim cursors rest (units + 1) began
      (StoreEnded (trap_stop (place_in_text (rest [])) (BadJoin number))) b tt (λ n is. cc))
  given_awaits words' s' number old false bad is b =
      let good = good_by t number old bad in on_awaits words' s' number b good.0 (omega (arith, good.1, is))

  ended_awaits : (words' : List ℕ) (s' : State) (n old : ℕ) (b : Bool) → (old == 2) ≡ b → began ≡ true
      → (n < 16) × (n < s.given)
      → Awaits words' s' (moved_from_join lim (thread (Join (LoadEnded n)))
      (if b then Joined else JoinsOn (LoadEnded n)))
  ended_awaits words' s' n old true two b known =
      rests_await words' s' _ (going_rests lim cursors (units + 1) (told rest 0))
  ended_awaits words' s' n old false two b known = on_awaits words' s' n b known.0 known.1

  join_awaits : (words' : List ℕ) (s' : State) (at : JoinAt) (old : ℕ) → old ≡ answer_on words (join_op at)
      → IsSeated words s maker t (Join at) → began ≡ true
      → Awaits words' s' (moved_from_join lim (thread (Join at)) (join_next t at old))
  join_awaits words' s' (LoadGiven number) old is seat b =
      given_awaits words' s' number old (is_bad_join t number old) refl (is ∙ before.agrees.given) b
  join_awaits words' s' (LoadEnded n) old is seat b = ended_awaits words' s' n old (old == 2) refl b seat

  -- EACH SUCH STEP

  act_moves : (p : Position) (op : WordOp) (event : Event) (s' : State) (a : Thread) → IsQuiet p → Links p
      → Makes setting t words s op event s' a → IsKeptBy op → Awaits (words_after words op) s' a
      → Goes (s.threads t) → Moves setting t words s threads op event s' a
  act_moves p op event s' a quiet l makes kept awaits goes =
      let given : s'.given ≡ s.given =
      sym makes.agrees.given ∙ (kept 1 (inl refl) ∙ before.agrees.given) in
      quiet_moves setting t words s threads maker before seats few op event s' a makes kept goes awaits.lands
      (awaits.seat given)

  access_goes : (at : AccessAt) → Linked setting.program lim t rest began s (positions.Access at) → Goes (s.threads t)
  access_goes (LoadWord loc) l = goes_run rest (s.threads t) l.2.runs
  access_goes (StoreWord loc value) l = goes_run rest (s.threads t) l.3.runs
  access_goes (CombineWord loc op value) l = goes_run rest (s.threads t) l.3.runs
  access_goes (ReplaceWord loc expected new) l = goes_run rest (s.threads t) l.3.runs
  access_goes (LoadPart access change) l = goes_run rest (s.threads t) l.asking.runs
  access_goes (SwapPart access change seen) l = goes_run rest (s.threads t) l.0.asking.runs

  pub access_moves : (at : AccessAt) (old : ℕ) → old ≡ answer_on words (access_op lim at) → Links (positions.Access at)
      → Moves setting t words s threads (access_op lim at) (access_event at old)
      (changed setting s t (access_event at old))
      (moved_from_access lim (thread (positions.Access at)) (access_next at old))
  access_moves at old is l =
      act_moves (positions.Access at) (access_op lim at) (access_event at old)
      (changed setting s t (access_event at old))
      (moved_from_access lim (thread (positions.Access at)) (access_next at old)) tt l
      (access_makes setting t words s before rest units began cursors at old is l) (access_kept at)
      (rests_await _ _ _ (access_rests at old l.stands)) (access_goes at l.stands)

  pub malloc_moves : (at : AllocAt) (old : ℕ) → old ≡ answer_on words (alloc_op lim at) → Links (Malloc at)
      → Moves setting t words s threads (alloc_op lim at) (alloc_event lim at old)
      (changed setting s t (alloc_event lim at old))
      (moved_from_malloc lim (thread (Malloc at)) (alloc_next lim at old))
  malloc_moves at old is l =
      act_moves (Malloc at) (alloc_op lim at) (alloc_event lim at old) (changed setting s t (alloc_event lim at old))
      (moved_from_malloc lim (thread (Malloc at)) (alloc_next lim at old)) tt l
      (malloc_makes setting t words s before rest units began cursors at old is l) (malloc_kept at)
      (rests_await _ _ _ (malloc_rests (thread (Malloc at)) (alloc_next lim at old) l.stands.has_begun))
      (goes_run rest (s.threads t) l.stands.asking.runs)

  pub note_moves : (at : NoteAt) (old : ℕ) → old ≡ answer_on words (note_op lim t at) → Links (Note at)
      → Moves setting t words s threads (note_op lim t at) (note_event lim at old)
      (changed setting s t (note_event lim at old)) (moved_from_note lim (thread (Note at)) (note_next lim at old))
  note_moves at old is l =
      let begun : began ≡ true = note_begun lim rest began s.pages (s.threads t) at l.stands.0 in
      act_moves (Note at) (note_op lim t at) (note_event lim at old) (changed setting s t (note_event lim at old))
      (moved_from_note lim (thread (Note at)) (note_next lim at old)) tt l
      (note_makes setting t words s before few rest units began cursors at old is l) (note_kept at)
      (rests_await _ _ _ (note_rests (thread (Note at)) (note_next lim at old) begun))
      (lands_goes setting.program lim t rest began s (Note at) begun tt l.stands)

  pub free_moves : (at : FreeAt) (old : ℕ) → old ≡ answer_on words (free_op lim at) → Links (Free at)
      → Moves setting t words s threads (free_op lim at) (free_event at old) (changed setting s t (free_event at old))
      (moved_from_free lim (thread (Free at)) (freed_address at) (free_next at old))
  free_moves at old is l =
      act_moves (Free at) (free_op lim at) (free_event at old) (changed setting s t (free_event at old))
      (moved_from_free lim (thread (Free at)) (freed_address at) (free_next at old)) tt l
      (free_makes setting t words s before rest units began cursors at old is l) (free_kept at)
      (rests_await _ _ _ (free_rests (thread (Free at)) (freed_address at) (free_next at old) (free_begun at l.stands)))
      (lands_goes setting.program lim t rest began s (Free at) (free_begun at l.stands) tt l.stands)

  pub join_moves : (at : JoinAt) (old : ℕ) → old ≡ answer_on words (join_op at) → IsSeated words s maker t (Join at)
      → Links (Join at)
      → Moves setting t words s threads (join_op at) (join_event t at old) (changed setting s t (join_event t at old))
      (moved_from_join lim (thread (Join at)) (join_next t at old))
  join_moves at old is seat l =
      act_moves (Join at) (join_op at) (join_event t at old) (changed setting s t (join_event t at old))
      (moved_from_join lim (thread (Join at)) (join_next t at old)) tt l
      (join_makes setting t words s before rest units began cursors at old maker is seat seats.stopped l)
      (join_kept at)
      (join_awaits _ _ at old is seat (join_begun at l.stands))
      (lands_goes setting.program lim t rest began s (Join at) (join_begun at l.stands) tt l.stands)

  pub print_moves : (value old : ℕ) → length s.out + 1 < 2 ^ 64
      → old ≡ answer_on words (op_at lim t (DrawPrint value)) → Links (DrawPrint value)
      → Moves setting t words s threads (op_at lim t (DrawPrint value)) (event_at lim t (DrawPrint value) old)
      (changed setting s t (event_at lim t (DrawPrint value) old)) (going_on lim cursors (units + 1) (told rest 0))
  print_moves value old counts is l =
      act_moves (DrawPrint value) (op_at lim t (DrawPrint value)) (event_at lim t (DrawPrint value) old)
      (changed setting s t (event_at lim t (DrawPrint value) old)) (going_on lim cursors (units + 1) (told rest 0)) tt l
      (print_makes setting t words s before rest units began cursors value old counts is l)
      (λ i which. apart_kept words (op_at lim t (DrawPrint value)) i (inl (omega arith, omega arith)) which)
      (rests_await _ _ _ (going_rests lim cursors (units + 1) (told rest 0)))
      (goes_run rest (s.threads t) l.stands.runs)
