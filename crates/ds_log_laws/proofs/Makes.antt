-- What a step makes of the logs, and each row that is none of a note.
use Rattle.std.proofs.Common.{◌≡◌, ℕ, suc, ◌+◌, ◌*◌, ◌<◌, ◌≤◌, ◌==◌, true, nat_lt}
use Rattle.std.proofs.Common.{List, refl, sym, ◌∙◌, subst, inl, arith, ltb-true, slice_set}
use Rattle.std.proofs.lemmas.Bool.{and_parts}
use Rattle.ds_map.specs.Bounds.{Bounds, IsInRange}
use Rattle.ds_map.specs.Blocks.{block_start}
use Rattle.ds_map.specs.Regions.{heap, lies_in}
use Rattle.ds_step.specs.declared.Step.{Step}
use Rattle.ds_step.specs.Word.{words_after}
use Rattle.ds_plain.specs.declared.Stop.{Stop}
use Rattle.ds_plain.specs.declared.Search.{Search}
use Rattle.ds_plain.specs.declared.StartAt.{StartAt}
use Rattle.ds_plain.specs.declared.SpawnAt.{SpawnAt}
use Rattle.ds_plain.specs.declared.SpawnAt.TheVariants as spawns
use Rattle.ds_plain.specs.declared.JoinAt.{JoinAt}
use Rattle.ds_plain.specs.declared.AccessAt.{AccessAt}
use Rattle.ds_plain.specs.declared.AllocAt.{AllocAt}
use Rattle.ds_plain.specs.declared.AllocAt.TheVariants as allocs
use Rattle.ds_plain.specs.declared.FreeAt.{FreeAt}
use Rattle.ds_plain.specs.declared.FreeAt.TheVariants as frees
use Rattle.ds_plain.specs.declared.Position.{Position}
use Rattle.ds_plain.specs.declared.Position.TheVariants.{Start, Access, Malloc, Free, Spawn, Join}
use Rattle.ds_plain.specs.declared.Position.TheVariants.{DrawPrint, StoreEnded}
use Rattle.ds_plain.specs.Behaviour.{told, Program}
use Rattle.ds_plain.specs.Starting.{StartNext, StartsOn, Begins, start_next}
use Rattle.ds_plain.specs.Spawning.{SpawnNext, SpawnsOn, SpawnTells, spawn_next}
use Rattle.ds_plain.specs.Joining.{JoinNext, JoinsOn, Joined, FailsJoin, join_next}
use Rattle.ds_plain.specs.Accessing.{AccessNext, AccessesOn, Tells, access_next}
use Rattle.ds_plain.specs.Searching.{AllocNext, Looks, Takes, TakesNone, place_behind, alloc_next, visits}
use Rattle.ds_plain.specs.Searching.{behind_page, behind_block, PageSeen, Unsized, Wanted, Other}
use Rattle.ds_plain.specs.Searching.{NoPageWord, page_seen, BlockSeen, Unused, Used, NoBlockWord, block_seen}
use Rattle.ds_plain.specs.Searching.{behind_page_load, behind_page_swap, behind_block_load, behind_block_swap}
use Rattle.ds_plain.specs.Searching.{end_index, place_in_search}
use Rattle.ds_plain.specs.Freeing as freeing
use Rattle.ds_plain.specs.Freeing.{FreeNext, FreesOn, Freed, FailsFree, StartSeen, LifeSeen, free_op, free_next}
use Rattle.ds_plain.specs.Freeing.{is_freeable}
use Rattle.ds_plain.specs.Freeing.{behind_start_load, behind_life_load, behind_life_swap, start_seen, life_seen}
use Rattle.ds_plain.specs.Table.{op_at, event_at}
use Rattle.ds_plain.specs.Thread.{Thread, standing, going_on, moved_from, moved_from_start, moved_from_access}
use Rattle.ds_plain.specs.Thread.{moved_from_malloc, moved_from_free, moved_from_spawn, moved_from_join, freed_address}
use Rattle.ds_log_laws.proofs.Choices.{of_if, of_test}
use Rattle.ds_log_laws.proofs.Places.{first_small, end_small, IsStartInside, start_inside}
use Rattle.ds_log_laws.proofs.Links.{Logs, Counted, Past, past_behind, IsQuiet, quiet_past, IsLooking, IsFreeing}
use Rattle.ds_log_laws.proofs.Links.{IsSpawning, KeptAll, OwnsAll, Stands, IsLinked, kept_owns, standing_linked}
use Rattle.ds_log_laws.proofs.Links.{going_linked}
use Rattle.ds_log_laws.proofs.Others.{Passes, SamePlace, later_same, same_holds, kept_on, own_on, ended_on}
use Rattle.ds_log_laws.proofs.Quiet.{start_quiet, access_quiet, malloc_quiet, free_quiet, spawn_quiet, join_quiet}
use Rattle.ds_log_laws.proofs.Words.{SameLogs, start_same, access_same, malloc_same, free_same, spawn_same, join_same}
use Rattle.ds_log_laws.proofs.Words.{print_same, ended_same}

-- A step of thread t, which leaves these words and these logs, leads it there, where it has told so much: they go
-- together as before, and what is the others' is left.
pub record Makes (lim : Bounds) (traces : List (List Step)) (t : ℕ) (words words' : List ℕ) (logs logs' : Logs)
    (past' : Past) (lives' : ℕ → ℕ) (a : Thread) : Type 0 where
  pub counted : Counted lim traces words' logs'
  pub linked : IsLinked lim traces words' logs' t past' lives' a
  pub passes : Passes lim t words words' logs logs'

module _ (lim : Bounds) (traces : List (List Step)) (t : ℕ) (words words' : List ℕ) (logs : Logs) (past : Past)
    (lives lives' : ℕ → ℕ) where
  -- a step that leaves the words of the logs as they are
  pub quiet_makes : (past' : Past) (a : Thread) → SameLogs lim words words' → Counted lim traces words logs
      → IsLinked lim traces words' logs t past' lives' a
      → Makes lim traces t words words' logs logs past' lives' a
  quiet_makes past' a same counted linked = record {
    counted = record {
      counter = same.counter ∙ counted.counter;
      distinct = counted.distinct;
      each = counted.each;
    };
    linked = linked;
    passes = record {
      homes = λ u place few inside ne. same.homes u place few inside;
      headers = λ log drawn few ne. same.headers log few;
      entries = λ log n drawn few ne lt. same.entries log n few lt;
      later = later_same logs;
      drawn = λ n lt. inl lt;
    };
  }

  module _ (few : t < 16) (grown : (place : ℕ) → lives place ≤ lives' place) (same : SameLogs lim words words') where
    same_place : (place : ℕ) → place < 256 * lim.pages
        → SamePlace lim traces words words' logs logs t past past lives lives' place
    same_place place inside = record {
      home_is = same.homes t place few inside;
      before = λ has. has;
      headers = λ log drawn few' place_is owner_is. same.headers log few';
      holds = λ log life used drawn few' place_is owner_is header_is used_few.
          same_holds lim words words' log log used (λ n lt. same.entries log n few' (omega (arith, lt, used_few)));
      noted = λ life. refl;
      has = λ life loc. refl;
      seen = omega arith;
      seen_now = λ now. omega (arith, now, grown place);
    }

    pub quiet_owns : OwnsAll lim traces words logs t past lives → OwnsAll lim traces words' logs t past lives'
    quiet_owns owns place inside =
        own_on lim traces words words' logs logs t past past lives lives' place (later_same logs)
        (same_place place inside) (owns place inside)

    pub quiet_kept : KeptAll lim traces words logs t past lives → KeptAll lim traces words' logs t past lives'
    quiet_kept kept place inside =
        kept_on lim traces words words' logs logs t past past lives lives' place (later_same logs)
        (same_place place inside) (kept place inside)

-- WHERE THE WALKS GO

abbrev Looking : AllocNext → Type 0
Looking (Looks at) = IsLooking at
Looking (Takes class place life) = Unit {0}
Looking TakesNone = Unit {0}

module _ (lim : Bounds) where
  page_looks : (search' : Search) → Looking (behind_page lim search')
  page_looks search' =
      of_if Looking (nat_lt (suc search'.passed) (visits lim search'))
      (Looks (allocs.LoadPage (record search' { passed = suc search'.passed }))) TakesNone tt tt

  block_looks : (search' : Search) (index : ℕ) → Looking (behind_block lim search' index)
  block_looks search' index =
      of_test Looking (nat_lt (suc index) (end_index lim search'))
      (Looks (allocs.LoadBlock search' (suc index))) (behind_page lim search')
      (λ e. let lt = ltb-true (suc index) (end_index lim search') e in
      let few = end_small lim search' in
      omega (arith, lt, few)) (λ e. page_looks search')

  page_load_looks : (search' : Search) (seen : PageSeen) → Looking (behind_page_load lim search' seen)
  page_load_looks search' Unsized = tt
  page_load_looks search' Wanted = first_small search'
  page_load_looks search' Other = page_looks _
  page_load_looks search' NoPageWord = tt

  page_swap_looks : (search' : Search) (seen : PageSeen) → Looking (behind_page_swap lim search' seen)
  page_swap_looks search' Unsized = first_small search'
  page_swap_looks search' Wanted = first_small search'
  page_swap_looks search' Other = page_looks _
  page_swap_looks search' NoPageWord = tt

  block_load_looks : (search' : Search) (index : ℕ) → index < 256 → (seen : BlockSeen)
      → Looking (behind_block_load lim search' index seen)
  block_load_looks search' index lt (Unused life) = lt
  block_load_looks search' index lt Used = block_looks search' index
  block_load_looks search' index lt NoBlockWord = lt

  block_swap_looks : (search' : Search) (index life : ℕ) → index < 256 → (seen : BlockSeen)
      → Looking (behind_block_swap lim search' index life seen)
  block_swap_looks search' index life lt (Unused seen) =
      of_if Looking (seen == life) (Takes search'.class (place_in_search lim search' index) (suc life))
      (Looks (allocs.SwapBlock search' index seen)) tt lt
  block_swap_looks search' index life lt Used = block_looks search' index
  block_swap_looks search' index life lt NoBlockWord = lt

  malloc_looks : (at : AllocAt) (old : ℕ) → IsLooking at → Looking (alloc_next lim at old)
  malloc_looks (allocs.LoadPage search') old looks = page_load_looks search' (page_seen search'.class old)
  malloc_looks (allocs.SwapPage search') old looks = page_swap_looks search' (page_seen search'.class old)
  malloc_looks (allocs.LoadBlock search' index) old looks = block_load_looks search' index looks (block_seen old)
  malloc_looks (allocs.SwapBlock search' index life) old looks =
      block_swap_looks search' index life looks (block_seen old)

  abbrev Frees : FreeNext → Type 0
  Frees (FreesOn at) = IsFreeing lim at
  Frees Freed = Unit {0}
  Frees (FailsFree trap) = Unit {0}

  start_frees : (address : ℕ) (seen : StartSeen) → is_freeable lim address ≡ true → IsStartInside lim seen
      → Frees (behind_start_load address seen)
  start_frees address (freeing.StartOf place) freeable inside = inside
  start_frees address freeing.NoStart freeable inside = tt
  start_frees address freeing.NoPageWord freeable inside = freeable

  life_frees : (address place old : ℕ) (seen : LifeSeen) → place < 256 * lim.pages
      → Frees (behind_life_load address place old seen)
  life_frees address place old (freeing.LiveIn life) inside = inside
  life_frees address place old freeing.NotLive inside = tt
  life_frees address place old freeing.NoBlockWord inside = inside

  swap_frees : (address place life old : ℕ) (seen : LifeSeen) → place < 256 * lim.pages
      → Frees (behind_life_swap address place life old seen)
  swap_frees address place life old (freeing.LiveIn seen) inside =
      of_if Frees (seen == life) (FreesOn (frees.StoreFree place life)) (FailsFree _) inside tt
  swap_frees address place life old freeing.NotLive inside = tt
  swap_frees address place life old freeing.NoBlockWord inside = inside

  free_goes : (at : FreeAt) (old : ℕ) → IsFreeing lim at → Frees (free_next at old)
  free_goes (frees.LoadPage address) old freeable =
      start_frees address (start_seen address old) freeable
      (start_inside lim address old (and_parts (lies_in (heap lim) address) _ freeable).0)
  free_goes (frees.LoadBlock address place) old inside = life_frees address place old (life_seen old) inside
  free_goes (frees.SwapBlock address place life) old inside = swap_frees address place life old (life_seen old) inside
  free_goes (frees.StoreFree place life) old inside = tt

abbrev Spawning : SpawnNext → Type 0
Spawning (SpawnsOn at) = IsSpawning at
Spawning (SpawnTells answer) = Unit {0}

spawn_goes : (at : SpawnAt) (old : ℕ) → IsSpawning at → Spawning (spawn_next at old)
spawn_goes (spawns.DrawThread loc function arg) old few =
    of_test Spawning (nat_lt old 16) (SpawnsOn (spawns.StoreNumber old loc function arg)) (SpawnTells 11)
    (λ e. ltb-true old 16 e) (λ e. tt)
spawn_goes (spawns.StoreNumber n loc function arg) old few = few
spawn_goes (spawns.StoreFunction n function arg) old few = few
spawn_goes (spawns.StoreArgument n arg) old few = few
spawn_goes (spawns.OpenThread n) old few = tt

-- WHERE THE THREAD GOES

module _ (program : Program) (lim : Bounds) (traces : List (List Step)) (words : List ℕ) (logs : Logs) (t : ℕ)
    (past : Past) (lives : ℕ → ℕ) (a : Thread) (owns : OwnsAll lim traces words logs t past lives) where
  abbrev Links : Thread → Type 0
  Links b = IsLinked lim traces words logs t past lives b

  abbrev on : (p : Position) → Stands lim traces words logs t past lives p
      → Links (standing lim a.cursors a.rest (a.units + 1) a.began p)
  on p here = standing_linked lim traces words logs t past lives a.cursors a.rest (a.units + 1) a.began p here

  abbrev told_on : (cursors : List ℕ) (answer : ℕ) → Links (going_on lim cursors (a.units + 1) (told a.rest answer))
  told_on cursors answer =
      going_linked lim traces words logs t past lives cursors (a.units + 1) (told a.rest answer) owns

  pub start_links : (next : StartNext) → Links (moved_from_start program lim t a next)
  start_links (StartsOn at) = on (Start at) owns
  start_links (Begins function argument) =
      going_linked lim traces words logs t past lives a.cursors (a.units + 1) (program.behaves t function argument) owns

  pub access_links : (next : AccessNext) → Links (moved_from_access lim a next)
  access_links (AccessesOn at) = on (Access at) owns
  access_links (Tells answer) = told_on a.cursors answer

  pub malloc_links : (next : AllocNext) → Looking next → Links (moved_from_malloc lim a next)
  malloc_links (Looks at) looks = on (Malloc at) (owns, looks)
  malloc_links (Takes class place life) looks =
      told_on (slice_set a.cursors class (place_behind lim class place)) (block_start place class)
  malloc_links TakesNone looks = told_on a.cursors 0

  pub free_links : (address : ℕ) (next : FreeNext) → Frees lim next → Links (moved_from_free lim a address next)
  free_links address (FreesOn at) frees' = on (Free at) (owns, frees')
  free_links address Freed frees' = told_on a.cursors 0
  free_links address (FailsFree trap) frees' = (tt, kept_owns lim traces words logs t past lives owns)

  pub spawn_links : (next : SpawnNext) → Spawning next → Links (moved_from_spawn lim a next)
  spawn_links (SpawnsOn at) few = on (Spawn at) (owns, few)
  spawn_links (SpawnTells answer) few = told_on a.cursors answer

  pub join_links : (next : JoinNext) → Links (moved_from_join lim a next)
  join_links (JoinsOn at) = on (Join at) owns
  join_links Joined = told_on a.cursors 0
  join_links (FailsJoin number) = (tt, kept_owns lim traces words logs t past lives owns)

-- EACH ROW

module _ (program : Program) (lim : Bounds) (range : IsInRange lim) (traces : List (List Step)) (words : List ℕ)
    (logs : Logs) (t : ℕ) (past : Past) (lives lives' : ℕ → ℕ) (few : t < 16) (a : Thread) (old : ℕ)
    (counted : Counted lim traces words logs) (grown : (place : ℕ) → lives place ≤ lives' place) where
  abbrev after : Position → List ℕ
  after p = words_after words (op_at lim t p)

  abbrev told_at : Position → Past
  told_at p = past_behind (event_at lim t p old) past

  abbrev Quiet : Position → Type 0
  Quiet p = Makes lim traces t words (after p) logs logs (told_at p) lives' (moved_from program lim t a p old)

  abbrev Links' : Position → Type 0
  Links' p = Stands lim traces words logs t past lives p

  -- all is owned behind the step, and so the thread is linked
  quiet : (p : Position) → SameLogs lim words (after p) → IsQuiet (event_at lim t p old)
      → OwnsAll lim traces words logs t past lives
      → (OwnsAll lim traces (after p) logs t past lives'
      → IsLinked lim traces (after p) logs t past lives' (moved_from program lim t a p old)) → Quiet p
  quiet p same is_quiet owns links =
      quiet_makes lim traces t words (after p) logs past lives lives' (told_at p) (moved_from program lim t a p old)
      same counted
      (subst (λ told. IsLinked lim traces (after p) logs t told lives' (moved_from program lim t a p old))
      (sym (quiet_past (event_at lim t p old) past is_quiet))
      (links (quiet_owns lim traces t words (after p) logs past lives lives' few grown same owns)))

  pub start_makes : (at : StartAt) → Links' (Start at) → Quiet (Start at)
  start_makes at owns =
      quiet (Start at) (start_same lim words t at) (start_quiet t at old) owns
      (λ owns'. start_links program lim traces (after (Start at)) logs t past lives' a owns'
      (start_next program t at old))

  pub access_makes : (at : AccessAt) → Links' (Access at) → Quiet (Access at)
  access_makes at owns =
      quiet (Access at) (access_same lim words at) (access_quiet at old) owns
      (λ owns'. access_links program lim traces (after (Access at)) logs t past lives' a owns' (access_next at old))

  pub malloc_makes : (at : AllocAt) → Links' (Malloc at) → Quiet (Malloc at)
  malloc_makes at l =
      quiet (Malloc at) (malloc_same lim words range.some_page at l.1) (malloc_quiet lim at old) l.0
      (λ owns'. malloc_links program lim traces (after (Malloc at)) logs t past lives' a owns' (alloc_next lim at old)
      (malloc_looks lim at old l.1))

  pub free_makes : (at : FreeAt) → Links' (Free at) → Quiet (Free at)
  free_makes at l =
      quiet (Free at) (free_same lim words at l.1) (free_quiet at old) l.0
      (λ owns'. free_links program lim traces (after (Free at)) logs t past lives' a owns' (freed_address at)
      (free_next at old) (free_goes lim at old l.1))

  pub spawn_makes : (at : SpawnAt) → Links' (Spawn at) → Quiet (Spawn at)
  spawn_makes at l =
      quiet (Spawn at) (spawn_same lim words at l.1) (spawn_quiet at old) l.0
      (λ owns'. spawn_links program lim traces (after (Spawn at)) logs t past lives' a owns' (spawn_next at old)
      (spawn_goes at old l.1))

  pub join_makes : (at : JoinAt) → Links' (Join at) → Quiet (Join at)
  join_makes at owns =
      quiet (Join at) (join_same lim words at) (join_quiet t at old) owns
      (λ owns'. join_links program lim traces (after (Join at)) logs t past lives' a owns' (join_next t at old))

  pub print_makes : (value : ℕ) → Links' (DrawPrint value) → Quiet (DrawPrint value)
  print_makes value owns =
      quiet (DrawPrint value) (print_same lim words _) tt owns
      (λ owns'. going_linked lim traces (after (DrawPrint value)) logs t past lives' a.cursors (a.units + 1)
      (told a.rest 0) owns')

  pub end_makes : (stop : Stop) → Links' (StoreEnded stop) → Quiet (StoreEnded stop)
  end_makes stop ends =
      quiet_makes lim traces t words (after (StoreEnded stop)) logs past lives lives' past
      (moved_from program lim t a (StoreEnded stop) old) (ended_same lim words t _ few) counted (
        ended_on lim traces words (after (StoreEnded stop)) logs t past lives lives' stop ends.0,
        quiet_kept lim traces t words (after (StoreEnded stop)) logs past lives lives' few grown
            (ended_same lim words t _ few) ends.1,
      )
