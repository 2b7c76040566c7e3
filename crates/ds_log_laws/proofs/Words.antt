-- What the operations of all rows but those of notes leave of the words that tell of the logs.
use Rattle.std.proofs.Common.{◌≡◌, ℕ, ◌+◌, ◌*◌, ◌<◌, ◌≤◌, List, refl, sym, subst, arith, slice_index, slice_set}
use Rattle.std.proofs.Common.{mod-lt}
use Rattle.std.proofs.lemmas.List.{get_or-set_other, set-get_or}
use Rattle.ds_map.specs.Bounds.{Bounds}
use Rattle.ds_map.specs.Blocks.{page_of}
use Rattle.ds_map.specs.Words.{first_home_word, first_program_word, word_of}
use Rattle.ds_entry.specs.Header.{log_entries}
use Rattle.ds_step.specs.Word.{words_after}
use Rattle.ds_plain.specs.declared.StartAt.{StartAt}
use Rattle.ds_plain.specs.declared.StartAt.TheVariants.{LoadStart, LoadFunction, LoadArgument}
use Rattle.ds_plain.specs.declared.SpawnAt.{SpawnAt}
use Rattle.ds_plain.specs.declared.SpawnAt.TheVariants.{DrawThread, StoreNumber, StoreFunction, StoreArgument}
use Rattle.ds_plain.specs.declared.SpawnAt.TheVariants.{OpenThread}
use Rattle.ds_plain.specs.declared.JoinAt.{JoinAt}
use Rattle.ds_plain.specs.declared.JoinAt.TheVariants.{LoadGiven, LoadEnded}
use Rattle.ds_plain.specs.declared.AccessAt.{AccessAt}
use Rattle.ds_plain.specs.declared.AccessAt.TheVariants.{LoadWord, StoreWord, CombineWord, ReplaceWord, LoadPart}
use Rattle.ds_plain.specs.declared.AccessAt.TheVariants.{SwapPart}
use Rattle.ds_plain.specs.declared.AllocAt.{AllocAt}
use Rattle.ds_plain.specs.declared.AllocAt.TheVariants as allocs
use Rattle.ds_plain.specs.declared.FreeAt.{FreeAt}
use Rattle.ds_plain.specs.declared.FreeAt.TheVariants as frees
use Rattle.ds_plain.specs.Searching.{page_in, alloc_op}
use Rattle.ds_plain.specs.Starting.{start_op}
use Rattle.ds_plain.specs.Spawning.{spawn_op}
use Rattle.ds_plain.specs.Joining.{join_op}
use Rattle.ds_plain.specs.Accessing.{access_op}
use Rattle.ds_plain.specs.Freeing.{free_op}
use Rattle.ds_plain.specs.Listing.{home_word, header_word, entry_word}
use Rattle.ds_log_laws.proofs.Links.{home, header, entry, IsLooking, IsFreeing, IsSpawning}

-- the counter of the logs, the home words, the headers and the entries are the same
pub record SameLogs (lim : Bounds) (words words' : List ℕ) : Type 0 where
  pub counter : slice_index words' 3 ≡ slice_index words 3
  pub homes : (t place : ℕ) → t < 16 → place < 256 * lim.pages → home lim words' t place ≡ home lim words t place
  pub headers : (log : ℕ) → log < lim.logs → header lim words' log ≡ header lim words log
  pub entries : (log n : ℕ) → log < lim.logs → n < log_entries → entry lim words' log n ≡ entry lim words log n

module _ (lim : Bounds) (words : List ℕ) where
  -- a load leaves all words as they are
  pub same_loaded : (i : ℕ) → SameLogs lim words (slice_set words i (slice_index words i))
  same_loaded i = subst (λ (ws : List ℕ). SameLogs lim words ws) (sym (set-get_or words i 0))
      (record {
        counter = refl;
        homes = λ t place few inside. refl;
        headers = λ log few. refl;
        entries = λ log n few lt'. refl;
      })

  -- the words before the counter
  same_before : (i v : ℕ) → i < 3 → SameLogs lim words (slice_set words i v)
  same_before i v lt = record {
    counter = get_or-set_other words i 3 v 0 (λ e. omega (arith, e, lt));
    homes = λ t place few inside. get_or-set_other words i (home_word lim t place) v 0 (λ e. omega (arith, e, lt));
    headers = λ log few. get_or-set_other words i (header_word lim log) v 0 (λ e. omega (arith, e, lt));
    entries = λ log n few lt'. get_or-set_other words i (entry_word lim log n) v 0 (λ e. omega (arith, e, lt));
  }

  -- those between it and the home words
  same_between : (i v : ℕ) → 3 < i → i < first_home_word lim → SameLogs lim words (slice_set words i v)
  same_between i v more lt = record {
    counter = get_or-set_other words i 3 v 0 (λ e. omega (arith, e, more));
    homes = λ t place few inside. get_or-set_other words i (home_word lim t place) v 0 (λ e. omega (arith, e, lt));
    headers = λ log few. get_or-set_other words i (header_word lim log) v 0 (λ e. omega (arith, e, lt));
    entries = λ log n few lt'. get_or-set_other words i (entry_word lim log n) v 0 (λ e. omega (arith, e, lt));
  }

  -- the program words
  same_behind : (i v : ℕ) → first_program_word lim ≤ i → SameLogs lim words (slice_set words i v)
  same_behind i v le = record {
    counter = get_or-set_other words i 3 v 0 (λ e. omega (arith, e, le));
    homes = λ t place few inside.
        get_or-set_other words i (home_word lim t place) v 0 (λ e. omega (arith, e, le, few, inside));
    headers = λ log few. get_or-set_other words i (header_word lim log) v 0 (λ e. omega (arith, e, le, few));
    entries = λ log n few lt'.
        get_or-set_other words i (entry_word lim log n) v 0 (λ e. omega (arith, e, le, few, lt'));
  }

  -- EACH WALK

  pub start_same : (t : ℕ) (at : StartAt) → SameLogs lim words (words_after words (start_op t at))
  start_same t LoadStart = same_loaded (start_op t LoadStart).word
  start_same t LoadFunction = same_loaded (start_op t LoadFunction).word
  start_same t (LoadArgument function) = same_loaded (start_op t (LoadArgument function)).word

  pub access_same : (at : AccessAt) → SameLogs lim words (words_after words (access_op lim at))
  access_same (LoadWord loc) = same_behind (word_of lim loc) _ (omega arith)
  access_same (StoreWord loc value) = same_behind (word_of lim loc) _ (omega arith)
  access_same (CombineWord loc op value) = same_behind (word_of lim loc) _ (omega arith)
  access_same (ReplaceWord loc expected new) = same_behind (word_of lim loc) _ (omega arith)
  access_same (LoadPart access change) = same_behind (word_of lim access.loc) _ (omega arith)
  access_same (SwapPart access change seen) = same_behind (word_of lim access.loc) _ (omega arith)

  pub malloc_same : 1 ≤ lim.pages → (at : AllocAt) → IsLooking at
      → SameLogs lim words (words_after words (alloc_op lim at))
  malloc_same some (allocs.LoadPage search) looks = same_loaded (alloc_op lim (allocs.LoadPage search)).word
  malloc_same some (allocs.SwapPage search) looks =
      let lt : page_in lim search < lim.pages = mod-lt (page_of search.first + search.passed) some in
      same_between (alloc_op lim (allocs.SwapPage search)).word _ (omega arith) (omega (arith, lt))
  malloc_same some (allocs.LoadBlock search index) looks =
      same_loaded (alloc_op lim (allocs.LoadBlock search index)).word
  malloc_same some (allocs.SwapBlock search index life) looks =
      let lt : page_in lim search < lim.pages = mod-lt (page_of search.first + search.passed) some in
      same_between (alloc_op lim (allocs.SwapBlock search index life)).word _ (omega arith) (omega (arith, lt, looks))

  pub free_same : (at : FreeAt) → IsFreeing lim at → SameLogs lim words (words_after words (free_op lim at))
  free_same (frees.LoadPage address) inside = same_loaded (free_op lim (frees.LoadPage address)).word
  free_same (frees.LoadBlock address place) inside = same_loaded (free_op lim (frees.LoadBlock address place)).word
  free_same (frees.SwapBlock address place life) inside =
      same_between (free_op lim (frees.SwapBlock address place life)).word _ (omega arith) (omega (arith, inside))
  free_same (frees.StoreFree place life) inside =
      same_between (free_op lim (frees.StoreFree place life)).word _ (omega arith) (omega (arith, inside))

  pub spawn_same : (at : SpawnAt) → IsSpawning at → SameLogs lim words (words_after words (spawn_op lim at))
  spawn_same (DrawThread loc function arg) few = same_before 1 _ (omega arith)
  spawn_same (StoreNumber n loc function arg) few = same_behind (word_of lim loc) _ (omega arith)
  spawn_same (StoreFunction n function arg) few = same_between (32 + n) _ (omega arith) (omega (arith, few))
  spawn_same (StoreArgument n arg) few = same_between (48 + n) _ (omega arith) (omega (arith, few))
  spawn_same (OpenThread n) few = same_between (16 + n) _ (omega arith) (omega (arith, few))

  pub join_same : (at : JoinAt) → SameLogs lim words (words_after words (join_op at))
  join_same (LoadGiven number) = same_loaded (join_op (LoadGiven number)).word
  join_same (LoadEnded n) = same_loaded (join_op (LoadEnded n)).word

  pub print_same : (v : ℕ) → SameLogs lim words (slice_set words 2 v)
  print_same v = same_before 2 v (omega arith)

  pub ended_same : (t v : ℕ) → t < 16 → SameLogs lim words (slice_set words (16 + t) v)
  ended_same t v few = same_between (16 + t) v (omega arith) (omega (arith, few))
