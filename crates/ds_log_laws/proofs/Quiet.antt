-- No row but those of notes finds or notes anything.
use Rattle.std.proofs.Common.{ℕ, ◌==◌, nat_lt}
use Rattle.ds_map.specs.Bounds.{Bounds}
use Rattle.ds_step.specs.declared.Event.TheVariants as events
use Rattle.ds_step.specs.declared.FullWhat.TheVariants as tables
use Rattle.ds_plain.specs.declared.Access.{Access}
use Rattle.ds_plain.specs.declared.Change.{Change}
use Rattle.ds_plain.specs.declared.Search.{Search}
use Rattle.ds_plain.specs.declared.StartAt.{StartAt}
use Rattle.ds_plain.specs.declared.StartAt.TheVariants.{LoadStart, LoadFunction, LoadArgument}
use Rattle.ds_plain.specs.declared.SpawnAt.{SpawnAt}
use Rattle.ds_plain.specs.declared.SpawnAt.TheVariants.{DrawThread, StoreNumber, StoreFunction, StoreArgument}
use Rattle.ds_plain.specs.declared.SpawnAt.TheVariants.{OpenThread}
use Rattle.ds_plain.specs.declared.JoinAt.{JoinAt}
use Rattle.ds_plain.specs.declared.JoinAt.TheVariants.{LoadGiven, LoadEnded}
use Rattle.ds_plain.specs.declared.AccessAt.{AccessAt}
use Rattle.ds_plain.specs.declared.AccessAt.TheVariants.{LoadWord, StoreWord, CombineWord, ReplaceWord, LoadPart}
use Rattle.ds_plain.specs.declared.AccessAt.TheVariants.{SwapPart}
use Rattle.ds_plain.specs.declared.AllocAt.{AllocAt}
use Rattle.ds_plain.specs.declared.AllocAt.TheVariants as allocs
use Rattle.ds_plain.specs.declared.ListAt.{ListAt}
use Rattle.ds_plain.specs.declared.ListAt.TheVariants.{LoadHome, DrawLog, StoreHeader, StoreHome, LoadHeader}
use Rattle.ds_plain.specs.declared.FreeAt.{FreeAt}
use Rattle.ds_plain.specs.declared.FreeAt.TheVariants as frees
use Rattle.ds_plain.specs.Starting.{begins, start_event}
use Rattle.ds_plain.specs.Spawning.{spawn_event}
use Rattle.ds_plain.specs.Joining.{is_bad_join, join_event}
use Rattle.ds_plain.specs.Accessing.{is_refused, changed_word, part_seen, access_event}
use Rattle.ds_plain.specs.Searching.{PageSeen, Unsized, Wanted, Other, NoPageWord, page_seen, BlockSeen, Unused, Used}
use Rattle.ds_plain.specs.Searching.{NoBlockWord, block_seen, page_loaded, page_swapped, block_loaded, taken}
use Rattle.ds_plain.specs.Searching.{block_swapped, alloc_event}
use Rattle.ds_plain.specs.Freeing as freeing
use Rattle.ds_plain.specs.Freeing.{StartSeen, LifeSeen, start_seen, life_seen, start_loaded, life_loaded, life_swapped}
use Rattle.ds_plain.specs.Freeing.{free_event}
use Rattle.ds_plain.specs.Listing.{HeaderSeen, HasRoom, HasNoRoom, OfOther, NoHeader, header_seen, header_loaded}
use Rattle.ds_plain.specs.Listing.{list_event}
use Rattle.ds_plain.specs.Noting as noting
use Rattle.ds_plain.specs.Noting.{HeldSeen, held_loaded}
use Rattle.ds_log_laws.proofs.Choices.{of_if}
use Rattle.ds_log_laws.proofs.Links.{IsQuiet}

pub start_quiet : (t : ℕ) (at : StartAt) (old : ℕ) → IsQuiet (start_event t at old)
start_quiet t LoadStart old = of_if IsQuiet (begins t old) events.Begin events.Log tt tt
start_quiet t LoadFunction old = tt
start_quiet t (LoadArgument function) old = tt

part_quiet : (access : Access) (change : Change) (word : ℕ) → IsQuiet (part_seen access change word)
part_quiet access change word =
    of_if IsQuiet (is_refused access change word) (events.Load access.loc word) events.Log tt tt

pub access_quiet : (at : AccessAt) (old : ℕ) → IsQuiet (access_event at old)
access_quiet (LoadWord loc) old = tt
access_quiet (StoreWord loc value) old = tt
access_quiet (CombineWord loc op value) old = tt
access_quiet (ReplaceWord loc expected new) old =
    of_if IsQuiet (old == expected) (events.Exchange loc new) (events.Load loc old) tt tt
access_quiet (LoadPart access change) old = part_quiet access change old
access_quiet (SwapPart access change seen) old =
    of_if IsQuiet (old == seen) (events.Exchange access.loc (changed_word access change seen))
    (part_seen access change old) tt (part_quiet access change old)

module _ (lim : Bounds) where
  page_load_quiet : (search' : Search) (seen : PageSeen) → IsQuiet (page_loaded lim search' seen)
  page_load_quiet search' Unsized = tt
  page_load_quiet search' Wanted = tt
  page_load_quiet search' Other = tt
  page_load_quiet search' NoPageWord = tt

  page_swap_quiet : (search' : Search) (seen : PageSeen) → IsQuiet (page_swapped lim search' seen)
  page_swap_quiet search' Unsized = tt
  page_swap_quiet search' Wanted = tt
  page_swap_quiet search' Other = tt
  page_swap_quiet search' NoPageWord = tt

  block_load_quiet : (search' : Search) (index : ℕ) (seen : BlockSeen) → IsQuiet (block_loaded lim search' index seen)
  block_load_quiet search' index (Unused life) = tt
  block_load_quiet search' index Used = tt
  block_load_quiet search' index NoBlockWord = tt

  block_swap_quiet : (search' : Search) (index life : ℕ) (seen : BlockSeen)
      → IsQuiet (block_swapped lim search' index life seen)
  block_swap_quiet search' index life (Unused seen) =
      of_if IsQuiet (seen == life) (taken lim search' index life) events.Log tt tt
  block_swap_quiet search' index life Used = tt
  block_swap_quiet search' index life NoBlockWord = tt

  pub malloc_quiet : (at : AllocAt) (old : ℕ) → IsQuiet (alloc_event lim at old)
  malloc_quiet (allocs.LoadPage search') old = page_load_quiet search' (page_seen search'.class old)
  malloc_quiet (allocs.SwapPage search') old = page_swap_quiet search' (page_seen search'.class old)
  malloc_quiet (allocs.LoadBlock search' index) old = block_load_quiet search' index (block_seen old)
  malloc_quiet (allocs.SwapBlock search' index life) old = block_swap_quiet search' index life (block_seen old)

  header_quiet : (seen : HeaderSeen) → IsQuiet (header_loaded seen)
  header_quiet HasRoom = tt
  header_quiet HasNoRoom = tt
  header_quiet OfOther = tt
  header_quiet NoHeader = tt

  pub list_quiet : (at : ListAt) (old : ℕ) → IsQuiet (list_event lim at old)
  list_quiet (LoadHome place life) old = tt
  list_quiet (DrawLog place life) old =
      of_if IsQuiet (nat_lt old lim.logs) events.Log (events.Full tables.Logs) tt tt
  list_quiet (StoreHeader place life log) old = tt
  list_quiet (StoreHome place life log) old = tt
  list_quiet (LoadHeader place life log) old = header_quiet (header_seen life old)

start_load_quiet : (seen : StartSeen) → IsQuiet (start_loaded seen)
start_load_quiet (freeing.StartOf place) = tt
start_load_quiet freeing.NoStart = tt
start_load_quiet freeing.NoPageWord = tt

life_load_quiet : (seen : LifeSeen) → IsQuiet (life_loaded seen)
life_load_quiet (freeing.LiveIn life) = tt
life_load_quiet freeing.NotLive = tt
life_load_quiet freeing.NoBlockWord = tt

life_swap_quiet : (place life : ℕ) (seen : LifeSeen) → IsQuiet (life_swapped place life seen)
life_swap_quiet place life (freeing.LiveIn seen) =
    of_if IsQuiet (seen == life) (events.BeginFree place life) events.Trap tt tt
life_swap_quiet place life freeing.NotLive = tt
life_swap_quiet place life freeing.NoBlockWord = tt

pub free_quiet : (at : FreeAt) (old : ℕ) → IsQuiet (free_event at old)
free_quiet (frees.LoadPage address) old = start_load_quiet (start_seen address old)
free_quiet (frees.LoadBlock address place) old = life_load_quiet (life_seen old)
free_quiet (frees.SwapBlock address place life) old = life_swap_quiet place life (life_seen old)
free_quiet (frees.StoreFree place life) old = tt

pub spawn_quiet : (at : SpawnAt) (old : ℕ) → IsQuiet (spawn_event at old)
spawn_quiet (DrawThread loc function arg) old =
    of_if IsQuiet (nat_lt old 16) (events.Spawn old function arg) events.SpawnRefused tt tt
spawn_quiet (StoreNumber n loc function arg) old = tt
spawn_quiet (StoreFunction n function arg) old = tt
spawn_quiet (StoreArgument n arg) old = tt
spawn_quiet (OpenThread n) old = tt

pub join_quiet : (t : ℕ) (at : JoinAt) (old : ℕ) → IsQuiet (join_event t at old)
join_quiet t (LoadGiven number) old = of_if IsQuiet (is_bad_join t number old) events.Trap events.Log tt tt
join_quiet t (LoadEnded n) old = of_if IsQuiet (old == 2) (events.Join n) events.Log tt tt

-- a note that looks at the page of its value
pub held_quiet : (seen : HeldSeen) → IsQuiet (held_loaded seen)
held_quiet (noting.HeldIn place start) = tt
held_quiet noting.HeldByNone = tt
held_quiet noting.NoPageWord = tt
