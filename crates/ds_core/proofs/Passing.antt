-- The events of a start, a spawn, a join, an access, a malloc, a note and a free end no thread.
use Rattle.std.proofs.Common.{◌≡◌, ℕ, ◌==◌, Bool, true, false, if◌then◌else◌, nat_lt, refl, ap}
use Rattle.std.proofs.lemmas.Bool.{cond_both}
use Rattle.ds_map.specs.Bounds.{Bounds}
use Rattle.ds_step.specs.declared.Event.{Event}
use Rattle.ds_step.specs.declared.Event.TheVariants as events
use Rattle.ds_step.specs.declared.FullWhat.TheVariants as tables
use Rattle.ds_plain.specs.declared.StartAt.{StartAt}
use Rattle.ds_plain.specs.declared.StartAt.TheVariants as starts
use Rattle.ds_plain.specs.declared.SpawnAt.{SpawnAt}
use Rattle.ds_plain.specs.declared.SpawnAt.TheVariants as spawns
use Rattle.ds_plain.specs.declared.JoinAt.{JoinAt}
use Rattle.ds_plain.specs.declared.JoinAt.TheVariants as joins
use Rattle.ds_plain.specs.declared.Access.{Access}
use Rattle.ds_plain.specs.declared.Change.{Change}
use Rattle.ds_plain.specs.declared.AccessAt.{AccessAt}
use Rattle.ds_plain.specs.declared.AccessAt.TheVariants as accesses
use Rattle.ds_plain.specs.declared.Search.{Search}
use Rattle.ds_plain.specs.declared.AllocAt.{AllocAt}
use Rattle.ds_plain.specs.declared.AllocAt.TheVariants as allocs
use Rattle.ds_plain.specs.declared.ListAt.{ListAt}
use Rattle.ds_plain.specs.declared.ListAt.TheVariants as lists
use Rattle.ds_plain.specs.declared.NoteAt.{NoteAt}
use Rattle.ds_plain.specs.declared.NoteAt.TheVariants as notes
use Rattle.ds_plain.specs.declared.FreeAt.{FreeAt}
use Rattle.ds_plain.specs.declared.FreeAt.TheVariants as frees
use Rattle.ds_plain.specs.Starting.{begins, start_event}
use Rattle.ds_plain.specs.Spawning.{spawn_event}
use Rattle.ds_plain.specs.Joining.{is_bad_join, join_event}
use Rattle.ds_plain.specs.Accessing.{is_refused, part_seen, access_event}
use Rattle.ds_plain.specs.Searching.{PageSeen, Unsized, Wanted, Other, NoPageWord, page_seen, page_loaded}
use Rattle.ds_plain.specs.Searching.{page_swapped}
use Rattle.ds_plain.specs.Searching.{BlockSeen, Unused, Used, NoBlockWord, block_seen, block_loaded, block_swapped}
use Rattle.ds_plain.specs.Searching.{alloc_event}
use Rattle.ds_plain.specs.Freeing.{StartSeen, StartOf, NoStart, start_seen, start_loaded, LifeSeen, LiveIn, NotLive}
use Rattle.ds_plain.specs.Freeing.{life_seen, life_loaded, life_swapped, free_event}
use Rattle.ds_plain.specs.Freeing as freeing
use Rattle.ds_plain.specs.Listing.{HeaderSeen, HasRoom, HasNoRoom, OfOther, NoHeader, header_seen, header_loaded}
use Rattle.ds_plain.specs.Listing.{list_event}
use Rattle.ds_plain.specs.Noting.{HeldSeen, HeldIn, HeldByNone, held_seen, held_loaded, found_loaded, note_event}
use Rattle.ds_plain.specs.Noting as noting
use Rattle.ds_plain.specs.Turns.{Neither, passing_of, ends_thread}

-- the event gives out no thread and ends none
abbrev Passes : Event → Type 0
Passes event = passing_of event ≡ Neither

start_goes_by : (b : Bool) → ends_thread (passing_of (if b then events.Begin else events.Log)) ≡ false
start_goes_by true = refl
start_goes_by false = refl

pub start_goes_on : (t : ℕ) (at : StartAt) (old : ℕ) → ends_thread (passing_of (start_event t at old)) ≡ false
start_goes_on t starts.LoadStart old = start_goes_by (begins t old)
start_goes_on t starts.LoadFunction old = refl
start_goes_on t (starts.LoadArgument function) old = refl

draw_goes : (function arg drawn : ℕ) (b : Bool)
    → ends_thread (passing_of (if b then events.Spawn drawn function arg else events.SpawnRefused)) ≡ false
draw_goes function arg drawn true = refl
draw_goes function arg drawn false = refl

pub spawn_goes_on : (at : SpawnAt) (old : ℕ) → ends_thread (passing_of (spawn_event at old)) ≡ false
spawn_goes_on (spawns.DrawThread loc function arg) old = draw_goes function arg old (nat_lt old 16)
spawn_goes_on (spawns.StoreNumber n loc function arg) old = refl
spawn_goes_on (spawns.StoreFunction n function arg) old = refl
spawn_goes_on (spawns.StoreArgument n arg) old = refl
spawn_goes_on (spawns.OpenThread n) old = refl

given_goes : (b : Bool) → ends_thread (passing_of (if b then events.Trap else events.Log)) ≡ false
given_goes true = refl
given_goes false = refl

ended_goes : (n : ℕ) (b : Bool) → ends_thread (passing_of (if b then events.Join n else events.Log)) ≡ false
ended_goes n true = refl
ended_goes n false = refl

pub join_goes_on : (t : ℕ) (at : JoinAt) (old : ℕ) → ends_thread (passing_of (join_event t at old)) ≡ false
join_goes_on t (joins.LoadGiven number) old = given_goes (is_bad_join t number old)
join_goes_on t (joins.LoadEnded n) old = ended_goes n (old == 2)

part_passes : (access : Access) (change : Change) (word : ℕ) → Passes (part_seen access change word)
part_passes access change word = cond_both (is_refused access change word) _ _ Passes (λ e. refl) (λ e. refl)

pub access_passes : (at : AccessAt) (old : ℕ) → Passes (access_event at old)
access_passes (accesses.LoadWord loc) old = refl
access_passes (accesses.StoreWord loc value) old = refl
access_passes (accesses.CombineWord loc op value) old = refl
access_passes (accesses.ReplaceWord loc expected new) old =
    cond_both (old == expected) _ _ Passes (λ e. refl) (λ e. refl)
access_passes (accesses.LoadPart access change) old = part_passes access change old
access_passes (accesses.SwapPart access change seen) old =
    cond_both (old == seen) _ _ Passes (λ e. refl) (λ e. part_passes access change old)

pub access_goes_on : (at : AccessAt) (old : ℕ) → ends_thread (passing_of (access_event at old)) ≡ false
access_goes_on at old = ap ends_thread (access_passes at old)

module _ (lim : Bounds) where
  load_page_passes : (search : Search) (seen : PageSeen) → Passes (page_loaded lim search seen)
  load_page_passes search Unsized = refl
  load_page_passes search Wanted = refl
  load_page_passes search Other = refl
  load_page_passes search NoPageWord = refl

  swap_page_passes : (search : Search) (seen : PageSeen) → Passes (page_swapped lim search seen)
  swap_page_passes search Unsized = refl
  swap_page_passes search Wanted = refl
  swap_page_passes search Other = refl
  swap_page_passes search NoPageWord = refl

  load_block_passes : (search : Search) (index : ℕ) (seen : BlockSeen) → Passes (block_loaded lim search index seen)
  load_block_passes search index (Unused life) = refl
  load_block_passes search index Used = refl
  load_block_passes search index NoBlockWord = refl

  swap_block_passes : (search : Search) (index life : ℕ) (seen : BlockSeen)
      → Passes (block_swapped lim search index life seen)
  swap_block_passes search index life (Unused seen) = cond_both (seen == life) _ _ Passes (λ e. refl) (λ e. refl)
  swap_block_passes search index life Used = refl
  swap_block_passes search index life NoBlockWord = refl

  pub malloc_passes : (at : AllocAt) (old : ℕ) → Passes (alloc_event lim at old)
  malloc_passes (allocs.LoadPage search) old = load_page_passes search (page_seen search.class old)
  malloc_passes (allocs.SwapPage search) old = swap_page_passes search (page_seen search.class old)
  malloc_passes (allocs.LoadBlock search index) old = load_block_passes search index (block_seen old)
  malloc_passes (allocs.SwapBlock search index life) old = swap_block_passes search index life (block_seen old)

  pub malloc_goes_on : (at : AllocAt) (old : ℕ) → ends_thread (passing_of (alloc_event lim at old)) ≡ false
  malloc_goes_on at old = ap ends_thread (malloc_passes at old)

load_header_passes : (seen : HeaderSeen) → Passes (header_loaded seen)
load_header_passes HasRoom = refl
load_header_passes HasNoRoom = refl
load_header_passes OfOther = refl
load_header_passes NoHeader = refl

pub list_passes : (lim : Bounds) (at : ListAt) (old : ℕ) → Passes (list_event lim at old)
list_passes lim (lists.LoadHome place life) old = refl
list_passes lim (lists.DrawLog place life) old =
    cond_both (nat_lt old lim.logs) events.Log (events.Full tables.Logs) Passes (λ e. refl) (λ e. refl)
list_passes lim (lists.StoreHeader place life log) old = refl
list_passes lim (lists.StoreHome place life log) old = refl
list_passes lim (lists.LoadHeader place life log) old = load_header_passes (header_seen life old)

load_held_passes : (seen : HeldSeen) → Passes (held_loaded seen)
load_held_passes (HeldIn place start) = refl
load_held_passes HeldByNone = refl
load_held_passes noting.NoPageWord = refl

load_found_passes : (place start : ℕ) (seen : LifeSeen) → Passes (found_loaded place start seen)
load_found_passes place start (LiveIn life) = refl
load_found_passes place start NotLive = refl
load_found_passes place start freeing.NoBlockWord = refl

pub note_passes : (lim : Bounds) (at : NoteAt) (old : ℕ) → Passes (note_event lim at old)
note_passes lim (notes.LoadPage loc value) old = load_held_passes (held_seen value old)
note_passes lim (notes.LoadBlock loc place start) old = load_found_passes place start (life_seen old)
note_passes lim (notes.Seek loc at) old = list_passes lim at old
note_passes lim (notes.StoreLife loc place life log) old = refl
note_passes lim (notes.StoreEntry loc place life log used) old = refl
note_passes lim (notes.CountEntry loc place life log used) old = refl

pub note_goes_on : (lim : Bounds) (at : NoteAt) (old : ℕ) → ends_thread (passing_of (note_event lim at old)) ≡ false
note_goes_on lim at old = ap ends_thread (note_passes lim at old)

load_start_passes : (seen : StartSeen) → Passes (start_loaded seen)
load_start_passes (StartOf place) = refl
load_start_passes NoStart = refl
load_start_passes freeing.NoPageWord = refl

load_life_passes : (seen : LifeSeen) → Passes (life_loaded seen)
load_life_passes (LiveIn life) = refl
load_life_passes NotLive = refl
load_life_passes freeing.NoBlockWord = refl

swap_life_passes : (place life : ℕ) (seen : LifeSeen) → Passes (life_swapped place life seen)
swap_life_passes place life (LiveIn seen) = cond_both (seen == life) _ _ Passes (λ e. refl) (λ e. refl)
swap_life_passes place life NotLive = refl
swap_life_passes place life freeing.NoBlockWord = refl

pub free_passes : (at : FreeAt) (old : ℕ) → Passes (free_event at old)
free_passes (frees.LoadPage address) old = load_start_passes (start_seen address old)
free_passes (frees.LoadBlock address place) old = load_life_passes (life_seen old)
free_passes (frees.SwapBlock address place life) old = swap_life_passes place life (life_seen old)
free_passes (frees.StoreFree place life) old = refl

pub free_goes_on : (at : FreeAt) (old : ℕ) → ends_thread (passing_of (free_event at old)) ≡ false
free_goes_on at old = ap ends_thread (free_passes at old)
