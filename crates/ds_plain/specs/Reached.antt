-- Helpers: which positions a malloc and a free reach, and what a malloc has not seen yet. No clause of the top call
-- speaks of them.
use Rattle.std.specs.Prelude.{◌≡◌, ℕ, ◌+◌, ◌-◌, ◌*◌, ◌%◌, ◌^◌, ◌<◌, ◌≤◌, Bool, true, not, ◌&&◌, ◌||◌, ◌==◌, nat_le, nat_lt}
use Rattle.std.specs.Prelude.{if◌then◌else◌, List, slice_index}
use Rattle.std.specs.List.{filter}
use Rattle.ds_map.specs.Bounds.{Bounds}
use Rattle.ds_map.specs.Blocks.{class_blocks, page_of, index_of, places_of_class}
use Rattle.ds_step.specs.declared.Event.{Event}
use Rattle.ds_step.specs.declared.Event.TheVariants as events
use Rattle.ds_plain.specs.declared.Search.{Search}
use Rattle.ds_plain.specs.declared.AllocAt.{AllocAt}
use Rattle.ds_plain.specs.declared.AllocAt.TheVariants as allocs
use Rattle.ds_plain.specs.declared.FreeAt.{FreeAt}
use Rattle.ds_plain.specs.declared.FreeAt.TheVariants as frees
use Rattle.ds_plain.specs.Plain.{without}
use Rattle.ds_plain.specs.Searching.{visits, first_index, end_index}
use Rattle.ds_plain.specs.Freeing.{is_freeable}

-- POSITIONS OF A MALLOC

-- the place is that of a block, if its page had this class
pub record IsPlace (lim : Bounds) (class place : ℕ) : Type 0 where
  pub class_is : class < 15
  pub page : page_of place < lim.pages
  pub index : index_of place < class_blocks class

-- a malloc comes so far
pub record IsSearch (lim : Bounds) (search : Search) : Type 0 where
  pub place : IsPlace lim search.class search.first
  pub passed : search.passed < visits lim search
  pub again : search.again ≡ true → 0 < index_of search.first

-- it looks at the block of this index
pub record IsLooked (lim : Bounds) (search : Search) (index : ℕ) : Type 0 where
  pub comes : IsSearch lim search
  pub least : first_index search ≤ index
  pub most : index < end_index lim search

-- a malloc reaches this position
abbrev pub IsAllocAt : Bounds → AllocAt → Type 0
IsAllocAt lim (allocs.LoadPage search) = IsSearch lim search
IsAllocAt lim (allocs.SwapPage search) = IsSearch lim search
IsAllocAt lim (allocs.LoadBlock search index) = IsLooked lim search index
IsAllocAt lim (allocs.SwapBlock search index life) = IsLooked lim search index × (life < 2 ^ 32 - 1)

-- the places behind which a thread looks for the next block, by size class, are such places
pub record AreCursors (lim : Bounds) (cursors : List ℕ) : Type 0 where
  pub each : (class : ℕ) → class < 15 → IsPlace lim class (slice_index cursors class)

-- WHAT A MALLOC HAS NOT SEEN

-- the number of the visit in which a malloc comes to a place of its class
abbrev pub visit_of : Bounds → (first place : ℕ) → ℕ
visit_of lim first place =
    if page_of place == page_of first then (if nat_lt (index_of place) (index_of first) then lim.pages else 0)
    else (page_of place + lim.pages - page_of first) % lim.pages

-- it still comes to this place, if it has come to the block of this index in its page
abbrev pub is_ahead : Bounds → Search → (index place : ℕ) → Bool
is_ahead lim search index place =
    nat_lt (visit_of lim search.first place) (visits lim search)
    && (nat_lt search.passed (visit_of lim search.first place)
    || ((search.passed == visit_of lim search.first place) && nat_le index (index_of place)))

-- the places to which it still comes
abbrev pub ahead : Bounds → Search → (index : ℕ) → List ℕ
ahead lim search index = filter (is_ahead lim search index) (places_of_class lim search.class)

-- the places that a malloc has not seen unavailable which stands there
abbrev pub ahead_of : Bounds → AllocAt → List ℕ
ahead_of lim (allocs.LoadPage search) = ahead lim search (first_index search)
ahead_of lim (allocs.SwapPage search) = ahead lim search (first_index search)
ahead_of lim (allocs.LoadBlock search index) = ahead lim search index
ahead_of lim (allocs.SwapBlock search index life) = ahead lim search index

-- of the places that were left to see, those that are left behind an event of the malloc
abbrev pub left_behind_event : Event → List ℕ → List ℕ
left_behind_event events.Begin left = left
left_behind_event (events.Spawn n function arg) left = left
left_behind_event events.SpawnRefused left = left
left_behind_event (events.Join n) left = left
left_behind_event events.End left = left
left_behind_event (events.Print number value) left = left
left_behind_event (events.Load loc value) left = left
left_behind_event (events.Store loc value) left = left
left_behind_event (events.Exchange loc value) left = left
left_behind_event (events.Assign page class) left = left
left_behind_event (events.Taken place) left = without place left
left_behind_event (events.TakenPage page) left = filter (λ (place : ℕ). not (page_of place == page)) left
left_behind_event (events.Block place start life) left = left
left_behind_event (events.Found place start life) left = left
left_behind_event events.Skip left = left
left_behind_event (events.Noted place life loc) left = left
left_behind_event (events.BeginFree place life) left = left
left_behind_event (events.Mark loc) left = left
left_behind_event (events.Seen loc) left = left
left_behind_event (events.EndFree place) left = left
left_behind_event events.Trap left = left
left_behind_event (events.Full what) left = left
left_behind_event events.Log left = left

-- POSITIONS OF A FREE

-- a free reaches this position
abbrev pub IsFreeAt : Bounds → FreeAt → Type 0
IsFreeAt lim (frees.LoadPage address) = is_freeable lim address ≡ true
IsFreeAt lim (frees.LoadBlock address place) = (is_freeable lim address ≡ true) × (place < 256 * lim.pages)
IsFreeAt lim (frees.SwapBlock address place life) =
    (is_freeable lim address ≡ true) × (place < 256 * lim.pages) × (life < 2 ^ 32)
IsFreeAt lim (frees.StoreFree place life) = (place < 256 * lim.pages) × (life < 2 ^ 32)
