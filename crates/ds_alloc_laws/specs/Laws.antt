-- The statements of the laws.
use Rattle.std.specs.Prelude.{◌≡◌, ℕ, ◌<◌, List, [], Some, slice_set}
use Rattle.ds_map.specs.Bounds.{Bounds, IsInRange}
use Rattle.ds_map.specs.Blocks.{class_of, places_of_class}
use Rattle.ds_plain.specs.declared.AllocAt.{AllocAt}
use Rattle.ds_plain.specs.declared.AllocAt.TheVariants.{LoadPage}
use Rattle.ds_plain.specs.Searching.{search_from, search_at, place_behind, AllocNext, Looks, Takes, TakesNone}
use Rattle.ds_plain.specs.Searching.{alloc_event, alloc_next}
use Rattle.ds_plain.specs.Thread.{first_cursors}
use Rattle.ds_plain.specs.Reached.{IsPlace, IsAllocAt, AreCursors, ahead_of, left_behind_event}

-- the class that a malloc wants which stands there
abbrev pub class_at : AllocAt → ℕ
class_at at = (search_at at).class

-- A malloc comes to a position again, with the places that it had left but for those of its event, and wants the same
-- class; it has taken a block at a place of its class; or it has none left.
abbrev pub LooksOn : Bounds → (class : ℕ) → List ℕ → AllocNext → Type 0
LooksOn lim class left (Looks at) = IsAllocAt lim at × (ahead_of lim at ≡ left) × (class_at at ≡ class)
LooksOn lim class left (Takes taken place life) =
    (taken ≡ class) × IsPlace lim class place × IsPlace lim class (place_behind lim class place)
LooksOn lim class left TakesNone = left ≡ []

-- the size class of a request is one of the fifteen
abbrev pub ClassesAreFew : Type 0
ClassesAreFew = (bytes class : ℕ) → class_of bytes ≡ Some class → class < 15

-- before its first step a malloc has all places of its class left
abbrev pub MallocsBegin : Type 0
MallocsBegin = (lim : Bounds) (class first : ℕ) → IsInRange lim → IsPlace lim class first
    → IsAllocAt lim (LoadPage (search_from class first))
    × (ahead_of lim (LoadPage (search_from class first)) ≡ places_of_class lim class)

-- Each step of a malloc takes from the places that are left those that its event shows to be unavailable, and the
-- malloc ends where none is left.
abbrev pub MallocsLookOn : Type 0
MallocsLookOn = (lim : Bounds) (at : AllocAt) (old : ℕ) → IsInRange lim → IsAllocAt lim at
    → LooksOn lim (class_at at) (left_behind_event (alloc_event lim at old) (ahead_of lim at)) (alloc_next lim at old)

-- while a malloc looks, a place is left
abbrev pub MallocsHaveLeft : Type 0
MallocsHaveLeft = (lim : Bounds) (at : AllocAt) → IsInRange lim → IsAllocAt lim at → ¬ (ahead_of lim at ≡ [])

-- at first a thread looks for blocks from the first place on
abbrev pub CursorsBegin : Type 0
CursorsBegin = (lim : Bounds) → IsInRange lim → AreCursors lim first_cursors

-- where one place is moved to another one of its class, they are such places still
abbrev pub CursorsMove : Type 0
CursorsMove = (lim : Bounds) (cursors : List ℕ) (class place : ℕ) → AreCursors lim cursors → IsPlace lim class place
    → AreCursors lim (slice_set cursors class place)
