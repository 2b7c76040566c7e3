-- The rows of a malloc: at which pages and blocks it looks, and what it makes of their words.
use Rattle.std.specs.Prelude.{ℕ, suc, ◌+◌, ◌-◌, ◌%◌, ◌^◌, not, ◌&&◌, ◌==◌}
use Rattle.std.specs.Prelude.{nat_lt, if◌then◌else◌, Option, Some, None}
use Rattle.ds_map.specs.Bounds.{Bounds}
use Rattle.ds_map.specs.Blocks.{class_blocks, place_of, page_of, index_of, block_start}
use Rattle.ds_map.specs.Words.{first_page_word, first_block_word}
use Rattle.ds_pages.specs.declared.BlockState.{BlockState}
use Rattle.ds_pages.specs.declared.BlockState.TheVariants.{Free, Live, Freeing}
use Rattle.ds_pages.specs.Words.{is_page_word, state_word, read_state}
use Rattle.ds_step.specs.declared.WordOp.{WordOp}
use Rattle.ds_step.specs.declared.Event.{Event}
use Rattle.ds_step.specs.declared.Event.TheVariants as events
use Rattle.ds_plain.specs.declared.Search.{Search}
use Rattle.ds_plain.specs.declared.AllocAt.{AllocAt}
use Rattle.ds_plain.specs.declared.AllocAt.TheVariants.{LoadPage, SwapPage, LoadBlock, SwapBlock}
use Rattle.ds_plain.specs.Operations.{load_of, swap_of}

-- WHERE IT LOOKS

-- a malloc that begins to look for a block of this class at this place
abbrev pub search_from : (class first : ℕ) → Search
search_from class first = record { class = class; first = first; passed = 0; again = not (index_of first == 0) }

-- the page at which it looks: so many behind that of its first place, and round
abbrev pub page_in : Bounds → Search → ℕ
page_in lim search = (page_of search.first + search.passed) % lim.pages

-- the index of the first block of the page at which it looks
abbrev pub first_index : Search → ℕ
first_index search = if search.passed == 0 then index_of search.first else 0

-- the index behind the last one: it comes to its first page once more for the blocks before its first place
abbrev pub end_index : Bounds → Search → ℕ
end_index lim search = if search.passed == lim.pages then index_of search.first else class_blocks search.class

-- the place with an index in the page at which it looks
abbrev pub place_in_search : Bounds → Search → (index : ℕ) → ℕ
place_in_search lim search index = place_of (page_in lim search) index

-- how often it looks at a page in all, as far as it knows
abbrev pub visits : Bounds → Search → ℕ
visits lim search = if search.again then suc lim.pages else lim.pages

-- the place behind another one, among those of the class, and round
abbrev pub place_behind : Bounds → (class place : ℕ) → ℕ
place_behind lim class place =
    if nat_lt (suc (index_of place)) (class_blocks class) then suc place
    else place_of (suc (page_of place) % lim.pages) 0

-- how far a malloc has come that stands there
abbrev pub search_at : AllocAt → Search
search_at (LoadPage search) = search
search_at (SwapPage search) = search
search_at (LoadBlock search index) = search
search_at (SwapBlock search index life) = search

-- WHERE IT GOES ON

-- what comes of a step of a malloc
pub data AllocNext : Type 0 where
  -- it goes on with this row
  Looks : AllocAt → AllocNext
  -- it has taken a block
  Takes : (class place life : ℕ) → AllocNext
  -- it has taken none: it saw each place unavailable, one at one step and another at another
  TakesNone : AllocNext

-- it is through with its page
abbrev pub behind_page : Bounds → Search → AllocNext
behind_page lim search =
    if nat_lt (suc search.passed) (visits lim search)
    then Looks (LoadPage (record search { passed = suc search.passed })) else TakesNone

-- it is through with its page, which has another class: if it is that of the first place, there is nothing more to see
abbrev pub behind_other_page : Bounds → Search → AllocNext
behind_other_page lim search =
    behind_page lim (record search { again = search.again && not (search.passed == 0) })

-- it is through with the block of this index
abbrev pub behind_block : Bounds → Search → (index : ℕ) → AllocNext
behind_block lim search index =
    if nat_lt (suc index) (end_index lim search) then Looks (LoadBlock search (suc index)) else behind_page lim search

-- WHAT IT SEES

-- what the word of a page says to a malloc that wants a class
pub data PageSeen : Type 0 where
  -- the page has no class
  Unsized : PageSeen
  -- it has the class that is wanted
  Wanted : PageSeen
  -- it has another one
  Other : PageSeen
  -- this is no page word
  NoPageWord : PageSeen

abbrev pub page_seen : (class word : ℕ) → PageSeen
page_seen class word =
    if word == 0 then Unsized else
    (if word == suc class then Wanted else
    (if is_page_word word then Other else NoPageWord))

-- what the word of a block says to a malloc
pub data BlockSeen : Type 0 where
  -- the block is free, behind this life, and can be taken
  Unused : (life : ℕ) → BlockSeen
  -- it is in use
  Used : BlockSeen
  -- this is no block word, or that of the last life that a word can hold
  NoBlockWord : BlockSeen

-- a free block has a next life
abbrev pub unused : ℕ → BlockSeen
unused life = if nat_lt life (2 ^ 32 - 1) then Unused life else NoBlockWord

abbrev pub seen_as : Option (ℕ × BlockState) → BlockSeen
seen_as None = NoBlockWord
seen_as (Some (life, Free)) = unused life
seen_as (Some (life, Live)) = Used
seen_as (Some (life, Freeing)) = Used

abbrev pub block_seen : ℕ → BlockSeen
block_seen word = seen_as (read_state word)

-- ROWS

abbrev pub page_word_in : Bounds → Search → ℕ
page_word_in lim search = first_page_word + page_in lim search

abbrev pub block_word_in : Bounds → Search → (index : ℕ) → ℕ
block_word_in lim search index = first_block_word lim + place_in_search lim search index

abbrev pub alloc_op : Bounds → AllocAt → WordOp
alloc_op lim (LoadPage search) = load_of (page_word_in lim search)
alloc_op lim (SwapPage search) = swap_of (page_word_in lim search) 0 (suc search.class)
alloc_op lim (LoadBlock search index) = load_of (block_word_in lim search index)
alloc_op lim (SwapBlock search index life) =
    swap_of (block_word_in lim search index) (state_word life Free) (state_word (suc life) Live)

abbrev pub alloc_row : AllocAt → ℕ
alloc_row (LoadPage search) = 20
alloc_row (SwapPage search) = 21
alloc_row (LoadBlock search index) = 22
alloc_row (SwapBlock search index life) = 23

-- EVENTS: what is no word of a page or a block means nothing, and the row is made again

abbrev pub page_loaded : Bounds → Search → PageSeen → Event
page_loaded lim search Unsized = events.Log
page_loaded lim search Wanted = events.Log
page_loaded lim search Other = events.TakenPage (page_in lim search)
page_loaded lim search NoPageWord = events.Log

abbrev pub page_swapped : Bounds → Search → PageSeen → Event
page_swapped lim search Unsized = events.Assign (page_in lim search) search.class
page_swapped lim search Wanted = events.Log
page_swapped lim search Other = events.TakenPage (page_in lim search)
page_swapped lim search NoPageWord = events.Log

abbrev pub block_loaded : Bounds → Search → (index : ℕ) → BlockSeen → Event
block_loaded lim search index (Unused life) = events.Log
block_loaded lim search index Used = events.Taken (place_in_search lim search index)
block_loaded lim search index NoBlockWord = events.Log

abbrev pub taken : Bounds → Search → (index life : ℕ) → Event
taken lim search index life =
    events.Block (place_in_search lim search index) (block_start (place_in_search lim search index) search.class)
    (suc life)

abbrev pub block_swapped : Bounds → Search → (index life : ℕ) → BlockSeen → Event
block_swapped lim search index life (Unused seen) = if seen == life then taken lim search index life else events.Log
block_swapped lim search index life Used = events.Taken (place_in_search lim search index)
block_swapped lim search index life NoBlockWord = events.Log

abbrev pub alloc_event : Bounds → AllocAt → (old : ℕ) → Event
alloc_event lim (LoadPage search) old = page_loaded lim search (page_seen search.class old)
alloc_event lim (SwapPage search) old = page_swapped lim search (page_seen search.class old)
alloc_event lim (LoadBlock search index) old = block_loaded lim search index (block_seen old)
alloc_event lim (SwapBlock search index life) old = block_swapped lim search index life (block_seen old)

-- WHAT COMES NEXT

abbrev pub behind_page_load : Bounds → Search → PageSeen → AllocNext
behind_page_load lim search Unsized = Looks (SwapPage search)
behind_page_load lim search Wanted = Looks (LoadBlock search (first_index search))
behind_page_load lim search Other = behind_other_page lim search
behind_page_load lim search NoPageWord = Looks (LoadPage search)

abbrev pub behind_page_swap : Bounds → Search → PageSeen → AllocNext
behind_page_swap lim search Unsized = Looks (LoadBlock search (first_index search))
behind_page_swap lim search Wanted = Looks (LoadBlock search (first_index search))
behind_page_swap lim search Other = behind_other_page lim search
behind_page_swap lim search NoPageWord = Looks (SwapPage search)

abbrev pub behind_block_load : Bounds → Search → (index : ℕ) → BlockSeen → AllocNext
behind_block_load lim search index (Unused life) = Looks (SwapBlock search index life)
behind_block_load lim search index Used = behind_block lim search index
behind_block_load lim search index NoBlockWord = Looks (LoadBlock search index)

abbrev pub behind_block_swap : Bounds → Search → (index life : ℕ) → BlockSeen → AllocNext
behind_block_swap lim search index life (Unused seen) =
    if seen == life then Takes search.class (place_in_search lim search index) (suc life)
    else Looks (SwapBlock search index seen)
behind_block_swap lim search index life Used = behind_block lim search index
behind_block_swap lim search index life NoBlockWord = Looks (SwapBlock search index life)

abbrev pub alloc_next : Bounds → AllocAt → (old : ℕ) → AllocNext
alloc_next lim (LoadPage search) old = behind_page_load lim search (page_seen search.class old)
alloc_next lim (SwapPage search) old = behind_page_swap lim search (page_seen search.class old)
alloc_next lim (LoadBlock search index) old = behind_block_load lim search index (block_seen old)
alloc_next lim (SwapBlock search index life) old = behind_block_swap lim search index life (block_seen old)
