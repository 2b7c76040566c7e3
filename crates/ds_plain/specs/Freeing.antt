-- The rows of a free, and what it makes of the words of its page and its block.
use Rattle.std.specs.Prelude.{ℕ, ◌+◌, ◌%◌, Bool, ◌==◌, ◌&&◌, if◌then◌else◌, Option, Some, None}
use Rattle.ds_map.specs.Bounds.{Bounds}
use Rattle.ds_map.specs.Blocks.{page_at}
use Rattle.ds_map.specs.Regions.{heap, lies_in}
use Rattle.ds_map.specs.Words.{first_page_word, first_block_word}
use Rattle.ds_pages.specs.declared.BlockState.{BlockState}
use Rattle.ds_pages.specs.declared.BlockState.TheVariants as states
use Rattle.ds_pages.specs.Words.{is_page_word, block_at, state_word, read_state}
use Rattle.ds_step.specs.declared.WordOp.{WordOp}
use Rattle.ds_step.specs.declared.FreeTrap.{FreeTrap}
use Rattle.ds_step.specs.declared.FreeTrap.TheVariants.{BadFree, DoubleFree}
use Rattle.ds_step.specs.declared.Event.{Event}
use Rattle.ds_step.specs.declared.Event.TheVariants as events
use Rattle.ds_plain.specs.declared.FreeAt.{FreeAt}
use Rattle.ds_plain.specs.declared.FreeAt.TheVariants.{LoadPage, LoadBlock, SwapBlock, StoreFree}
use Rattle.ds_plain.specs.Operations.{load_of, store_of, swap_of}

-- what comes of a step of a free
pub data FreeNext : Type 0 where
  -- it goes on with this row
  FreesOn : FreeAt → FreeNext
  -- the block is free
  Freed : FreeNext
  -- it cannot be freed
  FailsFree : FreeTrap → FreeNext

-- WHAT IT SEES

-- what the word of the page says of an address
pub data StartSeen : Type 0 where
  -- the block at this place starts there
  StartOf : (place : ℕ) → StartSeen
  -- no block does
  NoStart : StartSeen
  -- this is no page word
  NoPageWord : StartSeen

abbrev pub start_found : Option ℕ → StartSeen
start_found None = NoStart
start_found (Some place) = StartOf place

abbrev pub start_seen : (address word : ℕ) → StartSeen
start_seen address word = if is_page_word word then start_found (block_at address word) else NoPageWord

-- what the word of the block says
pub data LifeSeen : Type 0 where
  -- the block is live, in this life
  LiveIn : (life : ℕ) → LifeSeen
  -- it is not
  NotLive : LifeSeen
  -- this is no block word
  NoBlockWord : LifeSeen

abbrev pub seen_life : Option (ℕ × BlockState) → LifeSeen
seen_life None = NoBlockWord
seen_life (Some (life, states.Free)) = NotLive
seen_life (Some (life, states.Live)) = LiveIn life
seen_life (Some (life, states.Freeing)) = NotLive

abbrev pub life_seen : ℕ → LifeSeen
life_seen word = seen_life (read_state word)

-- ROWS

abbrev pub free_op : Bounds → FreeAt → WordOp
free_op lim (LoadPage address) = load_of (first_page_word + page_at address)
free_op lim (LoadBlock address place) = load_of (first_block_word lim + place)
free_op lim (SwapBlock address place life) =
    swap_of (first_block_word lim + place) (state_word life states.Live) (state_word life states.Freeing)
free_op lim (StoreFree place life) = store_of (first_block_word lim + place) (state_word life states.Free)

abbrev pub free_row : FreeAt → ℕ
free_row (LoadPage address) = 61
free_row (LoadBlock address place) = 62
free_row (SwapBlock address place life) = 63
free_row (StoreFree place life) = 74

-- EVENTS: what is no word of a page or a block means nothing, and the row is made again

abbrev pub start_loaded : StartSeen → Event
start_loaded (StartOf place) = events.Log
start_loaded NoStart = events.Trap
start_loaded NoPageWord = events.Log

abbrev pub life_loaded : LifeSeen → Event
life_loaded (LiveIn life) = events.Log
life_loaded NotLive = events.Trap
life_loaded NoBlockWord = events.Log

abbrev pub life_swapped : (place life : ℕ) → LifeSeen → Event
life_swapped place life (LiveIn seen) = if seen == life then events.BeginFree place life else events.Trap
life_swapped place life NotLive = events.Trap
life_swapped place life NoBlockWord = events.Log

abbrev pub free_event : FreeAt → (old : ℕ) → Event
free_event (LoadPage address) old = start_loaded (start_seen address old)
free_event (LoadBlock address place) old = life_loaded (life_seen old)
free_event (SwapBlock address place life) old = life_swapped place life (life_seen old)
free_event (StoreFree place life) old = events.EndFree place

-- WHAT COMES NEXT

abbrev pub behind_start_load : (address : ℕ) → StartSeen → FreeNext
behind_start_load address (StartOf place) = FreesOn (LoadBlock address place)
behind_start_load address NoStart = FailsFree BadFree
behind_start_load address NoPageWord = FreesOn (LoadPage address)

abbrev pub behind_life_load : (address place old : ℕ) → LifeSeen → FreeNext
behind_life_load address place old (LiveIn life) = FreesOn (SwapBlock address place life)
behind_life_load address place old NotLive = FailsFree (DoubleFree old)
behind_life_load address place old NoBlockWord = FreesOn (LoadBlock address place)

abbrev pub behind_life_swap : (address place life old : ℕ) → LifeSeen → FreeNext
behind_life_swap address place life old (LiveIn seen) =
    if seen == life then FreesOn (StoreFree place life) else FailsFree (DoubleFree old)
behind_life_swap address place life old NotLive = FailsFree (DoubleFree old)
behind_life_swap address place life old NoBlockWord = FreesOn (SwapBlock address place life)

abbrev pub free_next : FreeAt → (old : ℕ) → FreeNext
free_next (LoadPage address) old = behind_start_load address (start_seen address old)
free_next (LoadBlock address place) old = behind_life_load address place old (life_seen old)
free_next (SwapBlock address place life) old = behind_life_swap address place life old (life_seen old)
free_next (StoreFree place life) old = Freed

-- the address is one of the heap and a multiple of 8
abbrev pub is_freeable : Bounds → ℕ → Bool
is_freeable lim address = lies_in (heap lim) address && (address % 8 == 0)
