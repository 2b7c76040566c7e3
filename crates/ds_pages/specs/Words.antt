-- The words of the table that tell of the heap: a page word tells the size class of its page, a block word the life and
-- the state of its block.
use Rattle.std.specs.Prelude.{◌≡◌, ℕ, zero, suc, ◌+◌, ◌-◌, ◌*◌, ◌/◌, ◌%◌, ◌^◌, ◌<◌, ◌≤◌, Bool, nat_le, nat_lt}
use Rattle.std.specs.Prelude.{if◌then◌else◌, Option, Some, None, IsSomeAnd, IfSome}
use Rattle.ds_map.specs.Blocks.{class_words, class_blocks, index_of, block_start, page_at, place_in, place_from}
use Rattle.ds_pages.specs.declared.BlockState.{BlockState}
use Rattle.ds_pages.specs.declared.BlockState.TheVariants.{Free, Live, Freeing}

-- PAGES

-- the word can be that of a page: 0, or one more than one of the 15 size classes
abbrev pub is_page_word : ℕ → Bool
is_page_word word = nat_le word 15

-- the page has no class, or one of the 15
abbrev pub IsClass : Option ℕ → Type 0
IsClass class = IfSome class (λ c. c < 15)

-- the size class of a page of this word: none where it is 0, and else one less than that
abbrev pub class_in : ℕ → Option ℕ
class_in zero = None
class_in (suc class) = Some class

-- the place of the block that starts at an address of the heap, in a page of this word
abbrev pub block_at : (address word : ℕ) → Option ℕ
block_at address word =
    place_from (λ page. class_in word) address (place_in (page_at address) ((address - 0x1000000) % 4096) (class_in word))

-- in pages of this class, the place is that of a block which holds the byte at an address
abbrev pub Holds : (class place address : ℕ) → Type 0
Holds class place address = (index_of place < class_blocks class) × (block_start place class ≤ address)
    × (address < block_start place class + 8 * class_words class)

-- in pages of this word, the place is that of a block which holds the byte at an address
abbrev pub IsHolding : (word place address : ℕ) → Type 0
IsHolding word place address = IsSomeAnd (class_in word) (λ class. Holds class place address)

-- in pages of this class, the place is that of a block which starts at an address
abbrev pub Starts : (class place address : ℕ) → Type 0
Starts class place address = (index_of place < class_blocks class) × (block_start place class ≡ address)

-- in pages of this word, the place is that of a block which starts at an address
abbrev pub IsStarting : (word place address : ℕ) → Type 0
IsStarting word place address = IsSomeAnd (class_in word) (λ class. Starts class place address)

-- BLOCKS

-- the number of a state
abbrev pub state_code : BlockState → ℕ
state_code Free = 0
state_code Live = 1
state_code Freeing = 2

-- the word of a block in this life and state
abbrev pub state_word : (life : ℕ) → BlockState → ℕ
state_word life state = life * 4 + state_code state

-- the state with this number
abbrev pub state_of_code : ℕ → Option BlockState
state_of_code zero = Some Free
state_of_code (suc zero) = Some Live
state_of_code (suc (suc zero)) = Some Freeing
state_of_code (suc (suc (suc more))) = None

-- the life and the state, where there is one
abbrev pub in_life : (life : ℕ) → Option BlockState → Option (ℕ × BlockState)
in_life life None = None
in_life life (Some state) = Some (life, state)

-- the life and the state that a block word tells: none from 2 ^ 34 on, and none where no state has the number
abbrev pub read_state : ℕ → Option (ℕ × BlockState)
read_state word = if nat_lt word (2 ^ 34) then in_life (word / 4) (state_of_code (word % 4)) else None
