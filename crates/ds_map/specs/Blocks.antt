-- Blocks of the heap, and the values that point into them. The heap is cut into pages of 512 words; a page gets one
-- size class, once, and is then cut into blocks of that class.
use Rattle.std.specs.Prelude.{ℕ, zero, suc, ◌+◌, ◌-◌, ◌*◌, ◌/◌, ◌%◌, ◌^◌, Bool, not, ◌&&◌, ◌==◌, nat_le, nat_lt, if◌then◌else◌}
use Rattle.std.specs.Prelude.{List, [], ◌∷◌, map, Option, Some, None, slice_index}
use Rattle.std.specs.List.{flat_map, range_with_len}
use Rattle.ds_map.specs.Bounds.{Bounds}
use Rattle.ds_map.specs.Regions.{heap, lies_in}

-- MARKS

-- a value of 64 bits is marked: its bit 63 is set
abbrev pub is_marked : ℕ → Bool
is_marked v = nat_le (2 ^ 63) v

-- the value of 64 bits with bit 63 set
abbrev pub mark : ℕ → ℕ
mark v = if is_marked v then v else v + 2 ^ 63

-- the value points into the block of so many words at this address: it is not marked, and is the address of one of its
-- bytes
abbrev pub points_into : (start words v : ℕ) → Bool
points_into start words v = not (is_marked v) && (nat_le start v && nat_lt v (start + 8 * words))

-- SIZE CLASSES

-- the words of a block, by its size class
abbrev pub class_sizes : List ℕ
class_sizes = 2 ∷ 4 ∷ 6 ∷ 8 ∷ 12 ∷ 16 ∷ 24 ∷ 32 ∷ 48 ∷ 64 ∷ 96 ∷ 128 ∷ 192 ∷ 256 ∷ 512 ∷ []

abbrev pub class_words : ℕ → ℕ
class_words class = slice_index class_sizes class

-- how many blocks of the class a page has: as many as fit
abbrev pub class_blocks : ℕ → ℕ
class_blocks class = 512 / class_words class

-- the number of the first size of more than n bytes, where they are numbered from this one on
abbrev pub first_above : ℕ → ℕ → List ℕ → Option ℕ
first_above n class [] = None
first_above n class (words ∷ sizes) = if nat_lt n (8 * words) then Some class else first_above n (suc class) sizes

-- the size class of a request for n bytes: the least one of at least n + 1 bytes, so that a pointer one past the end
-- points into its own block; none where n is above 4,095
abbrev pub class_of : ℕ → Option ℕ
class_of n = first_above n 0 class_sizes

-- PLACES

-- the block with this index in a page
abbrev pub place_of : (page index : ℕ) → ℕ
place_of page index = 256 * page + index

abbrev pub page_of : ℕ → ℕ
page_of place = place / 256

abbrev pub index_of : ℕ → ℕ
index_of place = place % 256

-- the address of a page
abbrev pub page_start : ℕ → ℕ
page_start page = 0x1000000 + 4096 * page

-- the address at which the block of a place starts, in a page of this class
abbrev pub block_start : (place class : ℕ) → ℕ
block_start place class = page_start (page_of place) + 8 * class_words class * index_of place

-- all places of blocks of a class, if each page had it
abbrev pub places_of_class : Bounds → ℕ → List ℕ
places_of_class lim class =
    flat_map (λ (page : ℕ). map (λ (index : ℕ). place_of page index) (range_with_len 0 (class_blocks class)))
    (range_with_len 0 lim.pages)

-- the class of each page, where it has one
abbrev pub Pages : Type 0
Pages = ℕ → Option ℕ

-- the page of an address of the heap
abbrev pub page_at : ℕ → ℕ
page_at address = (address - 0x1000000) / 4096

-- the block that holds the byte so far behind the start of a page of this class, and none behind its last block
abbrev pub place_in : (page offset : ℕ) → Option ℕ → Option ℕ
place_in page offset None = None
place_in page offset (Some class) =
    if nat_lt (offset / (8 * class_words class)) (class_blocks class) then
    Some (place_of page (offset / (8 * class_words class))) else None

-- the place of the block that holds the byte at an address
abbrev pub place_holding : Bounds → Pages → ℕ → Option ℕ
place_holding lim pages address =
    if lies_in (heap lim) address then
    place_in (page_at address) ((address - 0x1000000) % 4096) (pages (page_at address)) else None

-- the place, if its block starts at the address
abbrev pub if_starting : Pages → (address place : ℕ) → Option ℕ → Option ℕ
if_starting pages address place None = None
if_starting pages address place (Some class) = if block_start place class == address then Some place else None

abbrev pub place_from : Pages → ℕ → Option ℕ → Option ℕ
place_from pages address None = None
place_from pages address (Some place) = if_starting pages address place (pages (page_of place))

-- the place of the block that starts at an address
abbrev pub place_starting : Bounds → Pages → ℕ → Option ℕ
place_starting lim pages address = place_from pages address (place_holding lim pages address)

-- WORDS

-- the word of a page: 0 where it has no class, and else one more than that
abbrev pub page_word : Option ℕ → ℕ
page_word None = 0
page_word (Some class) = suc class
