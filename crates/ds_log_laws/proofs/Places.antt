-- The places that threads come to are those of blocks of the heap, and what they see there.
use Rattle.std.proofs.Common.{◌≡◌, ℕ, zero, suc, ◌-◌, ◌*◌, ◌/◌, ◌%◌, ◌<◌, ◌≤◌, ◌==◌, true, nat_lt}
use Rattle.std.proofs.Common.{Option, Some, None, arith, ltb-true}
use Rattle.ds_map.specs.Bounds.{Bounds}
use Rattle.ds_map.specs.Blocks.{Pages, class_words, class_blocks, place_of, page_of, index_of, block_start}
use Rattle.ds_map.specs.Blocks.{page_at, place_in, if_starting, place_from}
use Rattle.ds_map.specs.Regions.{heap, lies_in}
use Rattle.ds_pages.specs.Words.{is_page_word, class_in, block_at}
use Rattle.ds_plain.specs.declared.Search.{Search}
use Rattle.ds_plain.specs.Searching.{first_index, end_index}
use Rattle.ds_plain.specs.Noting as noting
use Rattle.ds_plain.specs.Freeing as freeing
use Rattle.ds_log_laws.proofs.Choices.{of_test, of_if}

-- a page has at most 256 blocks
pub few_blocks : (class : ℕ) → class_blocks class ≤ 256
few_blocks zero = omega arith
few_blocks (suc zero) = omega arith
few_blocks (suc (suc zero)) = omega arith
few_blocks (suc (suc (suc zero))) = omega arith
few_blocks (suc (suc (suc (suc zero)))) = omega arith
few_blocks (suc (suc (suc (suc (suc zero))))) = omega arith
few_blocks (suc (suc (suc (suc (suc (suc zero)))))) = omega arith
few_blocks (suc (suc (suc (suc (suc (suc (suc zero))))))) = omega arith
few_blocks (suc (suc (suc (suc (suc (suc (suc (suc zero)))))))) = omega arith
few_blocks (suc (suc (suc (suc (suc (suc (suc (suc (suc zero))))))))) = omega arith
few_blocks (suc (suc (suc (suc (suc (suc (suc (suc (suc (suc zero)))))))))) = omega arith
few_blocks (suc (suc (suc (suc (suc (suc (suc (suc (suc (suc (suc zero))))))))))) = omega arith
few_blocks (suc (suc (suc (suc (suc (suc (suc (suc (suc (suc (suc (suc zero)))))))))))) = omega arith
few_blocks (suc (suc (suc (suc (suc (suc (suc (suc (suc (suc (suc (suc (suc zero))))))))))))) = omega arith
few_blocks (suc (suc (suc (suc (suc (suc (suc (suc (suc (suc (suc (suc (suc (suc zero)))))))))))))) = omega arith
few_blocks (suc (suc (suc (suc (suc (suc (suc (suc (suc (suc (suc (suc (suc (suc (suc more))))))))))))))) = omega arith

-- the indices at which a malloc looks
pub first_small : (search : Search) → first_index search < 256
first_small search = of_if (λ n. n < 256) (search.passed == 0) (index_of search.first) 0 (omega arith) (omega arith)

pub end_small : (lim : Bounds) (search : Search) → end_index lim search ≤ 256
end_small lim search = of_if (λ n. n ≤ 256) (search.passed == lim.pages) (index_of search.first)
    (class_blocks search.class) (omega arith) (few_blocks search.class)

-- a page of the heap
pub page_inside : (lim : Bounds) (address : ℕ) → lies_in (heap lim) address ≡ true → page_at address < lim.pages
page_inside lim address lies = grind (arith, lies)

-- a place, where there is one, is that of a block of the heap
abbrev IsInside : Bounds → Option ℕ → Type 0
IsInside lim None = Unit {0}
IsInside lim (Some place) = place < 256 * lim.pages

place_in_inside : (lim : Bounds) (page offset : ℕ) (class : Option ℕ) → page < lim.pages
    → IsInside lim (place_in page offset class)
place_in_inside lim page offset None lt = tt
place_in_inside lim page offset (Some class) lt =
    of_test (IsInside lim) (nat_lt (offset / (8 * class_words class)) (class_blocks class))
    (Some (place_of page (offset / (8 * class_words class)))) None
    (λ e. let less = ltb-true (offset / (8 * class_words class)) (class_blocks class) e in
    omega (arith, lt, less, few_blocks class)) (λ e. tt)

if_starting_inside : (lim : Bounds) (pages : Pages) (address place : ℕ) (class : Option ℕ) → place < 256 * lim.pages
    → IsInside lim (if_starting pages address place class)
if_starting_inside lim pages address place None lt = tt
if_starting_inside lim pages address place (Some class) lt =
    of_if (IsInside lim) (block_start place class == address) (Some place) None lt tt

place_from_inside : (lim : Bounds) (pages : Pages) (address : ℕ) (place : Option ℕ) → IsInside lim place
    → IsInside lim (place_from pages address place)
place_from_inside lim pages address None inside = tt
place_from_inside lim pages address (Some place) inside =
    if_starting_inside lim pages address place (pages (page_of place)) inside

-- what a note makes of the word of the page of its value
abbrev pub IsHeldInside : Bounds → noting.HeldSeen → Type 0
IsHeldInside lim (noting.HeldIn place start) = place < 256 * lim.pages
IsHeldInside lim noting.HeldByNone = Unit {0}
IsHeldInside lim noting.NoPageWord = Unit {0}

held_by_inside : (lim : Bounds) (word : ℕ) (place : Option ℕ) → IsInside lim place
    → IsHeldInside lim (noting.held_by word place)
held_by_inside lim word None inside = tt
held_by_inside lim word (Some place) inside = inside

pub held_inside : (lim : Bounds) (value word : ℕ) → lies_in (heap lim) value ≡ true
    → IsHeldInside lim (noting.held_seen value word)
held_inside lim value word lies =
    of_if (IsHeldInside lim) (is_page_word word)
    (noting.held_by word (place_in (page_at value) ((value - 0x1000000) % 4096) (class_in word))) noting.NoPageWord
    (held_by_inside lim word (place_in (page_at value) ((value - 0x1000000) % 4096) (class_in word))
    (place_in_inside lim (page_at value) ((value - 0x1000000) % 4096) (class_in word) (page_inside lim value lies))) tt

-- what a free makes of the word of the page of its address
abbrev pub IsStartInside : Bounds → freeing.StartSeen → Type 0
IsStartInside lim (freeing.StartOf place) = place < 256 * lim.pages
IsStartInside lim freeing.NoStart = Unit {0}
IsStartInside lim freeing.NoPageWord = Unit {0}

start_found_inside : (lim : Bounds) (place : Option ℕ) → IsInside lim place
    → IsStartInside lim (freeing.start_found place)
start_found_inside lim None inside = tt
start_found_inside lim (Some place) inside = inside

pub start_inside : (lim : Bounds) (address word : ℕ) → lies_in (heap lim) address ≡ true
    → IsStartInside lim (freeing.start_seen address word)
start_inside lim address word lies =
    of_if (IsStartInside lim) (is_page_word word) (freeing.start_found (block_at address word)) freeing.NoPageWord
    (start_found_inside lim (block_at address word)
    (place_from_inside lim (λ page. class_in word) address
    (place_in (page_at address) ((address - 0x1000000) % 4096) (class_in word))
    (place_in_inside lim (page_at address) ((address - 0x1000000) % 4096) (class_in word)
    (page_inside lim address lies)))) tt
