-- What comes of each step of a malloc.
use Rattle.std.proofs.Common.{◌≡◌, ℕ, suc, ◌-◌, ◌%◌, ◌^◌, ◌<◌, ◌==◌, Bool, true, false, not}
use Rattle.std.proofs.Common.{List, [], refl, sym, ap, ◌∙◌, arith, Option, Some, None}
use Rattle.std.specs.Prelude.{nat_lt, if◌then◌else◌}
use Rattle.std.proofs.lemmas.Bool.{ltb-true, ltb-false, ne_eqb, and_parts}
use Rattle.std.proofs.lemmas.Nat.{mod_below}
use Rattle.ds_map.specs.Bounds.{Bounds, IsInRange}
use Rattle.ds_map.specs.Blocks.{class_blocks, page_of, index_of, place_of}
use Rattle.ds_pages.specs.declared.BlockState.{BlockState}
use Rattle.ds_pages.specs.declared.BlockState.TheVariants.{Free, Live, Freeing}
use Rattle.ds_pages.specs.Words.{read_state}
use Rattle.ds_step.specs.declared.Event.TheVariants as events
use Rattle.ds_plain.specs.declared.Search.{Search}
use Rattle.ds_plain.specs.declared.AllocAt.{AllocAt}
use Rattle.ds_plain.specs.declared.AllocAt.TheVariants.{LoadPage, SwapPage, LoadBlock, SwapBlock}
use Rattle.ds_plain.specs.Searching.{page_in, first_index, end_index, place_in_search, visits, place_behind}
use Rattle.ds_plain.specs.Searching.{Looks, Takes, TakesNone, behind_page, behind_block}
use Rattle.ds_plain.specs.Searching.{PageSeen, Unsized, Wanted, Other, NoPageWord, page_seen}
use Rattle.ds_plain.specs.Searching.{BlockSeen, Unused, Used, NoBlockWord, seen_as, block_seen}
use Rattle.ds_plain.specs.Searching.{page_loaded, page_swapped, block_loaded, block_swapped, taken}
use Rattle.ds_plain.specs.Searching.{behind_page_load, behind_page_swap, behind_block_load, behind_block_swap}
use Rattle.ds_plain.specs.Searching.{alloc_event, alloc_next}
use Rattle.ds_plain.specs.Reached.{IsPlace, IsSearch, IsLooked, IsAllocAt, ahead, ahead_of, left_behind_event}
use Rattle.ds_alloc_laws.specs.Laws.{LooksOn, class_at}
use Rattle.ds_alloc_laws.proofs.Members.{few_blocks, is_place}
use Rattle.ds_alloc_laws.proofs.Searches.{first_looked, looked, standing, block_left, turned_left, other_left}
use Rattle.ds_alloc_laws.proofs.Searches.{next_visit, behind_other, none_ahead, here_ahead}

-- while a malloc looks, a place is left
pub have_left : (lim : Bounds) (at : AllocAt) → IsInRange lim → IsAllocAt lim at → ¬ (ahead_of lim at ≡ [])
have_left lim (LoadPage search) range is =
    here_ahead lim search (first_index search) (first_looked lim search is range)
have_left lim (SwapPage search) range is =
    here_ahead lim search (first_index search) (first_looked lim search is range)
have_left lim (LoadBlock search index) range is = here_ahead lim search index is
have_left lim (SwapBlock search index life) range is = here_ahead lim search index is.0

-- BEHIND A PAGE OR A BLOCK

-- in a later page it begins with the first block
next_first : (search : Search) → first_index (next_visit search) ≡ 0
next_first search =
    ap (λ (b : Bool). if b then index_of search.first else 0)
    (ne_eqb (suc search.passed) 0 (λ same. absurd (omega arith)))

module _ (lim : Bounds) (range : IsInRange lim) where
  module _ (search : Search) (left : List ℕ) (place : IsPlace lim search.class search.first)
      (again : search.again ≡ true → 0 < index_of search.first) (same : left ≡ ahead lim (next_visit search) 0) where
    page_by : (b : Bool) → nat_lt (suc search.passed) (visits lim search) ≡ b
        → LooksOn lim search.class left (if b then Looks (LoadPage (next_visit search)) else TakesNone)
    page_by true test = (
      record {
        place = place;
        passed = ltb-true (suc search.passed) (visits lim search) test;
        again = again;
      },
      ap (ahead lim (next_visit search)) (next_first search) ∙ sym same,
      refl,
    )
    page_by false test =
        same ∙ none_ahead lim (next_visit search) 0 place.class_is
        (ltb-false (suc search.passed) (visits lim search) test)

    -- a malloc that is through with its page
    on_page : LooksOn lim search.class left (behind_page lim search)
    on_page = page_by (nat_lt (suc search.passed) (visits lim search)) refl

  -- the word of a page is that of another class
  on_other : (search : Search) (index : ℕ) → IsSearch lim search
      → LooksOn lim search.class (left_behind_event (page_loaded lim search Other) (ahead lim search index))
      (behind_page_load lim search Other)
  on_other search index is =
      on_page (behind_other search) (left_behind_event (page_loaded lim search Other) (ahead lim search index))
      is.place (λ again. is.again (and_parts search.again (not (search.passed == 0)) again).0)
      (other_left lim search index is)

  module _ (search : Search) (index : ℕ) (is : IsLooked lim search index) where
    block_by : (b : Bool) → nat_lt (suc index) (end_index lim search) ≡ b
        → LooksOn lim search.class (left_behind_event (block_loaded lim search index Used) (ahead lim search index))
        (if b then Looks (LoadBlock search (suc index)) else behind_page lim search)
    block_by true test =
        let more = ltb-true (suc index) (end_index lim search) test in
        let next : IsLooked lim search (suc index) =
        record { comes = is.comes; least = omega (arith, is.least); most = more } in
        (next, sym (block_left lim search index is), refl)
    block_by false test =
        on_page search (left_behind_event (block_loaded lim search index Used) (ahead lim search index))
        is.comes.place is.comes.again (block_left lim search index is
        ∙ turned_left lim search index is (ltb-false (suc index) (end_index lim search) test))

    -- the block is in use
    on_used : LooksOn lim search.class
        (left_behind_event (block_loaded lim search index Used) (ahead lim search index))
        (behind_block lim search index)
    on_used = block_by (nat_lt (suc index) (end_index lim search)) refl

    behind_by : (place : ℕ) → IsPlace lim search.class place → (b : Bool)
        → nat_lt (suc (index_of place)) (class_blocks search.class) ≡ b
        → IsPlace lim search.class (if b then suc place else place_of (suc (page_of place) % lim.pages) 0)
    behind_by place here true test =
        let lt = ltb-true (suc (index_of place)) (class_blocks search.class) test in
        let few = few_blocks search.class here.class_is in
        let page : page_of (suc place) ≡ page_of place = omega arith in
        let block : index_of (suc place) ≡ suc (index_of place) = omega arith in
        record {
          class_is = here.class_is;
          page = omega (arith, here.page, page);
          index = omega (arith, lt, block);
        }
    behind_by place here false test =
        is_place lim search.class (suc (page_of place) % lim.pages) 0 here.class_is
        (mod_below (suc (page_of place)) lim.pages range.some_page) (omega (arith, here.index))

    -- it takes the block
    on_taken : IsPlace lim search.class (place_in_search lim search index)
        × IsPlace lim search.class (place_behind lim search.class (place_in_search lim search index))
    on_taken =
        let place = place_in_search lim search index in
        let here = is_place lim search.class (page_in lim search) index is.comes.place.class_is
        (standing lim search is.comes).0 (looked lim search index is).most in
        (here, behind_by place here (nat_lt (suc (index_of place)) (class_blocks search.class)) refl)

-- WORDS OF BLOCKS

-- the life of a free block has a next one
abbrev HasNext : BlockSeen → Type 0
HasNext (Unused life) = life < 2 ^ 32 - 1
HasNext Used = Unit {0}
HasNext NoBlockWord = Unit {0}

unused_by : (life : ℕ) (b : Bool) → nat_lt life (2 ^ 32 - 1) ≡ b → HasNext (if b then Unused life else NoBlockWord)
unused_by life true test = ltb-true life (2 ^ 32 - 1) test
unused_by life false test = tt

-- what a malloc takes for free has a next life
seen_next : (state : Option (ℕ × BlockState)) → HasNext (seen_as state)
seen_next None = tt
seen_next (Some (life, Free)) = unused_by life (nat_lt life (2 ^ 32 - 1)) refl
seen_next (Some (life, Live)) = tt
seen_next (Some (life, Freeing)) = tt

-- STEPS

module _ (lim : Bounds) (range : IsInRange lim) where
  module _ (search : Search) (is : IsSearch lim search) where
    page_load_on : (seen : PageSeen)
        → LooksOn lim search.class
        (left_behind_event (page_loaded lim search seen) (ahead lim search (first_index search)))
        (behind_page_load lim search seen)
    page_load_on Unsized = (is, refl, refl)
    page_load_on Wanted = (first_looked lim search is range, refl, refl)
    page_load_on Other = on_other lim range search (first_index search) is
    page_load_on NoPageWord = (is, refl, refl)

    page_swap_on : (seen : PageSeen)
        → LooksOn lim search.class
        (left_behind_event (page_swapped lim search seen) (ahead lim search (first_index search)))
        (behind_page_swap lim search seen)
    page_swap_on Unsized = (first_looked lim search is range, refl, refl)
    page_swap_on Wanted = (first_looked lim search is range, refl, refl)
    page_swap_on Other = on_other lim range search (first_index search) is
    page_swap_on NoPageWord = (is, refl, refl)

  module _ (search : Search) (index : ℕ) (is : IsLooked lim search index) where
    block_load_on : (seen : BlockSeen) → HasNext seen
        → LooksOn lim search.class (left_behind_event (block_loaded lim search index seen) (ahead lim search index))
        (behind_block_load lim search index seen)
    block_load_on (Unused life) next = ((is, next), refl, refl)
    block_load_on Used next = on_used lim range search index is
    block_load_on NoBlockWord next = (is, refl, refl)

    module _ (life : ℕ) (known : life < 2 ^ 32 - 1) where
      swap_by : (seen : ℕ) → seen < 2 ^ 32 - 1 → (b : Bool)
          → LooksOn lim search.class
          (left_behind_event (if b then taken lim search index life else events.Log) (ahead lim search index))
          (if b then Takes search.class (place_in_search lim search index) (suc life)
          else Looks (SwapBlock search index seen))
      swap_by seen next true = let there = on_taken lim range search index is in (refl, there.0, there.1)
      swap_by seen next false = ((is, next), refl, refl)

      block_swap_on : (seen : BlockSeen) → HasNext seen
          → LooksOn lim search.class
          (left_behind_event (block_swapped lim search index life seen) (ahead lim search index))
          (behind_block_swap lim search index life seen)
      block_swap_on (Unused seen) next = swap_by seen next (seen == life)
      block_swap_on Used next = on_used lim range search index is
      block_swap_on NoBlockWord next = ((is, known), refl, refl)

  pub look_on : (at : AllocAt) (old : ℕ) → IsAllocAt lim at
      → LooksOn lim (class_at at) (left_behind_event (alloc_event lim at old) (ahead_of lim at))
      (alloc_next lim at old)
  look_on (LoadPage search) old is = page_load_on search is (page_seen search.class old)
  look_on (SwapPage search) old is = page_swap_on search is (page_seen search.class old)
  look_on (LoadBlock search index) old is =
      block_load_on search index is (block_seen old) (seen_next (read_state old))
  look_on (SwapBlock search index life) old is =
      block_swap_on search index is.0 life is.1 (block_seen old) (seen_next (read_state old))
