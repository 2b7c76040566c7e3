-- What the steps of a malloc left, behind one step more.
use Rattle.std.proofs.Common.{◌≡◌, ℕ, suc, Bool, true, false, if◌then◌else◌, ◌==◌, nat_lt, List, []}
use Rattle.std.proofs.Common.{refl, sym, subst, ◌∙◌}
use Rattle.ds_map.specs.Bounds.{Bounds}
use Rattle.ds_step.specs.declared.Event.{Event}
use Rattle.ds_step.specs.declared.Event.TheVariants.{Log}
use Rattle.ds_plain.specs.declared.Search.{Search}
use Rattle.ds_plain.specs.declared.AllocAt.{AllocAt}
use Rattle.ds_plain.specs.declared.AllocAt.TheVariants.{LoadPage, SwapPage, LoadBlock, SwapBlock}
use Rattle.ds_plain.specs.Searching.{AllocNext, Looks, Takes, TakesNone, visits, end_index, place_in_search, taken}
use Rattle.ds_plain.specs.Searching.{PageSeen, Unsized, Wanted, Other, NoPageWord, page_seen}
use Rattle.ds_plain.specs.Searching.{BlockSeen, Unused, Used, NoBlockWord, block_seen}
use Rattle.ds_plain.specs.Searching.{behind_page, behind_block, alloc_event, alloc_next}
use Rattle.ds_plain.specs.Searching.{page_loaded, page_swapped, block_loaded, block_swapped}
use Rattle.ds_plain.specs.Searching.{behind_page_load, behind_page_swap, behind_block_load, behind_block_swap}
use Rattle.ds_plain.specs.Reached.{IsAllocAt, ahead_of, left_behind_event}
use Rattle.ds_alloc_laws.specs.Laws.{LooksOn, class_at, MallocsLookOn, MallocsHaveLeft}
use Rattle.ds_alloc.specs.declared.outcome.AllocStep.{AllocStep}
use Rattle.ds_alloc.specs.declared.outcome.AllocStep.TheVariants as steps
use Rattle.ds_alloc.specs.Walks.{AllocState, state_of, next_in, Leaves, IsLeft, IsNext, IsKept}

-- THE STEP THAT TAKES A BLOCK STRIKES NO PLACE

abbrev Keeps : AllocNext → Event → Type 0
Keeps (Looks at) event = Unit {0}
Keeps (Takes class place life) event = (left : List ℕ) → left_behind_event event left ≡ left
Keeps TakesNone event = Unit {0}

by_test : (b : Bool) (at : AllocAt) (event : Event) → Keeps (if b then Looks at else TakesNone) event
by_test true at event = tt
by_test false at event = tt

module _ (lim : Bounds) where
  behind_page_keeps : (search : Search) (event : Event) → Keeps (behind_page lim search) event
  behind_page_keeps search event =
      by_test (nat_lt (suc search.passed) (visits lim search))
      (LoadPage (record search { passed = suc search.passed })) event

  by_index : (b : Bool) (search : Search) (index : ℕ) (event : Event)
      → Keeps (if b then Looks (LoadBlock search (suc index)) else behind_page lim search) event
  by_index true search index event = tt
  by_index false search index event = behind_page_keeps search event

  behind_block_keeps : (search : Search) (index : ℕ) (event : Event) → Keeps (behind_block lim search index) event
  behind_block_keeps search index event =
      by_index (nat_lt (suc index) (end_index lim search)) search index event

  load_keeps : (search : Search) (seen : PageSeen)
      → Keeps (behind_page_load lim search seen) (page_loaded lim search seen)
  load_keeps search Unsized = tt
  load_keeps search Wanted = tt
  load_keeps search Other = behind_page_keeps _ _
  load_keeps search NoPageWord = tt

  swap_keeps : (search : Search) (seen : PageSeen)
      → Keeps (behind_page_swap lim search seen) (page_swapped lim search seen)
  swap_keeps search Unsized = tt
  swap_keeps search Wanted = tt
  swap_keeps search Other = behind_page_keeps _ _
  swap_keeps search NoPageWord = tt

  block_load_keeps : (search : Search) (index : ℕ) (seen : BlockSeen)
      → Keeps (behind_block_load lim search index seen) (block_loaded lim search index seen)
  block_load_keeps search index (Unused life) = tt
  block_load_keeps search index Used = behind_block_keeps search index _
  block_load_keeps search index NoBlockWord = tt

  by_life : (b : Bool) (search : Search) (index life seen : ℕ)
      → Keeps (if b then Takes search.class (place_in_search lim search index) (suc life)
      else Looks (SwapBlock search index seen)) (if b then taken lim search index life else Log)
  by_life true search index life seen = λ left. refl
  by_life false search index life seen = tt

  block_swap_keeps : (search : Search) (index life : ℕ) (seen : BlockSeen)
      → Keeps (behind_block_swap lim search index life seen) (block_swapped lim search index life seen)
  block_swap_keeps search index life (Unused seen) = by_life (seen == life) search index life seen
  block_swap_keeps search index life Used = behind_block_keeps search index _
  block_swap_keeps search index life NoBlockWord = tt

  keeps : (at : AllocAt) (old : ℕ) → Keeps (alloc_next lim at old) (alloc_event lim at old)
  keeps (LoadPage search) old = load_keeps search (page_seen search.class old)
  keeps (SwapPage search) old = swap_keeps search (page_seen search.class old)
  keeps (LoadBlock search index) old = block_load_keeps search index (block_seen old)
  keeps (SwapBlock search index life) old = block_swap_keeps search index life (block_seen old)

  -- BEHIND A STEP

  leaves : (class : ℕ) (before : List ℕ) (event : Event) (next : AllocNext) → ¬ (before ≡ []) → Keeps next event
      → LooksOn lim class (left_behind_event event before) next → Leaves lim next (left_behind_event event before)
  leaves class before event (Looks at) some keeps on = sym on.1
  leaves class before event (Takes taken place life) some keeps on = λ none. some (sym (keeps before) ∙ none)
  leaves class before event TakesNone some keeps on = on

  pub left_on : MallocsLookOn → MallocsHaveLeft → (step made : AllocStep) (at : AllocAt) (old : ℕ) (event : Event)
      → step ≡ steps.Looks at → IsKept lim step → event ≡ alloc_event lim at old → next_in made ≡ alloc_next lim at old
      → (left : List ℕ) → IsLeft (state_of lim step) left → IsLeft (state_of lim made) (left_behind_event event left)
  left_on look have step made at old event here kept told next left was =
      let stands : IsAllocAt lim at = subst (λ (s : AllocStep). IsNext lim (next_in s)) here kept.stands in
      let all : left ≡ ahead_of lim at = subst (λ (s : AllocStep). Leaves lim (next_in s) left) here was in
      let on : Leaves lim (alloc_next lim at old) (left_behind_event (alloc_event lim at old) (ahead_of lim at)) =
      leaves (class_at at) (ahead_of lim at) (alloc_event lim at old) (alloc_next lim at old)
      (have lim at kept.range stands) (keeps at old) (look lim at old kept.range stands) in
      subst (λ (n : AllocNext). Leaves lim n (left_behind_event event left)) (sym next)
      (subst (λ (e : Event). Leaves lim (alloc_next lim at old) (left_behind_event e left)) (sym told)
      (subst (λ (xs : List ℕ). Leaves lim (alloc_next lim at old) (left_behind_event (alloc_event lim at old) xs))
      (sym all) on))
