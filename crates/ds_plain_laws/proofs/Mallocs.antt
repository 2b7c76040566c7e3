-- What each row of a malloc does: its event is allowed, and words, state and threads go together afterwards.
use Rattle.std.proofs.Common.{◌≡◌, ℕ, suc, ◌+◌, ◌*◌, ◌%◌, ◌<◌, ◌==◌, Bool, true, false, not, ◌&&◌, if◌then◌else◌}
use Rattle.std.proofs.Common.{nat_lt, List, [], ◌∷◌, Option, Some, None, slice_index, slice_set, refl, sym, ap}
use Rattle.std.proofs.Common.{◌∙◌, subst}
use Rattle.std.proofs.Common.{inl, inr, ◌⊎◌, arith, eqb-true, mod-lt}
use Rattle.std.specs.List.{filter}
use Rattle.std.proofs.lemmas.Bool.{cases_eq, eq-eqb}
use Rattle.ds_map.specs.Bounds.{Bounds}
use Rattle.ds_map.specs.Blocks.{Pages, class_blocks, page_of, index_of, block_start, page_word}
use Rattle.ds_map.specs.Words.{first_page_word, first_block_word}
use Rattle.ds_pages.specs.declared.BlockState.TheVariants as words_of
use Rattle.ds_pages.specs.Words.{state_word}
use Rattle.ds_step.specs.declared.WordOp.{WordOp}
use Rattle.ds_step.specs.declared.Event.{Event}
use Rattle.ds_step.specs.declared.Event.TheVariants as events
use Rattle.ds_step.specs.Word.{written_by, answer_on}
use Rattle.ds_plain.specs.declared.Search.{Search}
use Rattle.ds_plain.specs.declared.AllocAt.{AllocAt}
use Rattle.ds_plain.specs.declared.AllocAt.TheVariants.{LoadPage, SwapPage, LoadBlock, SwapBlock}
use Rattle.ds_plain.specs.declared.Position.TheVariants.{Malloc}
use Rattle.ds_plain.specs.declared.Request.TheVariants as requests
use Rattle.ds_plain.specs.Behaviour.{Behaviour, told}
use Rattle.ds_plain.specs.State.{Free, Live, Freeing, Block, block_in, block_word, use_word, Doing}
use Rattle.ds_plain.specs.State.{State, Setting, replaced}
use Rattle.ds_plain.specs.Plain.{Allowed, WantsBlock, IsBlock, so_far, answered, phase_with}
use Rattle.ds_plain.specs.Plain.{phase_answered, has_left, with_block, without, changed}
use Rattle.ds_plain.specs.Searching.{page_in, first_index, end_index, place_in_search, place_behind, visits}
use Rattle.ds_plain.specs.Searching.{AllocNext, Looks}
use Rattle.ds_plain.specs.Searching.{Takes, TakesNone, behind_page, behind_other_page, behind_block, PageSeen, Unsized}
use Rattle.ds_plain.specs.Searching.{Wanted, Other, NoPageWord, page_seen, BlockSeen, Unused, Used, NoBlockWord}
use Rattle.ds_plain.specs.Searching.{block_seen}
use Rattle.ds_plain.specs.Searching.{page_word_in, block_word_in, alloc_op, page_loaded, page_swapped, block_loaded}
use Rattle.ds_plain.specs.Searching.{block_swapped, alloc_event, behind_page_load, behind_page_swap, behind_block_load}
use Rattle.ds_plain.specs.Searching.{behind_block_swap, alloc_next}
use Rattle.ds_plain.specs.Reached.{IsPlace, IsLooked, IsAllocAt, ahead_of, left_behind_event}
use Rattle.ds_plain.specs.Thread.{Thread, standing, going_on, moved_from_malloc}
use Rattle.ds_plain.specs.Explained.{Agrees}
use Rattle.ds_alloc_laws.specs.Laws.{LooksOn, class_at}
use Rattle.ds_plain_laws.proofs.Choices.{of_if, replaced_same, replaced_other}
use Rattle.ds_plain_laws.proofs.Heap.{SeesPage, sees_page, page_none, page_some, SeesBlock, sees_block, free_seen}
use Rattle.ds_plain_laws.proofs.Heap.{word_parts}
use Rattle.ds_plain_laws.proofs.Heap.{use_free, few_blocks, page_of_place, index_of_place}
use Rattle.ds_plain_laws.proofs.Words.{agrees_loaded, agrees_sized, agrees_changed, swap_kept, swap_made}
use Rattle.ds_plain_laws.proofs.Phases.{asks_for, doing_so_far}
use Rattle.ds_plain_laws.proofs.Leaving.{leaves_all, leaves_page, leaves_block, FreesNone}
use Rattle.ds_plain_laws.proofs.Links.{IsSized, LinkedAt, malloc_goes}
use Rattle.ds_plain_laws.proofs.Makes.{Makes, Before, replaced_passes, all_same, answered_linked}

-- where a malloc goes on that has taken no block: it looks at blocks of pages of its class alone
abbrev pub GoesOn : Bounds → Pages → AllocNext → Type 0
GoesOn lim pages (Looks at) = IsSized lim pages at
GoesOn lim pages (Takes taken place life) = ⊥
GoesOn lim pages TakesNone = Unit {0}

page_goes : (lim : Bounds) (pages : Pages) (search : Search) → GoesOn lim pages (behind_page lim search)
page_goes lim pages search =
    of_if (GoesOn lim pages) (nat_lt (suc search.passed) (visits lim search))
    (Looks (LoadPage (record search { passed = suc search.passed }))) TakesNone tt tt

block_goes : (lim : Bounds) (pages : Pages) (search : Search) (index : ℕ)
    → pages (page_in lim search) ≡ Some search.class → GoesOn lim pages (behind_block lim search index)
block_goes lim pages search index sized =
    of_if (GoesOn lim pages) (nat_lt (suc index) (end_index lim search))
    (Looks (LoadBlock search (suc index))) (behind_page lim search) sized (page_goes lim pages search)

module _ (setting : Setting) (t : ℕ) (words : List ℕ) (s : State) (before : Before setting words s)
    (rest : Behaviour) (units : ℕ) (began : Bool) (cursors : List ℕ) where
  abbrev lim : Bounds
  lim = setting.lim

  abbrev thread : AllocAt → Thread
  thread at = record { rest = rest; position = Malloc at; units = units; began = began; cursors = cursors }

  abbrev Links : AllocAt → Type 0
  Links at = LinkedAt setting.program lim t rest began s cursors (Malloc at)

  -- it asks for a block of its class
  wants : (at : AllocAt) → Links at → WantsBlock setting s t (class_at at)
  wants at l = (
    l.stands.bytes,
    asks_for setting s t rest (requests.Malloc l.stands.bytes) l.stands.asking,
    l.stands.wanted,
  )

  -- what is left of its malloc
  left_is : (at : AllocAt) → Links at → (so_far setting s t).left ≡ ahead_of lim at
  left_is at l =
      let runs = l.stands.asking.runs in
      ap (λ (d : Doing). d.left) (doing_so_far setting s t rest runs.doing runs.going) ∙ l.stands.left

  -- A STEP THAT CHANGES NOTHING

  log_makes : (at at' : AllocAt) (op : WordOp)
      → written_by op.kind op.a op.b (slice_index words op.word) ≡ slice_index words op.word → Links at
      → class_at at' ≡ class_at at → IsAllocAt lim at' → ahead_of lim at' ≡ ahead_of lim at → IsSized lim s.pages at'
      → Makes setting t words s op events.Log s (standing lim cursors rest (units + 1) began (Malloc at'))
  log_makes at at' op kept l class reached ahead sized =
      let m = l.stands in
      record {
        allowed = λ h. absurd (cc (h));
        linked = malloc_goes setting.program lim t s cursors l.looks rest (units + 1) began at' (record {
          has_begun = m.has_begun;
          bytes = m.bytes;
          asking = m.asking;
          wanted = m.wanted ∙ ap Some (sym class);
          reached = reached;
          left = m.left ∙ sym ahead;
          sized = sized;
        }) l.frees_so;
        others = λ u ne. all_same setting t s u;
        leaves = leaves_all t s s refl refl;
        agrees = subst (λ (v : ℕ). Agrees lim (slice_set words op.word v) s) (sym kept)
            (agrees_loaded lim words s s before.agrees op.word
            (record { given = refl; out = refl; pages = refl; blocks = refl }) refl);
        prints = omega arith;
      }

  -- A STEP THAT SEES PLACES UNAVAILABLE

  -- it goes on, since places are left
  strikes_more : (at at' : AllocAt) (op : WordOp) (event : Event) (place : ℕ) (left : List ℕ)
      → written_by op.kind op.a op.b (slice_index words op.word) ≡ slice_index words op.word → Links at
      → Allowed setting s t event → class_at at' ≡ class_at at → IsAllocAt lim at' → ahead_of lim at' ≡ place ∷ left
      → IsSized lim s.pages at'
      → Makes setting t words s op event (has_left lim t s (place ∷ left))
      (standing lim cursors rest (units + 1) began (Malloc at'))
  strikes_more at at' op event place left kept l allowed class reached ahead sized =
      let m = l.stands in
      let more : Doing → Doing = λ doing. record doing { left = place ∷ left } in
      let s' : State = has_left lim t s (place ∷ left) in
      record {
        allowed = λ _. allowed;
        linked = malloc_goes setting.program lim t s' cursors l.looks rest (units + 1) began at' (record {
          has_begun = m.has_begun;
          bytes = m.bytes;
          asking = record {
            runs = record {
              doing = more m.asking.runs.doing;
              going = replaced_same s.threads t (phase_with more (s.threads t))
                  ∙ ap (phase_with more) m.asking.runs.going;
              not_spawned = m.asking.runs.not_spawned;
              not_ended = m.asking.runs.not_ended;
            };
            begun = m.asking.begun;
            place = m.asking.place;
            asks = m.asking.asks;
          };
          wanted = m.wanted ∙ ap Some (sym class);
          reached = reached;
          left = sym ahead;
          sized = sized;
        }) l.frees_so;
        others = replaced_passes setting t s s (phase_with more (s.threads t)) (all_same setting t s);
        leaves = leaves_all t s s' refl refl;
        agrees = subst (λ (v : ℕ). Agrees lim (slice_set words op.word v) s') (sym kept)
            (agrees_loaded lim words s s' before.agrees op.word
            (record { given = refl; out = refl; pages = refl; blocks = refl }) refl);
        prints = omega arith;
      }

  -- or is told null
  strikes_last : (at : AllocAt) (op : WordOp) (event : Event)
      → written_by op.kind op.a op.b (slice_index words op.word) ≡ slice_index words op.word → Links at
      → Allowed setting s t event
      → Makes setting t words s op event (has_left lim t s []) (going_on lim cursors (units + 1) (told rest 0))
  strikes_last at op event kept l allowed =
      let runs = l.stands.asking.runs in
      record {
        allowed = λ _. allowed;
        linked = answered_linked setting t s before.walks before.range s 0 rest runs.doing (units + 1) cursors
            runs.going l.frees_so l.looks;
        others = replaced_passes setting t s s (phase_answered lim s 0 (s.threads t)) (all_same setting t s);
        leaves = leaves_all t s (has_left lim t s []) refl refl;
        agrees = subst (λ (v : ℕ). Agrees lim (slice_set words op.word v) (has_left lim t s [])) (sym kept)
            (agrees_loaded lim words s (has_left lim t s []) before.agrees op.word
            (record { given = refl; out = refl; pages = refl; blocks = refl }) refl);
        prints = omega arith;
      }

  strikes : (at : AllocAt) (next : AllocNext) (op : WordOp) (event : Event) (left : List ℕ)
      → written_by op.kind op.a op.b (slice_index words op.word) ≡ slice_index words op.word → Links at
      → Allowed setting s t event → GoesOn lim s.pages next → LooksOn lim (class_at at) left next
      → Makes setting t words s op event (has_left lim t s left) (moved_from_malloc lim (thread at) next)
  strikes at (Looks at') op event [] kept l allowed goes looks =
      absurd (before.walks.have_left lim at' before.range looks.0 looks.1)
  strikes at (Looks at') op event (place ∷ left) kept l allowed goes looks =
      strikes_more at at' op event place left kept l allowed looks.2 looks.0 looks.1 goes
  strikes at (Takes class place life) op event left kept l allowed goes looks = absurd goes
  strikes at TakesNone op event left kept l allowed goes looks =
      subst (λ (left : List ℕ). Makes setting t words s op event (has_left lim t s left)
      (going_on lim cursors (units + 1) (told rest 0))) (sym looks) (strikes_last at op event kept l allowed)

  -- a page of another class
  other_page : (search : Search) → ℕ → (word : ℕ) → page_word (s.pages (page_in lim search)) ≡ word
      → (word ≡ 0 → ⊥) → (word ≡ suc search.class → ⊥) → page_in lim search < lim.pages
      → WantsBlock setting s t search.class → Allowed setting s t (events.TakenPage (page_in lim search))
  other_page search k word is some ne inside wanted = by (s.pages (page_in lim search)) refl
    where
      by : (class : Option ℕ) → s.pages (page_in lim search) ≡ class
          → Allowed setting s t (events.TakenPage (page_in lim search))
      by None has = absurd (some (sym is ∙ ap page_word has))
      by (Some class) has =
          (search.class, class, wanted, inside, has, λ same. ne (sym is ∙ (ap page_word has ∙ ap suc same)))

  struck_page : (at : AllocAt) (search : Search) (next : AllocNext) (op : WordOp) → class_at at ≡ search.class
      → written_by op.kind op.a op.b (slice_index words op.word) ≡ slice_index words op.word → Links at
      → Allowed setting s t (events.TakenPage (page_in lim search)) → GoesOn lim s.pages next
      → LooksOn lim (class_at at) (left_behind_event (events.TakenPage (page_in lim search)) (ahead_of lim at)) next
      → Makes setting t words s op (events.TakenPage (page_in lim search))
      (changed setting s t (events.TakenPage (page_in lim search))) (moved_from_malloc lim (thread at) next)
  struck_page at search next op class kept l allowed goes looks =
      let page = page_in lim search in
      subst (λ (left : List ℕ). Makes setting t words s op (events.TakenPage page)
      (has_left lim t s (filter (λ (place : ℕ). not (page_of place == page)) left))
      (moved_from_malloc lim (thread at) next)) (sym (left_is at l))
      (strikes at next op (events.TakenPage page)
      (filter (λ (place : ℕ). not (page_of place == page)) (ahead_of lim at)) kept l allowed goes looks)

  struck_block : (at : AllocAt) (place : ℕ) (next : AllocNext) (op : WordOp)
      → written_by op.kind op.a op.b (slice_index words op.word) ≡ slice_index words op.word → Links at
      → Allowed setting s t (events.Taken place) → GoesOn lim s.pages next
      → LooksOn lim (class_at at) (left_behind_event (events.Taken place) (ahead_of lim at)) next
      → Makes setting t words s op (events.Taken place) (changed setting s t (events.Taken place))
      (moved_from_malloc lim (thread at) next)
  struck_block at place next op kept l allowed goes looks =
      subst (λ (left : List ℕ). Makes setting t words s op (events.Taken place)
      (has_left lim t s (without place left)) (moved_from_malloc lim (thread at) next)) (sym (left_is at l))
      (strikes at next op (events.Taken place) (without place (ahead_of lim at)) kept l allowed goes looks)

  -- PAGES

  -- what its page word holds
  abbrev page_number : Search → ℕ
  page_number search = slice_index words (page_word_in lim search)

  inside : (search : Search) → page_in lim search < lim.pages
  inside search = mod-lt (page_of search.first + search.passed) (omega (arith, before.range.some_page))

  page_holds : (search : Search) → page_number search ≡ page_word (s.pages (page_in lim search))
  page_holds search = before.agrees.pages (page_in lim search) (inside search)

  page_is_sized : (search : Search) → page_number search ≡ suc search.class
      → s.pages (page_in lim search) ≡ Some search.class
  page_is_sized search is = page_some (s.pages (page_in lim search)) search.class (sym (page_holds search) ∙ is)

  is_other : (search : Search) (at : AllocAt) → class_at at ≡ search.class → Links at
      → (page_number search ≡ 0 → ⊥) × (page_number search ≡ suc search.class → ⊥)
      → Allowed setting s t (events.TakenPage (page_in lim search))
  is_other search at class l ne =
      other_page search 0 (page_number search) (sym (page_holds search)) ne.0 ne.1 (inside search)
      (subst (λ c. WantsBlock setting s t c) class (wants at l))

  load_page_by : (search : Search) (seen : PageSeen) → SeesPage search.class (page_number search) seen
      → Links (LoadPage search)
      → LooksOn lim search.class (left_behind_event (page_loaded lim search seen) (ahead_of lim (LoadPage search)))
      (behind_page_load lim search seen)
      → Makes setting t words s (alloc_op lim (LoadPage search)) (page_loaded lim search seen)
      (changed setting s t (page_loaded lim search seen))
      (moved_from_malloc lim (thread (LoadPage search)) (behind_page_load lim search seen))
  load_page_by search Unsized sees l looks =
      log_makes (LoadPage search) (SwapPage search) (alloc_op lim (LoadPage search)) refl l refl looks.0 looks.1 tt
  load_page_by search Wanted sees l looks =
      log_makes (LoadPage search) (LoadBlock search (first_index search)) (alloc_op lim (LoadPage search)) refl l refl
      looks.0 looks.1 (page_is_sized search (sees.wanted refl))
  load_page_by search Other sees l looks =
      struck_page (LoadPage search) search (behind_other_page lim search) (alloc_op lim (LoadPage search)) refl refl l
      (is_other search (LoadPage search) refl l (sees.other refl))
      (page_goes lim s.pages (record search { again = search.again && not (search.passed == 0) })) looks
  load_page_by search NoPageWord sees l looks =
      log_makes (LoadPage search) (LoadPage search) (alloc_op lim (LoadPage search)) refl l refl looks.0 looks.1 tt

  -- a page with no class is given one
  assign_makes : (search : Search) → page_number search ≡ 0 → Links (SwapPage search)
      → IsAllocAt lim (LoadBlock search (first_index search))
      → ahead_of lim (LoadBlock search (first_index search)) ≡ ahead_of lim (SwapPage search)
      → Makes setting t words s (alloc_op lim (SwapPage search)) (events.Assign (page_in lim search) search.class)
      (changed setting s t (events.Assign (page_in lim search) search.class))
      (standing lim cursors rest (units + 1) began (Malloc (LoadBlock search (first_index search))))
  assign_makes search zero_word l reached ahead =
      let m = l.stands in
      let page = page_in lim search in
      let none : s.pages page ≡ None = page_none (s.pages page) (sym (page_holds search) ∙ zero_word) in
      let s' : State = changed setting s t (events.Assign page search.class) in
      record {
        allowed = λ _. (wants (SwapPage search) l, inside search, none);
        linked = malloc_goes setting.program lim t s' cursors l.looks rest (units + 1) began
            (LoadBlock search (first_index search)) (record {
              has_begun = m.has_begun;
              bytes = m.bytes;
              asking = m.asking;
              wanted = m.wanted;
              reached = reached;
              left = m.left ∙ sym ahead;
              sized = replaced_same s.pages page (Some search.class);
            }) l.frees_so;
        others = λ u ne. all_same setting t s u;
        leaves = leaves_page t s s' page search.class none refl refl;
        agrees = subst (λ (v : ℕ). Agrees lim (slice_set words (first_page_word + page) v) s')
            (sym (swap_made 0 (suc search.class) (page_number search) zero_word))
            (agrees_sized lim words s s' before.agrees page search.class (inside search) before.roomy refl refl refl
            refl refl);
        prints = omega arith;
      }

  swap_page_by : (search : Search) (seen : PageSeen) → SeesPage search.class (page_number search) seen
      → Links (SwapPage search)
      → LooksOn lim search.class (left_behind_event (page_swapped lim search seen) (ahead_of lim (SwapPage search)))
      (behind_page_swap lim search seen)
      → Makes setting t words s (alloc_op lim (SwapPage search)) (page_swapped lim search seen)
      (changed setting s t (page_swapped lim search seen))
      (moved_from_malloc lim (thread (SwapPage search)) (behind_page_swap lim search seen))
  swap_page_by search Unsized sees l looks = assign_makes search (sees.unsized refl) l looks.0 looks.1
  swap_page_by search Wanted sees l looks =
      let is = sees.wanted refl in
      log_makes (SwapPage search) (LoadBlock search (first_index search)) (alloc_op lim (SwapPage search))
      (swap_kept 0 (suc search.class) (page_number search) (λ e. absurd (omega (arith, is, e)))) l refl looks.0 looks.1
      (page_is_sized search is)
  swap_page_by search Other sees l looks =
      struck_page (SwapPage search) search (behind_other_page lim search) (alloc_op lim (SwapPage search)) refl
      (swap_kept 0 (suc search.class) (page_number search) (sees.other refl).0) l
      (is_other search (SwapPage search) refl l (sees.other refl))
      (page_goes lim s.pages (record search { again = search.again && not (search.passed == 0) })) looks
  swap_page_by search NoPageWord sees l looks =
      log_makes (SwapPage search) (SwapPage search) (alloc_op lim (SwapPage search))
      (swap_kept 0 (suc search.class) (page_number search) (sees.no_word refl)) l refl looks.0 looks.1 tt

  -- BLOCKS

  -- what its block word holds
  abbrev block_number : Search → ℕ → ℕ
  block_number search index = slice_index words (block_word_in lim search index)

  index_below : (search : Search) (index : ℕ) → IsLooked lim search index → index < class_blocks search.class
  index_below search index looked =
      of_if (λ end. index < end → index < class_blocks search.class) (search.passed == lim.pages)
      (index_of search.first) (class_blocks search.class) (λ lt. omega (arith, lt, looked.comes.place.index))
      (λ lt. lt) looked.most

  index_small : (search : Search) (index : ℕ) → IsLooked lim search index → index < 256
  index_small search index looked =
      omega (arith, index_below search index looked, few_blocks search.class)

  -- it is the word of a block of the class
  is_block : (search : Search) (index : ℕ) → IsLooked lim search index
      → s.pages (page_in lim search) ≡ Some search.class
      → IsBlock setting s t (place_in_search lim search index) search.class
  is_block search index looked sized =
      let small = index_small search index looked in
      let page = page_of_place (page_in lim search) index small in
      record {
        page = subst (λ p. p < lim.pages) (sym page) (inside search);
        class_is = ap s.pages page ∙ sized;
        index = subst (λ i. i < class_blocks search.class) (sym (index_of_place (page_in lim search) index small))
            (index_below search index looked);
      }

  place_small : (search : Search) (index : ℕ) → IsLooked lim search index
      → place_in_search lim search index < 256 * lim.pages
  place_small search index looked = omega (arith, inside search, index_small search index looked)

  block_holds : (search : Search) (index : ℕ) → IsLooked lim search index
      → block_number search index ≡ block_word (s.blocks (place_in_search lim search index))
  block_holds search index looked =
      before.agrees.blocks (place_in_search lim search index) (place_small search index looked)

  -- a block whose word is not that of a free one is taken
  is_taken : (search : Search) (index : ℕ) (at : AllocAt) → class_at at ≡ search.class → Links at
      → IsLooked lim search index → s.pages (page_in lim search) ≡ Some search.class
      → (block_number search index % 4 ≡ 0 → ⊥) → Allowed setting s t (events.Taken (place_in_search lim search index))
  is_taken search index at class l looked sized busy = (
    search.class,
    subst (λ c. WantsBlock setting s t c) class (wants at l),
    is_block search index looked sized,
    λ free. busy (let none : use_word (s.blocks (place_in_search lim search index)).state ≡ 0 = ap use_word free in
        omega (arith, none, block_holds search index looked)),
  )

  load_block_by : (search : Search) (index : ℕ) (seen : BlockSeen) → SeesBlock (block_number search index) seen
      → Links (LoadBlock search index)
      → LooksOn lim search.class
      (left_behind_event (block_loaded lim search index seen) (ahead_of lim (LoadBlock search index)))
      (behind_block_load lim search index seen)
      → Makes setting t words s (alloc_op lim (LoadBlock search index)) (block_loaded lim search index seen)
      (changed setting s t (block_loaded lim search index seen))
      (moved_from_malloc lim (thread (LoadBlock search index)) (behind_block_load lim search index seen))
  load_block_by search index (Unused life) sees l looks =
      log_makes (LoadBlock search index) (SwapBlock search index life) (alloc_op lim (LoadBlock search index)) refl l
      refl looks.0 looks.1 l.stands.sized
  load_block_by search index Used sees l looks =
      struck_block (LoadBlock search index) (place_in_search lim search index) (behind_block lim search index)
      (alloc_op lim (LoadBlock search index)) refl l
      (is_taken search index (LoadBlock search index) refl l l.stands.reached l.stands.sized (sees.in_use refl))
      (block_goes lim s.pages search index l.stands.sized) looks
  load_block_by search index NoBlockWord sees l looks =
      log_makes (LoadBlock search index) (LoadBlock search index) (alloc_op lim (LoadBlock search index)) refl l refl
      looks.0 looks.1 l.stands.sized

  -- a free block is taken
  take_makes : (search : Search) (index life : ℕ) → block_number search index ≡ state_word life words_of.Free
      → Links (SwapBlock search index life)
      → IsPlace lim search.class (place_behind lim search.class (place_in_search lim search index))
      → Makes setting t words s (alloc_op lim (SwapBlock search index life))
      (events.Block (place_in_search lim search index)
      (block_start (place_in_search lim search index) search.class) (suc life))
      (changed setting s t (events.Block (place_in_search lim search index)
      (block_start (place_in_search lim search index) search.class) (suc life)))
      (going_on lim (slice_set cursors search.class
      (place_behind lim search.class (place_in_search lim search index))) (units + 1)
      (told rest (block_start (place_in_search lim search index) search.class)))
  take_makes search index life is l behind =
      let m = l.stands in
      let looked : IsLooked lim search index = m.reached.0 in
      let place = place_in_search lim search index in
      let start = block_start place search.class in
      let block = s.blocks place in
      let parts = word_parts block life 0 (sym (block_holds search index looked) ∙ is) (omega arith) in
      let free : block.state ≡ Free = use_free block.state parts.1 in
      let s' : State = with_block place (suc life) Live s in
      let after : State = answered lim t start s' in
      let runs = m.asking.runs in
      record {
        allowed = λ _. (
          search.class,
          wants (SwapBlock search index life) l,
          is_block search index looked m.sized,
          free,
          refl,
          ap suc (sym parts.0),
        );
        linked = answered_linked setting t s before.walks before.range s' start rest runs.doing (units + 1)
            (slice_set cursors search.class (place_behind lim search.class place)) runs.going
            (λ other held. none_freed place (suc life) other l.frees_so (cases_eq place other) held)
            (before.walks.move lim cursors search.class (place_behind lim search.class place) l.looks behind);
        others = replaced_passes setting t s s' (phase_answered lim s' start (s.threads t)) (all_same setting t s);
        leaves = leaves_block t s after place (block_in (suc life) Live) (record {
          life = omega (arith, parts.0);
          freed = λ u ne held. let known : Free ≡ Freeing u = sym free ∙ held in absurd (cc (known));
          begun = λ u ne held. absurd (cc (held));
        }) refl refl;
        agrees = subst (λ (v : ℕ). Agrees lim (slice_set words (first_block_word lim + place) v) after)
            (sym (swap_made (state_word life words_of.Free) (state_word (suc life) words_of.Live)
            (block_number search index) is))
            (agrees_changed lim words s after before.agrees place (block_in (suc life) Live)
            (place_small search index looked) before.roomy refl refl refl refl refl);
        prints = omega arith;
      }
    where
      none_freed : (place life other : ℕ) → FreesNone t s.blocks → ((place ≡ other) ⊎ (place ≡ other → ⊥))
          → (replaced s.blocks place (block_in life Live) other).state ≡ Freeing t → ⊥
      none_freed place life other none (inl e) held =
          let known : Live ≡ Freeing t =
          ap (λ (b : Block). b.state) (sym (replaced_same s.blocks place (block_in life Live)))
          ∙ (ap (λ p. (replaced s.blocks place (block_in life Live) p).state) e ∙ held) in absurd (cc (known))
      none_freed place life other none (inr ne) held =
          none other (ap (λ (b : Block). b.state) (sym (replaced_other s.blocks place (block_in life Live) other ne))
          ∙ held)

  swap_free_by : (search : Search) (index life seen : ℕ) (b : Bool) → (seen == life) ≡ b
      → block_number search index ≡ seen * 4 → Links (SwapBlock search index life)
      → LooksOn lim search.class
      (left_behind_event
      (if b then events.Block (place_in_search lim search index)
      (block_start (place_in_search lim search index) search.class) (suc life) else events.Log)
      (ahead_of lim (SwapBlock search index life)))
      (if b then Takes search.class (place_in_search lim search index) (suc life)
      else Looks (SwapBlock search index seen))
      → Makes setting t words s (alloc_op lim (SwapBlock search index life))
      (if b then events.Block (place_in_search lim search index)
      (block_start (place_in_search lim search index) search.class) (suc life) else events.Log)
      (changed setting s t (if b then events.Block (place_in_search lim search index)
      (block_start (place_in_search lim search index) search.class) (suc life) else events.Log))
      (moved_from_malloc lim (thread (SwapBlock search index life))
      (if b then Takes search.class (place_in_search lim search index) (suc life)
      else Looks (SwapBlock search index seen)))
  swap_free_by search index life seen true same is l looks =
      let e = eqb-true seen life same in
      take_makes search index life (omega (arith, is, e)) l looks.2
  swap_free_by search index life seen false other is l looks =
      log_makes (SwapBlock search index life) (SwapBlock search index seen) (alloc_op lim (SwapBlock search index life))
      (swap_kept (state_word life words_of.Free) (state_word (suc life) words_of.Live) (block_number search index)
      (λ e. let same : (seen == life) ≡ true = eq-eqb seen life (omega (arith, e, is)) in absurd (cc (same, other)))) l
      refl looks.0 looks.1 l.stands.sized

  swap_block_by : (search : Search) (index life : ℕ) (seen : BlockSeen)
      → block_seen (block_number search index) ≡ seen → SeesBlock (block_number search index) seen
      → Links (SwapBlock search index life)
      → LooksOn lim search.class
      (left_behind_event (block_swapped lim search index life seen) (ahead_of lim (SwapBlock search index life)))
      (behind_block_swap lim search index life seen)
      → Makes setting t words s (alloc_op lim (SwapBlock search index life)) (block_swapped lim search index life seen)
      (changed setting s t (block_swapped lim search index life seen))
      (moved_from_malloc lim (thread (SwapBlock search index life)) (behind_block_swap lim search index life seen))
  swap_block_by search index life (Unused seen) is sees l looks =
      swap_free_by search index life seen (seen == life) refl (sees.free seen refl).0 l looks
  swap_block_by search index life Used is sees l looks =
      struck_block (SwapBlock search index life) (place_in_search lim search index) (behind_block lim search index)
      (alloc_op lim (SwapBlock search index life))
      (swap_kept (state_word life words_of.Free) (state_word (suc life) words_of.Live) (block_number search index)
      (λ e. sees.in_use refl (omega (arith, e)))) l
      (is_taken search index (SwapBlock search index life) refl l l.stands.reached.0 l.stands.sized (sees.in_use refl))
      (block_goes lim s.pages search index l.stands.sized) looks
  swap_block_by search index life NoBlockWord is sees l looks =
      log_makes (SwapBlock search index life) (SwapBlock search index life) (alloc_op lim (SwapBlock search index life))
      (swap_kept (state_word life words_of.Free) (state_word (suc life) words_of.Live) (block_number search index)
      (λ e. let known : Unused life ≡ NoBlockWord =
      sym (free_seen life l.stands.reached.1) ∙ (ap block_seen (sym e) ∙ is) in absurd (cc (known)))) l refl looks.0
      looks.1 l.stands.sized

  -- EACH ROW

  pub malloc_makes : (at : AllocAt) (old : ℕ) → old ≡ answer_on words (alloc_op lim at) → Links at
      → Makes setting t words s (alloc_op lim at) (alloc_event lim at old)
      (changed setting s t (alloc_event lim at old)) (moved_from_malloc lim (thread at) (alloc_next lim at old))
  malloc_makes (LoadPage search) old is l =
      subst (λ n. Makes setting t words s (alloc_op lim (LoadPage search)) (alloc_event lim (LoadPage search) n)
      (changed setting s t (alloc_event lim (LoadPage search) n))
      (moved_from_malloc lim (thread (LoadPage search)) (alloc_next lim (LoadPage search) n))) (sym is)
      (load_page_by search (page_seen search.class (page_number search)) (sees_page search.class (page_number search)) l
      (before.walks.look_on lim (LoadPage search) (page_number search) before.range l.stands.reached))
  malloc_makes (SwapPage search) old is l =
      subst (λ n. Makes setting t words s (alloc_op lim (SwapPage search)) (alloc_event lim (SwapPage search) n)
      (changed setting s t (alloc_event lim (SwapPage search) n))
      (moved_from_malloc lim (thread (SwapPage search)) (alloc_next lim (SwapPage search) n))) (sym is)
      (swap_page_by search (page_seen search.class (page_number search)) (sees_page search.class (page_number search)) l
      (before.walks.look_on lim (SwapPage search) (page_number search) before.range l.stands.reached))
  malloc_makes (LoadBlock search index) old is l =
      subst (λ n. Makes setting t words s (alloc_op lim (LoadBlock search index))
      (alloc_event lim (LoadBlock search index) n) (changed setting s t (alloc_event lim (LoadBlock search index) n))
      (moved_from_malloc lim (thread (LoadBlock search index)) (alloc_next lim (LoadBlock search index) n))) (sym is)
      (load_block_by search index (block_seen (block_number search index)) (sees_block (block_number search index)) l
      (before.walks.look_on lim (LoadBlock search index) (block_number search index) before.range l.stands.reached))
  malloc_makes (SwapBlock search index life) old is l =
      subst (λ n. Makes setting t words s (alloc_op lim (SwapBlock search index life))
      (alloc_event lim (SwapBlock search index life) n)
      (changed setting s t (alloc_event lim (SwapBlock search index life) n))
      (moved_from_malloc lim (thread (SwapBlock search index life)) (alloc_next lim (SwapBlock search index life) n)))
      (sym is)
      (swap_block_by search index life (block_seen (block_number search index)) refl
      (sees_block (block_number search index)) l
      (before.walks.look_on lim (SwapBlock search index life) (block_number search index) before.range
      l.stands.reached))
