-- Which places are ahead of a malloc, before and behind a step.
use Rattle.std.proofs.Common.{◌≡◌, ℕ, suc, ◌<◌, ◌≤◌, ◌==◌, Bool, true, false, ◌&&◌, not}
use Rattle.std.proofs.Common.{[], refl, sym, ap, ◌∙◌, inl, inr, ◌⊎◌, arith}
use Rattle.std.specs.Prelude.{if◌then◌else◌}
use Rattle.std.specs.List.{filter}
use Rattle.std.proofs.lemmas.Bool.{cases_eq, eq-eqb, ne_eqb, false≢true}
use Rattle.ds_map.specs.Bounds.{Bounds, IsInRange}
use Rattle.ds_map.specs.Blocks.{class_blocks, page_of, index_of, places_of_class}
use Rattle.ds_plain.specs.declared.Search.{Search}
use Rattle.ds_plain.specs.Plain.{without}
use Rattle.ds_plain.specs.Searching.{search_from, page_in, first_index, end_index, place_in_search, visits}
use Rattle.ds_plain.specs.Reached.{IsPlace, IsSearch, IsLooked, visit_of, is_ahead, ahead}
use Rattle.ds_alloc_laws.proofs.Members.{left_kept, same_kept, none_kept, all_kept, each_refused, few_blocks}
use Rattle.ds_alloc_laws.proofs.Members.{places_each, places_at, is_place, page_of_place, index_of_place}
use Rattle.ds_alloc_laws.proofs.Visits.{Comes, comes, Stands, stands}
use Rattle.ds_alloc_laws.proofs.Ahead.{Looked, meets_block, block_struck, page_turned, page_struck}
use Rattle.ds_alloc_laws.proofs.Ahead.{past_test, here_test, first_test}

-- NUMBERS OF A SEARCH

-- which of two numbers a test chooses
abbrev Chosen : (b : Bool) (x y number : ℕ) → Type 0
Chosen b x y number = ((b ≡ true) × (number ≡ x)) ⊎ ((b ≡ false) × (number ≡ y))

chosen : (b : Bool) (x y : ℕ) → Chosen b x y (if b then x else y)
chosen true x y = inl (refl, refl)
chosen false x y = inr (refl, refl)

-- which of two numbers a test for equality chooses
abbrev ChosenEqual : (a b x y number : ℕ) → Type 0
ChosenEqual a b x y number = ((a ≡ b) × (number ≡ x)) ⊎ ((a ≡ b → ⊥) × (number ≡ y))

chosen_by : (a b x y : ℕ) → (a ≡ b) ⊎ (a ≡ b → ⊥) → ChosenEqual a b x y (if a == b then x else y)
chosen_by a b x y (inl same) = inl (same, ap (λ (t : Bool). if t then x else y) (eq-eqb a b same))
chosen_by a b x y (inr other) = inr (other, ap (λ (t : Bool). if t then x else y) (ne_eqb a b other))

chosen_equal : (a b x y : ℕ) → ChosenEqual a b x y (if a == b then x else y)
chosen_equal a b x y = chosen_by a b x y (cases_eq a b)

module _ (lim : Bounds) (search : Search) where
  visits_is : Chosen search.again (suc lim.pages) lim.pages (visits lim search)
  visits_is = chosen search.again (suc lim.pages) lim.pages

  visits_end : (visits lim search ≡ suc lim.pages) ⊎ (visits lim search ≡ lim.pages)
  visits_end = grind (arith, visits_is)

  first_is : ChosenEqual search.passed 0 (index_of search.first) 0 (first_index search)
  first_is = chosen_equal search.passed 0 (index_of search.first) 0

  module _ (is : IsSearch lim search) where
    within_pages : search.passed ≤ lim.pages
    within_pages = omega (arith, is.passed, visits_end)

    -- the last visit ends before the first place
    abbrev End : Type 0
    End = ((search.passed ≡ lim.pages) × (end_index lim search ≡ index_of search.first))
        ⊎ ((search.passed < lim.pages) × (end_index lim search ≡ class_blocks search.class))

    end_by : ChosenEqual search.passed lim.pages (index_of search.first) (class_blocks search.class)
        (end_index lim search) → End
    end_by (inl last) = inl last
    end_by (inr other) = let ne = other.0 in let le = within_pages in inr (omega arith, other.1)

    pub end_is : End
    end_is = end_by (chosen_equal search.passed lim.pages (index_of search.first) (class_blocks search.class))

    some_before : search.passed ≡ lim.pages → Chosen search.again (suc lim.pages) lim.pages (visits lim search)
        → 0 < index_of search.first
    some_before last (inl again) = is.again again.0
    some_before last (inr once) = absurd (omega (arith, is.passed, once.1))

    most_by : End → 1 ≤ lim.pages → first_index search < end_index lim search
    most_by (inl last) some = let before = some_before last.0 visits_is in omega (arith, last, before, first_is)
    most_by (inr other) some = omega (arith, other, first_is, is.place.index)

    -- it looks at the first block of its page
    pub first_looked : IsInRange lim → IsLooked lim search (first_index search)
    first_looked range = record { comes = is; least = omega arith; most = most_by end_is range.some_page }

    -- the page at which it looks
    pub standing : Stands lim.pages (page_of search.first) search.passed (page_in lim search)
    standing = stands lim.pages (page_of search.first) search.passed is.place.page within_pages

    -- the visit in which it comes to a place
    pub coming : (place : ℕ) → IsPlace lim search.class place
        → Comes lim.pages (page_of search.first) (index_of search.first) (page_of place) (index_of place)
        (visit_of lim search.first place)
    coming place member =
        comes lim.pages (page_of search.first) (index_of search.first) (page_of place) (index_of place)
        is.place.page member.page

  module _ (index : ℕ) (is : IsLooked lim search index) where
    least_by : ChosenEqual search.passed 0 (index_of search.first) 0 (first_index search)
        → (0 < search.passed) ⊎ (index_of search.first ≤ index)
    least_by (inl here) = inr (omega (arith, here.1, is.least))
    least_by (inr behind) = let ne = behind.0 in inl (omega arith)

    last_by : End is.comes → (search.passed < lim.pages) ⊎ (index < index_of search.first)
    last_by (inl last) = inr (omega (arith, last.1, is.most))
    last_by (inr other) = inl other.0

    pub looked : Looked lim.pages (page_of search.first) (index_of search.first) (class_blocks search.class)
        (visits lim search) search.passed index
    looked = record {
      first_in = is.comes.place.page;
      from_in = is.comes.place.index;
      few = few_blocks search.class is.comes.place.class_is;
      within = is.comes.passed;
      visits_end = omega (arith, visits_end);
      least = least_by first_is;
      last = last_by (end_is is.comes);
      most = omega (arith, is.most, end_is is.comes, is.comes.place.index);
    }

-- BEHIND A BLOCK OR A PAGE

-- a malloc in its next visit
abbrev pub next_visit : Search → Search
next_visit search = record search { passed = suc search.passed }

-- a malloc that has seen another class: if this is in the page of its first place, it does not come back to it
abbrev pub behind_other : Search → Search
behind_other search = record search { again = search.again && not (search.passed == 0) }

module _ (lim : Bounds) (search : Search) (index : ℕ) where
  module _ (is : IsLooked lim search index) where
    -- behind a block that is in use: the others
    pub block_left : without (place_in_search lim search index) (ahead lim search index)
        ≡ ahead lim search (suc index)
    block_left =
        let at = place_in_search lim search index in
        left_kept (is_ahead lim search index) (λ (m : ℕ). not (m == at)) (is_ahead lim search (suc index))
        (places_of_class lim search.class)
        (places_each (λ (place : ℕ). (is_ahead lim search index place && not (place == at))
        ≡ is_ahead lim search (suc index) place) lim search.class is.comes.place.class_is (λ place member.
        block_struck lim.pages (page_of search.first) (index_of search.first) (class_blocks search.class)
        (visits lim search) search.passed index (page_in lim search) (page_of place) (index_of place)
        (visit_of lim search.first place) (looked lim search index is) (standing lim search is.comes)
        (coming lim search is.comes place member) member.page member.index place at (omega arith) refl))

    -- behind the last block of a page: those of the next visit
    pub turned_left : end_index lim search ≤ suc index
        → ahead lim search (suc index) ≡ ahead lim (next_visit search) 0
    turned_left through =
        same_kept (is_ahead lim search (suc index)) (is_ahead lim (next_visit search) 0)
        (places_of_class lim search.class)
        (places_each (λ (place : ℕ). is_ahead lim search (suc index) place
        ≡ is_ahead lim (next_visit search) 0 place) lim search.class is.comes.place.class_is (λ place member.
        page_turned lim.pages (page_of search.first) (index_of search.first) (class_blocks search.class)
        (visits lim search) search.passed index (page_in lim search) (page_of place) (index_of place)
        (visit_of lim search.first place) (looked lim search index is) (standing lim search is.comes)
        (coming lim search is.comes place member) member.page member.index (end_index lim search)
        (end_is lim search is.comes) through))

    -- the place at which it looks is ahead
    pub here_ahead : ¬ (ahead lim search index ≡ [])
    here_ahead none =
        let at = place_in_search lim search index in
        let l = looked lim search index is in
        let low : index < 256 = omega (arith, l.most, l.few) in
        let block = index_of_place (page_in lim search) index low in
        let member = is_place lim search.class (page_in lim search) index is.comes.place.class_is
        (standing lim search is.comes).0 l.most in
        let visit : search.passed ≡ visit_of lim search.first at =
        meets_block lim.pages (page_of search.first) (index_of search.first) (class_blocks search.class)
        (visits lim search) search.passed index (page_in lim search) (page_of at) (index_of at)
        (visit_of lim search.first at) l (standing lim search is.comes) (coming lim search is.comes at member)
        member.page member.index (page_of_place (page_in lim search) index low) block in
        let refused : is_ahead lim search index at ≡ false =
        places_at (λ (place : ℕ). is_ahead lim search index place ≡ false) lim search.class
        (each_refused (is_ahead lim search index) (places_of_class lim search.class) none) at member in
        false≢true (sym refused ∙ here_test (visits lim search) search.passed index (visit_of lim search.first at)
        (index_of at) l.within visit (omega (arith, block)))

  module _ (is : IsSearch lim search) where
    -- how many visits are left behind a page of another class
    abbrev Left : Type 0
    Left = ((search.passed ≡ 0) × (visits lim (behind_other search) ≡ lim.pages))
        ⊎ ((0 < search.passed) × (visits lim (behind_other search) ≡ visits lim search))

    once : (b : Bool) → (if b && false then suc lim.pages else lim.pages) ≡ lim.pages
    once true = refl
    once false = refl

    and_true : (b : Bool) → (b && true) ≡ b
    and_true true = refl
    and_true false = refl

    left_by : (search.passed ≡ 0) ⊎ (search.passed ≡ 0 → ⊥) → Left
    left_by (inl here) = inl (here, rw (eq-eqb search.passed 0 here) (once search.again))
    left_by (inr behind) = inr (
      omega arith,
      rw (ne_eqb search.passed 0 behind)
          (ap (λ (b : Bool). if b then suc lim.pages else lim.pages) (and_true search.again)),
    )

    -- behind a page of another class: those of the other pages
    pub other_left : filter (λ (place : ℕ). not (page_of place == page_in lim search)) (ahead lim search index)
        ≡ ahead lim (next_visit (behind_other search)) 0
    other_left =
        left_kept (is_ahead lim search index) (λ (place : ℕ). not (page_of place == page_in lim search))
        (is_ahead lim (next_visit (behind_other search)) 0) (places_of_class lim search.class)
        (places_each (λ (place : ℕ). (is_ahead lim search index place && not (page_of place == page_in lim search))
        ≡ is_ahead lim (next_visit (behind_other search)) 0 place) lim search.class is.place.class_is
        (λ place member.
        page_struck lim.pages (page_of search.first) (index_of search.first) (visits lim search) search.passed index
        (page_in lim search) (page_of place) (index_of place) (visit_of lim search.first place)
        (visits lim (behind_other search)) is.place.page (left_by (cases_eq search.passed 0))
        (visits_end lim search) (standing lim search is) (coming lim search is place member) member.page))

  -- where no visit is left, no place is
  pub none_ahead : search.class < 15 → visits lim search ≤ search.passed → ahead lim search index ≡ []
  none_ahead known past =
      none_kept (is_ahead lim search index) (places_of_class lim search.class)
      (places_each (λ (place : ℕ). is_ahead lim search index place ≡ false) lim search.class known (λ place member.
      past_test (visits lim search) search.passed index (visit_of lim search.first place) (index_of place) past))

-- BEFORE THE FIRST STEP

module _ (lim : Bounds) (class first : ℕ) (range : IsInRange lim) (place : IsPlace lim class first) where
  -- it comes back to its first page if it begins behind the first block of it
  abbrev Begun : ℕ → Type 0
  Begun from =
      ((0 < from) × ((if not (from == 0) then suc lim.pages else lim.pages) ≡ suc lim.pages))
      ⊎ ((from ≡ 0) × ((if not (from == 0) then suc lim.pages else lim.pages) ≡ lim.pages))

  begun_by : (from : ℕ) → (from ≡ 0) ⊎ (from ≡ 0 → ⊥) → Begun from
  begun_by from (inl none) = inr (none, rw (eq-eqb from 0 none))
  begun_by from (inr some) = inl (omega arith, rw (ne_eqb from 0 some))

  begun_is : Begun (index_of first)
  begun_is = begun_by (index_of first) (cases_eq (index_of first) 0)

  some_by : (from : ℕ) → (from ≡ 0) ⊎ (from ≡ 0 → ⊥) → not (from == 0) ≡ true → 0 < from
  some_by from (inl none) again = absurd (false≢true (rw (eq-eqb from 0 none) at again))
  some_by from (inr some) again = omega arith

  pub begun : IsSearch lim (search_from class first)
  begun = record {
    place = place;
    passed = omega (arith, range.some_page, begun_is);
    again = some_by (index_of first) (cases_eq (index_of first) 0);
  }

  -- all places of the class are ahead
  pub all_ahead : ahead lim (search_from class first) (index_of first) ≡ places_of_class lim class
  all_ahead =
      let search : Search = search_from class first in
      all_kept (is_ahead lim search (index_of first)) (places_of_class lim class)
      (places_each (λ (other : ℕ). is_ahead lim search (index_of first) other ≡ true) lim class place.class_is
      (λ other member. first_test lim.pages (page_of first) (index_of first) (page_of other) (index_of other)
      (visit_of lim first other) (visits lim search) place.page member.page begun_is
      (coming lim search begun other member)))
