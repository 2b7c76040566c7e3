-- Which places are ahead of a malloc, before and behind a step: over numbers.
use Rattle.std.proofs.Common.{◌≡◌, ℕ, suc, ◌+◌, ◌*◌, ◌<◌, ◌≤◌, ◌==◌, Bool, true, false, ◌&&◌, not}
use Rattle.std.proofs.Common.{sym, inl, inr, ◌⊎◌, arith}
use Rattle.std.proofs.lemmas.Bool.{cases_eq, false_from_ne_true}
use Rattle.std.proofs.lemmas.Bool.Decides.{Decides-and, Decides-eqb, Decides-not, Decides-like, same_from_decides}
use Rattle.ds_alloc_laws.proofs.Visits.{Comes, Stands, IsAhead, ahead_test, ahead_decides}

-- a malloc looks at the block of this index in the visit behind so many
pub record Looked (pages first from blocks visits passed index : ℕ) : Type 0 where
  pub first_in : first < pages
  pub from_in : from < blocks
  pub few : blocks ≤ 256
  pub within : passed < visits
  pub visits_end : visits ≤ suc pages
  pub least : (0 < passed) ⊎ (from ≤ index)
  pub last : (passed < pages) ⊎ (index < from)
  pub most : index < blocks

-- what is ahead of the first block of the next visit is in that one or a later one
module _ (next visit block : ℕ) where
  next_by : (visit ≡ next) ⊎ (visit ≡ next → ⊥) → next ≤ visit → (next < visit) ⊎ ((next ≡ visit) × (0 ≤ block))
  next_by (inl same) le = inr (sym same, omega arith)
  next_by (inr other) le = inl (omega arith)

  next_or_later : next ≤ visit → (next < visit) ⊎ ((next ≡ visit) × (0 ≤ block))
  next_or_later le = next_by (cases_eq visit next) le

  later_or_next : (next < visit) ⊎ ((next ≡ visit) × (0 ≤ block)) → next ≤ visit
  later_or_next (inl lt) = omega arith
  later_or_next (inr same) = omega (arith, same.0)

-- A place: its page and block, the visit in which a malloc comes to it, and what the malloc has seen before.
module _ (pages first from blocks visits passed index now page block visit : ℕ)
    (looked : Looked pages first from blocks visits passed index) (stands : Stands pages first passed now)
    (comes : Comes pages first from page block visit) (page_in : page < pages) (block_in : block < blocks) where
  abbrev Before : Type 0
  Before = IsAhead visits passed index visit block

  abbrev before : Bool
  before = ahead_test visits passed index visit block

  abbrev Behind : Type 0
  Behind = IsAhead visits passed (suc index) visit block

  abbrev behind : Bool
  behind = ahead_test visits passed (suc index) visit block

  -- in this visit it comes to the places of its page alone
  meets_page : passed ≡ visit → page ≡ now
  meets_page same = omega (arith, looked, comes, stands)

  -- and it comes to the block that it looks at in this one
  pub meets_block : page ≡ now → block ≡ index → passed ≡ visit
  meets_block page_is block_is = omega (arith, looked, comes, stands)

  module _ (place at : ℕ) (place_is : place ≡ 256 * page + block) (at_is : at ≡ 256 * now + index) where
    struck : (Before × (place ≡ at → ⊥)) → Behind
    struck ((lt, inl more), other) = (lt, inl more)
    struck ((lt, inr (same, le)), other) = let page_is = meets_page same in (lt, inr (same, omega arith))

    unstruck : Behind → (Before × (place ≡ at → ⊥))
    unstruck (lt, inl more) = ((lt, inl more), elsewhere)
      where
        elsewhere : place ≡ at → ⊥
        elsewhere same =
            let page_is : page ≡ now = omega (arith, looked, block_in) in
            let block_is : block ≡ index = omega (arith, looked, block_in) in
            let visit_is = meets_block page_is block_is in omega arith
    unstruck (lt, inr (same, le)) = ((lt, inr (same, omega arith)), elsewhere)
      where
        elsewhere : place ≡ at → ⊥
        elsewhere same = let block_is : block ≡ index = omega (arith, looked, block_in) in omega arith

    -- behind a block that is in use the others are ahead
    pub block_struck : (before && not (place == at)) ≡ behind
    block_struck =
        same_from_decides (before && not (place == at)) behind
        (Decides-like (before && not (place == at)) struck unstruck
        (Decides-and before (not (place == at)) (ahead_decides visits passed index visit block)
        (Decides-not (place == at) (Decides-eqb place at))))
        (ahead_decides visits passed (suc index) visit block)

  -- the index behind the last one of the visit
  module _ (end : ℕ) (end_is : ((passed ≡ pages) × (end ≡ from)) ⊎ ((passed < pages) × (end ≡ blocks)))
      (through : end ≤ suc index) where
    turned : Behind → IsAhead visits (suc passed) 0 visit block
    turned (lt, inl more) = (lt, next_or_later (suc passed) visit block more)
    turned (lt, inr (same, le)) = absurd (omega (arith, looked, comes, end_is))

    unturned : IsAhead visits (suc passed) 0 visit block → Behind
    unturned ahead = (ahead.0, inl (later_or_next (suc passed) visit block ahead.1))

    -- behind the last block of a page those of the next one are ahead
    pub page_turned : behind ≡ ahead_test visits (suc passed) 0 visit block
    page_turned =
        same_from_decides behind (ahead_test visits (suc passed) 0 visit block)
        (Decides-like behind turned unturned (ahead_decides visits passed (suc index) visit block))
        (ahead_decides visits (suc passed) 0 visit block)

-- The page of the visit has another class; if it is the first page, the malloc does not come back to it, and so makes
-- only as many visits as there are pages.
module _ (pages first from visits passed index now page block visit left : ℕ) (first_in : first < pages)
    (left_is : ((passed ≡ 0) × (left ≡ pages)) ⊎ ((0 < passed) × (left ≡ visits)))
    (visits_end : (visits ≡ suc pages) ⊎ (visits ≡ pages)) (stands : Stands pages first passed now)
    (comes : Comes pages first from page block visit) (page_in : page < pages) where
  abbrev here : Bool
  here = ahead_test visits passed index visit block

  abbrev next : Bool
  next = ahead_test left (suc passed) 0 visit block

  passes : (IsAhead visits passed index visit block × (page ≡ now → ⊥)) → IsAhead left (suc passed) 0 visit block
  passes ((lt, inl more), other) =
      (omega (arith, comes, stands, left_is, visits_end), next_or_later (suc passed) visit block more)
  passes ((lt, inr (same, le)), other) = absurd (other (omega (arith, comes, stands)))

  unpasses : IsAhead left (suc passed) 0 visit block → (IsAhead visits passed index visit block × (page ≡ now → ⊥))
  unpasses (lt, more) = ((omega (arith, left_is, visits_end), inl past), elsewhere)
    where
      past : suc passed ≤ visit
      past = later_or_next (suc passed) visit block more

      elsewhere : page ≡ now → ⊥
      elsewhere same = omega (arith, past, comes, stands, left_is, visits_end)

  -- the places of the other pages are ahead
  pub page_struck : (here && not (page == now)) ≡ next
  page_struck =
      same_from_decides (here && not (page == now)) next
      (Decides-like (here && not (page == now)) passes unpasses
      (Decides-and here (not (page == now)) (ahead_decides visits passed index visit block)
      (Decides-not (page == now) (Decides-eqb page now))))
      (ahead_decides left (suc passed) 0 visit block)

-- behind the last visit nothing is ahead
pub past_test : (visits passed index visit block : ℕ) → visits ≤ passed
    → ahead_test visits passed index visit block ≡ false
past_test visits passed index visit block past =
    false_from_ne_true (ahead_test visits passed index visit block)
    (λ is. none ((ahead_decides visits passed index visit block).0 is))
  where
    none : IsAhead visits passed index visit block → ⊥
    none (lt, inl more) = omega arith
    none (lt, inr same) = omega (arith, same.0)

-- the block at which it is, is ahead
pub here_test : (visits passed index visit block : ℕ) → passed < visits → passed ≡ visit → index ≤ block
    → ahead_test visits passed index visit block ≡ true
here_test visits passed index visit block within same le =
    (ahead_decides visits passed index visit block).1 (omega arith, inr (same, le))

-- at first all is ahead
module _ (pages first from page block visit visits : ℕ) (first_in : first < pages) (page_in : page < pages)
    (visits_is : ((0 < from) × (visits ≡ suc pages)) ⊎ ((from ≡ 0) × (visits ≡ pages))) where
  not_passed : Comes pages first from page block visit → (0 < visit) ⊎ ((0 ≡ visit) × (from ≤ block))
  not_passed (inl last) = inl (omega (arith, last.2))
  not_passed (inr (inl begins)) = inr (sym begins.2, begins.1)
  not_passed (inr (inr (inl behind))) = inl (omega (arith, behind.0, behind.1))
  not_passed (inr (inr (inr before))) = inl (omega (arith, before.0, before.1))

  pub first_test : Comes pages first from page block visit → ahead_test visits 0 from visit block ≡ true
  first_test comes = (ahead_decides visits 0 from visit block).1 (omega (arith, comes, visits_is), not_passed comes)
