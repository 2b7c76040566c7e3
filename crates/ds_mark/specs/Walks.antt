-- What contracts see of one free as a machine.
use Rattle.std.specs.Prelude.{◌≡◌, ℕ, ◌*◌, ◌<◌, true, Option, Some, None, refl}
use Rattle.ds_map.specs.Bounds.{Bounds, IsInRange}
use Rattle.ds_pages.specs.declared.BlockState.{BlockState}
use Rattle.ds_pages.specs.declared.BlockState.TheVariants as states
use Rattle.ds_pages.specs.Words.{is_page_word, block_at, read_state}
use Rattle.ds_plain.specs.declared.FreeAt.{FreeAt}
use Rattle.ds_plain.specs.declared.FreeAt.TheVariants.{LoadPage, LoadBlock, SwapBlock, StoreFree}
use Rattle.ds_plain.specs.Freeing.{FreeNext, FreesOn, Freed, FailsFree, LifeSeen, StartSeen}
use Rattle.ds_plain.specs.Freeing as seen
use Rattle.ds_plain.specs.Reached.{IsFreeAt}
use Rattle.ds_mark.specs.declared.outcome.FreeOutcome.{FreeOutcome}
use Rattle.ds_mark.specs.declared.outcome.FreeOutcome.TheVariants.{Done, Trap}
use Rattle.ds_mark.specs.declared.outcome.FreeStep.{FreeStep}
use Rattle.ds_mark.specs.declared.outcome.FreeStep.TheVariants as steps
use Rattle.ds_mark.specs.declared.seen.PageWord.{PageWord}
use Rattle.ds_mark.specs.declared.seen.PageWord.TheVariants as pages
use Rattle.ds_mark.specs.declared.seen.BlockWord.{BlockWord}
use Rattle.ds_mark.specs.declared.seen.BlockWord.TheVariants as words

pub record FreeState : Type 0 where
  -- the limits of the run
  pub lim : Bounds
  -- what came of its steps so far
  pub next : FreeNext

-- the position from which it goes on, while it does
abbrev pub frees_at : FreeNext → Option FreeAt
frees_at (FreesOn at) = Some at
frees_at Freed = None
frees_at (FailsFree trap) = None

-- what it came to, once it goes on no more
abbrev pub outcome_of : FreeNext → Option FreeOutcome
outcome_of (FreesOn at) = None
outcome_of Freed = Some Done
outcome_of (FailsFree trap) = Some (Trap trap)

-- WHY A FREE FAILS

-- it stands at the load of its page, and this page word says that no block starts at its address
abbrev pub StartsNone : FreeAt → (old : ℕ) → Type 0
StartsNone (LoadPage address) old = (is_page_word old ≡ true) × (block_at address old ≡ None)
StartsNone (LoadBlock address place) old = ⊥
StartsNone (SwapBlock address place life) old = ⊥
StartsNone (StoreFree place life) old = ⊥

-- the word is that of a block in another life or state than this
abbrev pub IsOther : Option (ℕ × BlockState) → (life : ℕ) → Type 0
IsOther None life = ⊥
IsOther (Some (seen, states.Free)) life = Unit {0}
IsOther (Some (seen, states.Live)) life = ¬ (seen ≡ life)
IsOther (Some (seen, states.Freeing)) life = Unit {0}

-- the word is that of a block that is not live
abbrev pub IsInNoLife : Option (ℕ × BlockState) → Type 0
IsInNoLife None = ⊥
IsInNoLife (Some (seen, states.Free)) = Unit {0}
IsInNoLife (Some (seen, states.Live)) = ⊥
IsInNoLife (Some (seen, states.Freeing)) = Unit {0}

-- it stands at the load of its block, whose word says that the block is not live, or at the compare-and-swap, which says
-- that it is not live in the life in which it was seen
abbrev pub IsNotLive : FreeAt → (old : ℕ) → Type 0
IsNotLive (LoadPage address) old = ⊥
IsNotLive (LoadBlock address place) old = IsInNoLife (read_state old)
IsNotLive (SwapBlock address place life) old = IsOther (read_state old) life
IsNotLive (StoreFree place life) old = ⊥

-- HELPERS: no clause of a public call speaks of them

-- what came of a step, as the code has it
abbrev pub next_in : FreeStep → FreeNext
next_in (steps.FreesOn at) = FreesOn at
next_in steps.Freed = Freed
next_in (steps.FailsFree trap) = FailsFree trap

abbrev pub step_in : FreeNext → FreeStep
step_in (FreesOn at) = steps.FreesOn at
step_in Freed = steps.Freed
step_in (FailsFree trap) = steps.FailsFree trap

pub step_in_next : (step : FreeStep) → step_in (next_in step) ≡ step
step_in_next (steps.FreesOn at) = refl
step_in_next steps.Freed = refl
step_in_next (steps.FailsFree trap) = refl

abbrev pub state_of : Bounds → FreeStep → FreeState
state_of lim step = record { lim = lim; next = next_in step }

-- what came of its steps is a position that it reaches, or its end
abbrev pub IsNext : Bounds → FreeNext → Type 0
IsNext lim (FreesOn at) = IsFreeAt lim at
IsNext lim Freed = Unit {0}
IsNext lim (FailsFree trap) = Unit {0}

pub record IsKept (lim : Bounds) (step : FreeStep) : Type 0 where
  pub range : IsInRange lim
  pub stands : IsNext lim (next_in step)

-- what a page word says of an address, as the code has it
abbrev pub start_in : PageWord → StartSeen
start_in (pages.StartOf place) = seen.StartOf place
start_in pages.NoStart = seen.NoStart
start_in pages.NoPageWord = seen.NoPageWord

-- a place is one of the heap
abbrev pub IsWithin : Bounds → PageWord → Type 0
IsWithin lim (pages.StartOf place) = place < 256 * lim.pages
IsWithin lim pages.NoStart = Unit {0}
IsWithin lim pages.NoPageWord = Unit {0}

-- what a block word says, as the code has it
abbrev pub life_in : BlockWord → LifeSeen
life_in (words.LiveIn life) = seen.LiveIn life
life_in words.NotLive = seen.NotLive
life_in words.NoBlockWord = seen.NoBlockWord
