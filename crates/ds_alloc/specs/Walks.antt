-- What contracts see of one malloc as a machine.
use Rattle.std.specs.Prelude.{◌≡◌, ℕ, ◌-◌, ◌^◌, ◌<◌, Option, Some, None, List, [], refl}
use Rattle.ds_map.specs.Bounds.{Bounds, IsInRange}
use Rattle.ds_plain.specs.declared.AllocAt.{AllocAt}
use Rattle.ds_plain.specs.Searching.{AllocNext, Looks, Takes, TakesNone, BlockSeen}
use Rattle.ds_plain.specs.Searching as seen
use Rattle.ds_plain.specs.Reached.{IsPlace, IsAllocAt, ahead_of}
use Rattle.ds_alloc.specs.declared.outcome.AllocOutcome.{AllocOutcome}
use Rattle.ds_alloc.specs.declared.outcome.AllocOutcome.TheVariants.{Block, Null}
use Rattle.ds_alloc.specs.declared.outcome.AllocStep.{AllocStep}
use Rattle.ds_alloc.specs.declared.outcome.AllocStep.TheVariants as steps
use Rattle.ds_alloc.specs.declared.seen.BlockWord.{BlockWord}
use Rattle.ds_alloc.specs.declared.seen.BlockWord.TheVariants as words

pub record AllocState : Type 0 where
  -- the limits of the run
  pub lim : Bounds
  -- what came of its steps so far
  pub next : AllocNext

-- the position at which it looks, while it does
abbrev pub looks_at : AllocNext → Option AllocAt
looks_at (Looks at) = Some at
looks_at (Takes class place life) = None
looks_at TakesNone = None

-- what it came to, once it looks no more
abbrev pub outcome_of : AllocNext → Option AllocOutcome
outcome_of (Looks at) = None
outcome_of (Takes class place life) = Some (Block place life)
outcome_of TakesNone = Some Null

-- a block that was taken lies at a place of its class
abbrev pub IsTaken : Bounds → AllocNext → Type 0
IsTaken lim (Looks at) = Unit {0}
IsTaken lim (Takes class place life) = IsPlace lim class place
IsTaken lim TakesNone = Unit {0}

-- These places were left by the steps that led here: while it looks all to which it still comes, some where it has
-- taken a block, and none where it has seen each to be unavailable.
abbrev pub Leaves : Bounds → AllocNext → List ℕ → Type 0
Leaves lim (Looks at) left = left ≡ ahead_of lim at
Leaves lim (Takes class place life) left = ¬ (left ≡ [])
Leaves lim TakesNone left = left ≡ []

-- of the places of its class, these were left by the steps of a malloc
abbrev pub IsLeft : AllocState → List ℕ → Type 0
IsLeft walk left = Leaves walk.lim walk.next left

-- HELPERS: no clause of a public call speaks of them

-- what came of a step, as the code has it
abbrev pub next_in : AllocStep → AllocNext
next_in (steps.Looks at) = Looks at
next_in (steps.Takes class place life) = Takes class place life
next_in steps.TakesNone = TakesNone

abbrev pub step_in : AllocNext → AllocStep
step_in (Looks at) = steps.Looks at
step_in (Takes class place life) = steps.Takes class place life
step_in TakesNone = steps.TakesNone

pub step_in_next : (step : AllocStep) → step_in (next_in step) ≡ step
step_in_next (steps.Looks at) = refl
step_in_next (steps.Takes class place life) = refl
step_in_next steps.TakesNone = refl

abbrev pub state_of : Bounds → AllocStep → AllocState
state_of lim step = record { lim = lim; next = next_in step }

-- what came of its steps is a position that it reaches, or a block of its class
abbrev pub IsNext : Bounds → AllocNext → Type 0
IsNext lim (Looks at) = IsAllocAt lim at
IsNext lim (Takes class place life) = IsPlace lim class place
IsNext lim TakesNone = Unit {0}

pub record IsKept (lim : Bounds) (step : AllocStep) : Type 0 where
  pub range : IsInRange lim
  pub stands : IsNext lim (next_in step)

-- what a block word says, as the code has it
abbrev pub seen_in : BlockWord → BlockSeen
seen_in (words.Unused life) = seen.Unused life
seen_in words.Used = seen.Used
seen_in words.NoBlockWord = seen.NoBlockWord

-- a free block that can be taken has a next life
abbrev pub HasNext : BlockWord → Type 0
HasNext (words.Unused life) = life < 2 ^ 32 - 1
HasNext words.Used = Unit {0}
HasNext words.NoBlockWord = Unit {0}
