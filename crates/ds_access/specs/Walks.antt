-- What contracts see of one access as a machine.
use Rattle.std.specs.Prelude.{◌≡◌, ℕ, ◌+◌, ◌≤◌, Option, Some, None, refl}
use Rattle.ds_map.specs.Bounds.{Bounds}
use Rattle.ds_plain.specs.declared.AccessAt.{AccessAt}
use Rattle.ds_plain.specs.declared.AccessAt.TheVariants.{LoadWord, StoreWord, CombineWord, ReplaceWord}
use Rattle.ds_plain.specs.declared.AccessAt.TheVariants.{LoadPart, SwapPart}
use Rattle.ds_plain.specs.Accessing.{AccessNext, AccessesOn, Tells, IsAccessAt}
use Rattle.ds_access.specs.declared.outcome.AccessStep.{AccessStep}
use Rattle.ds_access.specs.declared.outcome.AccessStep.TheVariants as steps

pub record AccessState : Type 0 where
  -- the limits of the run
  pub lim : Bounds
  -- what came of its steps so far
  pub next : AccessNext

-- the position from which it goes on, while it does
abbrev pub accesses_at : AccessNext → Option AccessAt
accesses_at (AccessesOn at) = Some at
accesses_at (Tells answer) = None

-- what the thread is told, once it goes on no more
abbrev pub outcome_of : AccessNext → Option ℕ
outcome_of (AccessesOn at) = None
outcome_of (Tells answer) = Some answer

-- HELPERS: no clause of a public call speaks of them

-- what came of a step, as the code has it
abbrev pub next_in : AccessStep → AccessNext
next_in (steps.AccessesOn at) = AccessesOn at
next_in (steps.Tells answer) = Tells answer

abbrev pub step_in : AccessNext → AccessStep
step_in (AccessesOn at) = steps.AccessesOn at
step_in (Tells answer) = steps.Tells answer

pub step_in_next : (step : AccessStep) → step_in (next_in step) ≡ step
step_in_next (steps.AccessesOn at) = refl
step_in_next (steps.Tells answer) = refl

abbrev pub state_of : Bounds → AccessStep → AccessState
state_of lim step = record { lim = lim; next = next_in step }

-- what came of its steps is a position that it reaches, or its end
abbrev pub IsNext : Bounds → AccessNext → Type 0
IsNext lim (AccessesOn at) = IsAccessAt lim at
IsNext lim (Tells answer) = Unit {0}

pub record IsKept (lim : Bounds) (step : AccessStep) : Type 0 where
  pub stands : IsNext lim (next_in step)

-- a part that it changes lies in its word
abbrev pub IsInWord : AccessAt → Type 0
IsInWord (LoadWord loc) = Unit {0}
IsInWord (StoreWord loc value) = Unit {0}
IsInWord (CombineWord loc op value) = Unit {0}
IsInWord (ReplaceWord loc expected new) = Unit {0}
IsInWord (LoadPart access change) = access.shift + access.bits ≤ 64
IsInWord (SwapPart access change seen) = access.shift + access.bits ≤ 64
