-- What contracts see of a thread that looks for its own log of a block, as a machine.
use Rattle.std.specs.Prelude.{◌≡◌, ℕ, ◌<◌, ◌≤◌, true, Option, Some, None, refl}
use Rattle.ds_map.specs.Bounds.{Bounds, IsInRange}
use Rattle.ds_entry.specs.Header.{log_entries, life_in, used_in}
use Rattle.ds_plain.specs.declared.ListAt.{ListAt}
use Rattle.ds_plain.specs.declared.ListAt.TheVariants.{LoadHome, DrawLog, StoreHeader, StoreHome, LoadHeader}
use Rattle.ds_plain.specs.Listing.{is_header, ListNext, ListsOn, Owns, FailsList, HomeSeen, HeaderSeen, IsListAt}
use Rattle.ds_plain.specs.Listing as seen
use Rattle.ds_list.specs.declared.outcome.ListOutcome.{ListOutcome}
use Rattle.ds_list.specs.declared.outcome.ListOutcome.TheVariants.{Own, Full}
use Rattle.ds_list.specs.declared.outcome.ListStep.{ListStep}
use Rattle.ds_list.specs.declared.outcome.ListStep.TheVariants as steps
use Rattle.ds_list.specs.declared.seen.HomeWord.{HomeWord}
use Rattle.ds_list.specs.declared.seen.HomeWord.TheVariants as homes
use Rattle.ds_list.specs.declared.seen.HeaderWord.{HeaderWord}
use Rattle.ds_list.specs.declared.seen.HeaderWord.TheVariants as headers

pub record ListState : Type 0 where
  -- the limits of the run
  pub lim : Bounds
  -- the number of the thread
  pub thread : ℕ
  -- what came of its steps so far
  pub next : ListNext

-- the position from which it goes on, while it does
abbrev pub lists_at : ListNext → Option ListAt
lists_at (ListsOn at) = Some at
lists_at (Owns log header) = None
lists_at (FailsList what) = None

-- what it came to, once it goes on no more
abbrev pub outcome_of : ListNext → Option ListOutcome
outcome_of (ListsOn at) = None
outcome_of (Owns log header) = Some (Own log header)
outcome_of (FailsList what) = Some (Full what)

-- WHAT IT COMES TO, AND WHY

-- this log is one of the run; the word can be its header, and is not that of a log of this life with all entries used
pub record IsOwn (lim : Bounds) (life log header : ℕ) : Type 0 where
  pub log_is : log < lim.logs
  pub header_is : is_header header ≡ true
  pub room : ¬ ((life_in header ≡ life) × (used_in header ≡ log_entries))

-- it stands where it draws a log, and all of the run were drawn
abbrev pub DrawsNone : Bounds → ListAt → (old : ℕ) → Type 0
DrawsNone lim (LoadHome place life) old = ⊥
DrawsNone lim (DrawLog place life) old = lim.logs ≤ old
DrawsNone lim (StoreHeader place life log) old = ⊥
DrawsNone lim (StoreHome place life log) old = ⊥
DrawsNone lim (LoadHeader place life log) old = ⊥

-- it stands at the load of the header, which is of this life with all entries used
abbrev pub HasAllUsed : ListAt → (old : ℕ) → Type 0
HasAllUsed (LoadHome place life) old = ⊥
HasAllUsed (DrawLog place life) old = ⊥
HasAllUsed (StoreHeader place life log) old = ⊥
HasAllUsed (StoreHome place life log) old = ⊥
HasAllUsed (LoadHeader place life log) old =
    (is_header old ≡ true) × (life_in old ≡ life) × (used_in old ≡ log_entries)

-- HELPERS: no clause of a public call speaks of them

-- what came of a step, as the code has it
abbrev pub next_in : ListStep → ListNext
next_in (steps.ListsOn at) = ListsOn at
next_in (steps.Owns log header) = Owns log header
next_in (steps.FailsList what) = FailsList what

abbrev pub step_in : ListNext → ListStep
step_in (ListsOn at) = steps.ListsOn at
step_in (Owns log header) = steps.Owns log header
step_in (FailsList what) = steps.FailsList what

pub step_in_next : (step : ListStep) → step_in (next_in step) ≡ step
step_in_next (steps.ListsOn at) = refl
step_in_next (steps.Owns log header) = refl
step_in_next (steps.FailsList what) = refl

abbrev pub state_of : Bounds → (thread : ℕ) → ListStep → ListState
state_of lim thread step = record { lim = lim; thread = thread; next = next_in step }

-- what came of its steps is a position that it reaches, or its end
abbrev pub IsNext : Bounds → ListNext → Type 0
IsNext lim (ListsOn at) = IsListAt lim at
IsNext lim (Owns log header) = Unit {0}
IsNext lim (FailsList what) = Unit {0}

pub record IsKept (lim : Bounds) (thread : ℕ) (step : ListStep) : Type 0 where
  pub range : IsInRange lim
  pub thread_is : thread < 16
  pub stands : IsNext lim (next_in step)

-- what a home word says, as the code has it
abbrev pub home_in : HomeWord → HomeSeen
home_in homes.NoHome = seen.NoHome
home_in (homes.HomeOf log) = seen.HomeOf log
home_in homes.NoHomeWord = seen.NoHomeWord

-- a log is one of the run
abbrev pub IsWithin : Bounds → HomeWord → Type 0
IsWithin lim homes.NoHome = Unit {0}
IsWithin lim (homes.HomeOf log) = log < lim.logs
IsWithin lim homes.NoHomeWord = Unit {0}

-- what a header says, as the code has it
abbrev pub header_in : HeaderWord → HeaderSeen
header_in headers.HasRoom = seen.HasRoom
header_in headers.HasNoRoom = seen.HasNoRoom
header_in headers.OfOther = seen.OfOther
header_in headers.NoHeader = seen.NoHeader
