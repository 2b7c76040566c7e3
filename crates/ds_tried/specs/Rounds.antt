-- How a run on threads is cut into rounds.
use Rattle.std.specs.Prelude.{ℕ, false, List, [], ◌∷◌, replicate, None}
use Rattle.ds_map.specs.Bounds.{Bounds, bounds}
use Rattle.ds_step.specs.declared.Event.TheVariants.{Print}
use Rattle.ds_step.specs.declared.Step.{Step}
use Rattle.ds_plain.specs.declared.Stop.TheVariants.{Returned}
use Rattle.ds_plain.specs.declared.Request.TheVariants as requests
use Rattle.ds_plain.specs.Behaviour.{Asks, Behaviour, Program}
use Rattle.ds_plain.specs.Turns.{IsInRounds}
use Rattle.ds_tried.specs.Programs.{at}
use Rattle.ds_tried.specs.Schedules.{step_of, begins, waits, ends}

-- main begins so many instructions, the last of which prints 7, and then returns
abbrev pub behaviour : (begun : ℕ) → Behaviour
behaviour begun [] = Asks begun (at 0 0) (requests.Print 7)
behaviour begun (answer ∷ answers) = Asks 1 (at 0 1) (requests.Stop (Returned None))

abbrev pub counting : (begun : ℕ) → Program
counting begun =
    record { main = 0; image = []; may_start = λ f. false; behaves = λ thread function argument. behaviour begun }

abbrev pub roomy : Bounds
roomy = bounds 1 100000 4 64

-- main's steps
abbrev pub main_steps : List Step
main_steps = begins ∷ step_of 13 0 (Print 0 7) ∷ ends ∷ []

-- main's steps, and so many waits of each other thread
abbrev pub traces : (waiting : ℕ) → List (List Step)
traces waiting = main_steps ∷ replicate 15 (replicate waiting waits)

abbrev pub EachMade : Program → List (List Step) → List ℕ → Type 0
EachMade program traces [] = Unit {0}
EachMade program traces (n ∷ ns) = IsInRounds program roomy n traces × EachMade program traces ns

abbrev pub NoneMade : Program → List (List Step) → List ℕ → Type 0
NoneMade program traces [] = Unit {0}
NoneMade program traces (n ∷ ns) = (¬ IsInRounds program roomy n traces) × NoneMade program traces ns

-- the traces were made in each of these numbers of rounds, and in none of the others
pub record Made (program : Program) (traces : List (List Step)) (rounds others : List ℕ) : Type 0 where
  pub are : EachMade program traces rounds
  pub are_not : NoneMade program traces others

-- A round of main ends with the step behind which it has spent 10,000 units. A step costs one, and so does each
-- instruction that begins behind it: with 9,999 of them the first step ends the round, and main has another to its end.
abbrev pub TenThousandEndARound : Type 0
TenThousandEndARound =
    Made (counting 9999) (traces 2) (2 ∷ []) (0 ∷ 1 ∷ 3 ∷ []) × Made (counting 20000) (traces 2) (2 ∷ []) (1 ∷ 3 ∷ [])

-- With 9,997 of them main has spent 10,000 as it stands behind its print, so its end is in another round. With one less
-- it comes to its end in one.
abbrev pub OneUnitLessGoesOn : Type 0
OneUnitLessGoesOn =
    Made (counting 9997) (traces 2) (2 ∷ []) (0 ∷ 1 ∷ 3 ∷ []) × Made (counting 9996) (traces 1) (1 ∷ []) (0 ∷ 2 ∷ [])

-- each thread has every round to main's end: with one wait too few or too many the traces are of no number of rounds
abbrev pub EachThreadHasEachRound : Type 0
EachThreadHasEachRound =
    Made (counting 9999) (traces 1) [] (1 ∷ 2 ∷ 3 ∷ []) × Made (counting 9999) (traces 3) [] (1 ∷ 2 ∷ 3 ∷ [])
    × Made (counting 9999) (main_steps ∷ (waits ∷ []) ∷ replicate 14 (waits ∷ waits ∷ [])) [] (1 ∷ 2 ∷ 3 ∷ [])

-- main ends in the last round
abbrev pub MainEndsInTheLast : Type 0
MainEndsInTheLast =
    Made (counting 9999) ((begins ∷ []) ∷ replicate 15 (waits ∷ [])) [] (1 ∷ 2 ∷ [])
    × Made (counting 9999) ((begins ∷ step_of 13 0 (Print 0 7) ∷ []) ∷ replicate 15 (waits ∷ waits ∷ [])) [] (1 ∷ 2 ∷ 3 ∷ [])
    × Made (counting 9996) (main_steps ∷ replicate 15 (waits ∷ waits ∷ [])) [] (1 ∷ 2 ∷ [])
