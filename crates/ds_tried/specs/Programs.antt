-- Small programs, written as what they ask for, and what it means to try events on them.
use Rattle.std.specs.Prelude.{ℕ, ◌-◌, ◌/◌, ◌%◌, true, false, ◌==◌, if◌then◌else◌, List, [], ◌∷◌, length, map}
use Rattle.std.specs.Prelude.{slice_get, slice_index, slice_index_or}
use Rattle.std.specs.Prelude.{None}
use Rattle.std.specs.Option.{unwrap_or}
use Rattle.ds_map.specs.Bounds.{Bounds, bounds}
use Rattle.ds_step.specs.declared.Event.{Event}
use Rattle.ds_plain.specs.declared.Access.{Access}
use Rattle.ds_plain.specs.declared.Place.{Place}
use Rattle.ds_plain.specs.declared.Stop.TheVariants.{Returned}
use Rattle.ds_plain.specs.declared.Request.{Request}
use Rattle.ds_plain.specs.declared.Request.TheVariants as requests
use Rattle.ds_plain.specs.Behaviour.{Asks, Behaviour, Program}
use Rattle.ds_plain.specs.State.{State, Setting, first_state}
use Rattle.ds_plain.specs.Plain.{Allowed, IsPlainRun, state_after}

-- PROGRAMS

-- a heap of one page
abbrev pub one_page : Bounds
one_page = bounds 1 1000 4 64

-- functions, each as the requests that it makes one after another, whatever it is answered; behind the last it returns
abbrev pub Functions : Type 0
Functions = List (List Request)

-- instruction i of a function
abbrev pub at : (function i : ℕ) → Place
at function i = record { function = function; instruction = i }

-- the request with this number
abbrev pub request_at : List Request → ℕ → Request
request_at made n = unwrap_or (slice_get made n) (requests.Stop (Returned None))

-- how a thread behaves that runs the function of this number, with these requests
abbrev pub asking : (function : ℕ) → List Request → Behaviour
asking function made answers = Asks 1 (at function (length answers)) (request_at made (length answers))

-- the first two globals: the bytes 1 to 8, and 5
abbrev pub image : List ℕ
image = 0x0807060504030201 ∷ 5 ∷ []

-- the program of functions that behave so, by their numbers; main is function 0
abbrev pub program_of : (ℕ → Behaviour) → Program
program_of behaviour =
    record {
      main = 0;
      image = image;
      may_start = λ function. true;
      behaves = λ thread function argument. behaviour function;
    }

-- the whole word of a location
abbrev pub whole : ℕ → Access
whole loc = record { loc = loc; shift = 0; bits = 64 }

-- TRIALS

-- events, each with the thread that makes it
abbrev pub Events : Type 0
Events = List (ℕ × Event)

-- events of one thread
abbrev pub by : ℕ → List Event → Events
by t made = map (λ (event : Event). (t, event)) made

-- a run of functions that behave so in which no thread ends for want of fuel
abbrev pub run_of : (ℕ → Behaviour) → Setting
run_of behaviour =
    record { program = program_of behaviour; lim = one_page; out_of_fuel = λ t. false; weak = false }

-- a run of these functions
abbrev pub running : Functions → Setting
running functions = run_of (λ function. asking function (slice_index_or functions function []))

-- a run of main alone
abbrev pub main_alone : List Request → Setting
main_alone made = running (made ∷ [])

-- main makes these requests, and behind each it prints the answer
abbrev pub echoing : List Request → List ℕ → Request
echoing made answers =
    if length answers % 2 == 0 then request_at made (length answers / 2)
    else requests.Print (slice_index answers (length answers - 1))

-- a run of main alone that prints each of its answers
abbrev pub echo : List Request → Setting
echo made = run_of (λ function answers. Asks 1 (at function (length answers)) (echoing made answers))

-- the same, but this thread ends for want of fuel
abbrev pub short_of_fuel : ℕ → Setting → Setting
short_of_fuel t setting = record setting { out_of_fuel = λ u. u == t }

-- the state behind these events
abbrev pub behind : Setting → Events → State
behind setting made = state_after setting (first_state setting.program setting.lim) made

-- each of the events is allowed now
abbrev pub EachMay : Setting → State → Events → Type 0
EachMay setting s [] = Unit {0}
EachMay setting s (e ∷ es) = Allowed setting s e.0 e.1 × EachMay setting s es

-- none of the events is allowed now
abbrev pub NoneMay : Setting → State → Events → Type 0
NoneMay setting s [] = Unit {0}
NoneMay setting s (e ∷ es) = (¬ Allowed setting s e.0 e.1) × NoneMay setting s es

-- what is tried: events, those that may come next behind them, and others that may not
pub record Trial : Type 0 where
  pub setting : Setting
  pub made : Events
  pub next : Events
  pub others : Events

abbrev pub trial : Setting → (made next others : Events) → Trial
trial setting made next others = record { setting = setting; made = made; next = next; others = others }

-- The events can be made. Behind them each of the next ones may come, and none of the others.
pub record Holds (x : Trial) : Type 0 where
  pub can : IsPlainRun x.setting (first_state x.setting.program x.setting.lim) x.made
  pub may : EachMay x.setting (behind x.setting x.made) x.next
  pub may_not : NoneMay x.setting (behind x.setting x.made) x.others

abbrev pub EachHolds : List Trial → Type 0
EachHolds [] = Unit {0}
EachHolds (x ∷ xs) = Holds x × EachHolds xs

-- each of the trials holds
pub record Hold (trials : List Trial) : Type 0 where
  pub each : EachHolds trials
