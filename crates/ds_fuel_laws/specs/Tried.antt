-- The prices tried on small programs.
use Rattle.std.specs.Prelude.{◌≡◌, ℕ, false, List, [], ◌∷◌, ◌++◌, Option, Some, None}
use Rattle.ds_map.specs.Bounds.{Bounds, bounds}
use Rattle.ds_step.specs.declared.FullWhat.TheVariants.{Logs}
use Rattle.ds_step.specs.declared.Step.{Step}
use Rattle.ds_plain.specs.declared.Place.{Place}
use Rattle.ds_plain.specs.declared.Stop.{Stop}
use Rattle.ds_plain.specs.declared.Stop.TheVariants.{Returned, Trap, Full, Fuel}
use Rattle.ds_plain.specs.declared.Request.TheVariants as requests
use Rattle.ds_plain.specs.declared.StartAt.TheVariants.{LoadStart}
use Rattle.ds_plain.specs.declared.AccessAt.TheVariants.{LoadWord}
use Rattle.ds_plain.specs.declared.AllocAt.TheVariants as allocs
use Rattle.ds_plain.specs.declared.ListAt.TheVariants.{LoadHome, DrawLog}
use Rattle.ds_plain.specs.declared.NoteAt.TheVariants as notes
use Rattle.ds_plain.specs.declared.FreeAt.TheVariants as frees
use Rattle.ds_plain.specs.declared.Search.{Search}
use Rattle.ds_plain.specs.declared.TrapKind.TheVariants.{BadFree}
use Rattle.ds_plain.specs.declared.Position.{Position}
use Rattle.ds_plain.specs.declared.Position.TheVariants.{Start, Malloc, Note, Free, StoreEnded}
use Rattle.ds_plain.specs.declared.Position.TheVariants as positions
use Rattle.ds_plain.specs.Behaviour.{Asks, Behaviour, silent, Program}
use Rattle.ds_plain.specs.Searching.{search_from}
use Rattle.ds_plain.specs.Table.{step_at}
use Rattle.ds_plain.specs.Thread.{Thread, first_thread, Follows, thread_after, stop_of}
use Rattle.ds_fuel_laws.specs.Fuel.{price_of, account_of}

-- the program whose main behaves so
abbrev pub main_with : Behaviour → Program
main_with behaviour =
    record { main = 0; image = []; may_start = λ function. false; behaves = λ thread function argument. behaviour }

abbrev pub with_fuel : ℕ → Bounds
with_fuel fuel = bounds 1 fuel 0 0

abbrev pub place : Place
place = record { function = 0; instruction = 0 }

-- the steps of a thread at these positions, with these answers
abbrev pub steps : (fuel t : ℕ) → List (Position × ℕ) → List Step
steps fuel t [] = []
steps fuel t (at ∷ more) = step_at (with_fuel fuel) t at.0 at.1 ∷ steps fuel t more

-- where they leave it
abbrev pub last : Program → (fuel t : ℕ) → List (Position × ℕ) → Thread
last program fuel t made =
    thread_after program (with_fuel fuel) t (first_thread (with_fuel fuel)) (steps fuel t made)

-- The thread makes these steps and ends with this stop: by its last answer it had paid so much, what came next had
-- this price, and it spent so much.
pub record Ends (program : Program) (fuel t : ℕ) (made : List (Position × ℕ)) (stop : Stop) (paid : ℕ)
    (price : Option ℕ) (units : ℕ) : Type 0 where
  pub follows : Follows program (with_fuel fuel) t (first_thread (with_fuel fuel)) (steps fuel t made)
  pub stops : stop_of (last program fuel t made) ≡ stop
  pub pays : (account_of program (with_fuel fuel) t (steps fuel t made)).paid ≡ paid
  pub priced : price_of (account_of program (with_fuel fuel) t (steps fuel t made)).next ≡ price
  pub spends : (last program fuel t made).units ≡ units

-- main never asks, as in a loop without end: no fuel is enough
abbrev pub endless : List (Position × ℕ)
endless = (Start LoadStart, 1) ∷ (StoreEnded Fuel, 1) ∷ []

abbrev pub NeverAsks : Type 0
NeverAsks = Ends (main_with silent) 5 0 endless Fuel 1 None 5

-- main returns at once: 1 for the load of its start word, and 1 for its instruction
abbrev pub returning : Behaviour
returning answers = Asks 1 place (requests.Stop (Returned None))

abbrev pub at_once : Stop → List (Position × ℕ)
at_once stop = (Start LoadStart, 1) ∷ (StoreEnded stop, 1) ∷ []

abbrev pub ReturnsWithTwo : Type 0
ReturnsWithTwo = Ends (main_with returning) 2 0 (at_once (Returned None)) (Returned None) 1 (Some 1) 2

abbrev pub EndsWithOne : Type 0
EndsWithOne = Ends (main_with returning) 1 0 (at_once Fuel) Fuel 1 (Some 1) 1

-- main begins three instructions, of which the third loads a word, and returns: 1, 3 and 1, and 1
abbrev pub loading : Behaviour
loading [] = Asks 3 place (requests.Load (record { loc = 0; shift = 0; bits = 64 }))
loading (answer ∷ answers) = Asks 1 place (requests.Stop (Returned None))

abbrev pub behind_load : Stop → List (Position × ℕ)
behind_load stop = (Start LoadStart, 1) ∷ (positions.Access (LoadWord 0), 7) ∷ (StoreEnded stop, 1) ∷ []

abbrev pub ReturnsWithSix : Type 0
ReturnsWithSix = Ends (main_with loading) 6 0 (behind_load (Returned None)) (Returned None) 5 (Some 1) 6

abbrev pub EndsBehindLoad : Type 0
EndsBehindLoad = Ends (main_with loading) 5 0 (behind_load Fuel) Fuel 5 (Some 1) 5

-- with 4 its instructions begin, but the step of the load would be the fifth unit
abbrev pub EndsAtLoad : Type 0
EndsAtLoad = Ends (main_with loading) 4 0 (at_once Fuel) Fuel 1 (Some 4) 4

-- with 3 the third instruction does not begin, and the fuel is spent nevertheless
abbrev pub EndsBeforeLoad : Type 0
EndsBeforeLoad = Ends (main_with loading) 3 0 (at_once Fuel) Fuel 1 (Some 4) 3

-- a thread that never begins: 1 for each load of its start word, and a third is too dear
abbrev pub waiting : List (Position × ℕ)
waiting = (Start LoadStart, 0) ∷ (Start LoadStart, 0) ∷ (StoreEnded Fuel, 0) ∷ []

abbrev pub NeverBegins : Type 0
NeverBegins = Ends (main_with silent) 2 1 waiting Fuel 2 (Some 1) 2

-- Main begins two instructions, of which the second asks for 8 bytes; then one frees the block and one returns. That
-- is 1 for the load of its start word, 2 and 4 steps for the malloc, 1 and 4 steps for the free, and 1.
abbrev pub freeing : Behaviour
freeing [] = Asks 2 place (requests.Malloc 8)
freeing (address ∷ []) = Asks 1 place (requests.Free address)
freeing (address ∷ freed ∷ answers) = Asks 1 place (requests.Stop (Returned None))

abbrev pub first_search : Search
first_search = search_from 0 0

abbrev pub behind_free : Stop → List (Position × ℕ)
behind_free stop =
    (Start LoadStart, 1)
    ∷ (Malloc (allocs.LoadPage first_search), 0)
    ∷ (Malloc (allocs.SwapPage first_search), 0)
    ∷ (Malloc (allocs.LoadBlock first_search 0), 0)
    ∷ (Malloc (allocs.SwapBlock first_search 0 0), 0)
    ∷ (Free (frees.LoadPage 0x1000000), 1)
    ∷ (Free (frees.LoadBlock 0x1000000 0), 5)
    ∷ (Free (frees.SwapBlock 0x1000000 0 1), 5)
    ∷ (Free (frees.StoreFree 0 1), 0)
    ∷ (StoreEnded stop, 0)
    ∷ []

abbrev pub ReturnsWithThirteen : Type 0
ReturnsWithThirteen = Ends (main_with freeing) 13 0 (behind_free (Returned None)) (Returned None) 12 (Some 1) 13

abbrev pub EndsBehindFree : Type 0
EndsBehindFree = Ends (main_with freeing) 12 0 (behind_free Fuel) Fuel 12 (Some 1) 12

-- with 5 the third step of the malloc would be the sixth unit
abbrev pub in_malloc : List (Position × ℕ)
in_malloc =
    (Start LoadStart, 1)
    ∷ (Malloc (allocs.LoadPage first_search), 0)
    ∷ (Malloc (allocs.SwapPage first_search), 0)
    ∷ (StoreEnded Fuel, 0)
    ∷ []

abbrev pub EndsInMalloc : Type 0
EndsInMalloc = Ends (main_with freeing) 5 0 in_malloc Fuel 5 (Some 1) 5

-- with 2 the second instruction does not begin
abbrev pub EndsBeforeMalloc : Type 0
EndsBeforeMalloc = Ends (main_with freeing) 2 0 (at_once Fuel) Fuel 1 (Some 3) 2

-- main frees an address whose page has no size class: its step costs 1, and the trap nothing
abbrev pub failing : Behaviour
failing answers = Asks 1 place (requests.Free 0x1000000)

abbrev pub bad_free : Stop
bad_free = Trap (record { place = place; kind = BadFree 0x1000000 })

abbrev pub in_free : List (Position × ℕ)
in_free = (Start LoadStart, 1) ∷ (Free (frees.LoadPage 0x1000000), 0) ∷ (StoreEnded bad_free, 0) ∷ []

abbrev pub TrapsWithThree : Type 0
TrapsWithThree = Ends (main_with failing) 3 0 in_free bad_free 3 (Some 0) 3

abbrev pub EndsBeforeFree : Type 0
EndsBeforeFree = Ends (main_with failing) 2 0 (at_once Fuel) Fuel 1 (Some 2) 2

-- Main takes a block of 8 bytes and notes its address, where there are no logs: 1 for the load of its start word, 2
-- and 4 steps for the malloc, 1 and 4 steps for the note. That no log is left costs nothing.
abbrev pub noting : Behaviour
noting [] = Asks 2 place (requests.Malloc 8)
noting (address ∷ answers) = Asks 1 place (requests.Note 0 address)

abbrev pub behind_malloc : List (Position × ℕ)
behind_malloc =
    (Start LoadStart, 1)
    ∷ (Malloc (allocs.LoadPage first_search), 0)
    ∷ (Malloc (allocs.SwapPage first_search), 0)
    ∷ (Malloc (allocs.LoadBlock first_search 0), 0)
    ∷ (Malloc (allocs.SwapBlock first_search 0 0), 0)
    ∷ (Note (notes.LoadPage 0 0x1000000), 1)
    ∷ (Note (notes.LoadBlock 0 0 0x1000000), 5)
    ∷ (Note (notes.Seek 0 (LoadHome 0 1)), 0)
    ∷ []

abbrev pub no_log : Stop
no_log = Full place Logs

abbrev pub in_note : List (Position × ℕ)
in_note = behind_malloc ++ (Note (notes.Seek 0 (DrawLog 0 1)), 0) ∷ (StoreEnded no_log, 0) ∷ []

abbrev pub FullWithTwelve : Type 0
FullWithTwelve = Ends (main_with noting) 12 0 in_note no_log 12 (Some 0) 12

-- with 11 the last step of the note would be the twelfth unit
abbrev pub EndsInNote : Type 0
EndsInNote = Ends (main_with noting) 11 0 (behind_malloc ++ (StoreEnded Fuel, 0) ∷ []) Fuel 11 (Some 1) 11

abbrev pub PricesAreTried : Type 0
PricesAreTried =
    NeverAsks × ReturnsWithTwo × EndsWithOne × ReturnsWithSix × EndsBehindLoad × EndsAtLoad × EndsBeforeLoad
    × NeverBegins × ReturnsWithThirteen × EndsBehindFree × EndsInMalloc × EndsBeforeMalloc × TrapsWithThree
    × EndsBeforeFree × FullWithTwelve × EndsInNote
