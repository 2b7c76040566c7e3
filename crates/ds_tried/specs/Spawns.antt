-- The rows of the step table for threads, tried on main and on thread 1: each step with its word, its numbers, its
-- answer, its row and what it means, as they are reckoned by hand. Word 1 counts the numbers that were given out, and
-- the words of thread 1 are 17, 33 and 49. There is one page, so program words begin at 4737.
use Rattle.std.specs.Prelude.{◌≡◌, ℕ, ◌==◌, List, [], ◌∷◌, None}
use Rattle.ds_map.specs.Bounds.{bounds}
use Rattle.ds_step.specs.declared.OpKind.TheVariants as kinds
use Rattle.ds_step.specs.declared.Event.TheVariants.{Begin, Print, Store, Spawn, SpawnRefused, Join, Trap, End, Log}
use Rattle.ds_step.specs.declared.Step.{Step}
use Rattle.ds_plain.specs.declared.Stop.{Stop}
use Rattle.ds_plain.specs.declared.Stop.TheVariants as stops
use Rattle.ds_plain.specs.declared.TrapKind.TheVariants.{BadJoin}
use Rattle.ds_plain.specs.declared.Request.TheVariants as requests
use Rattle.ds_plain.specs.Behaviour.{Asks, Behaviour, Program}
use Rattle.ds_plain.specs.Thread.{first_thread, Follows, thread_after, stop_of}
use Rattle.ds_tried.specs.Programs.{at}
use Rattle.ds_tried.specs.Rows.{made, loads, swaps, stores, begins, ends, IsFollowed, first_class, trapped}
use Rattle.ds_tried.specs.Accesses.{tells, Answers}

-- A THREAD IS STARTED

-- main starts function 7 with 99, and is to find the number in the first program word
abbrev pub starts : List Step → (told units : ℕ) → Type 0
starts steps told units = Answers (requests.Spawn 0 7 99) steps told units

-- It gets the number 1, and the other thread may begin when it finds its words. Whether that has ended by then is not
-- told.
abbrev pub ThreadIsStarted : Type 0
ThreadIsStarted =
    starts (
    made kinds.Add 1 1 0 1 5 (Spawn 1 7 99)
    ∷ stores 4737 1 9 (Store 0 1)
    ∷ stores 33 7 6 Log
    ∷ stores 49 99 7 Log
    ∷ swaps 17 0 1 0 8 Log
    ∷ []
    ) 0 10
    × starts (
    made kinds.Add 1 1 0 15 5 (Spawn 15 7 99)
    ∷ stores 4737 15 9 (Store 0 15)
    ∷ stores 47 7 6 Log
    ∷ stores 63 99 7 Log
    ∷ swaps 31 0 1 2 8 Log
    ∷ []
    ) 0 10

-- there are 16 numbers
abbrev pub SeventeenthIsRefused : Type 0
SeventeenthIsRefused = starts (made kinds.Add 1 1 0 16 5 SpawnRefused ∷ []) 11 6

-- A THREAD IS JOINED

-- main waits until the start word of thread 1 is 2
abbrev pub EndIsAwaited : Type 0
EndIsAwaited =
    Answers (requests.Join 1)
    (loads 1 2 10 Log ∷ loads 17 0 11 Log ∷ loads 17 1 11 Log ∷ loads 17 2 11 (Join 1) ∷ []) 0 9

-- its own number is none that it can join, nor one that was not given out, nor 16
abbrev pub OthersAreNotJoined : Type 0
OthersAreNotJoined =
    IsFollowed (tells (requests.Join 0)) (begins ∷ loads 1 2 10 Trap ∷ ends ∷ []) (trapped (BadJoin 0)) 3
    (first_class 0)
    × IsFollowed (tells (requests.Join 2)) (begins ∷ loads 1 2 10 Trap ∷ ends ∷ []) (trapped (BadJoin 2)) 3
    (first_class 0)
    × IsFollowed (tells (requests.Join 16)) (begins ∷ loads 1 17 10 Trap ∷ ends ∷ []) (trapped (BadJoin 16)) 3
    (first_class 0)

-- A THREAD BEGINS

-- the program whose function 3 may run as a thread, which prints its argument and returns
abbrev pub prints_argument : (argument : ℕ) → Behaviour
prints_argument argument [] = Asks 1 (at 3 0) (requests.Print argument)
prints_argument argument (printed ∷ answers) = Asks 1 (at 3 1) (requests.Stop (stops.Returned None))

abbrev pub threaded : Program
threaded =
    record {
      main = 0;
      image = [];
      may_start = λ f. f == 3;
      behaves = λ thread function argument. prints_argument argument;
    }

-- Thread 1 of that program makes these steps, where each thread has so much fuel. It then has this stop, and has spent
-- so many units.
pub record IsStarted (fuel : ℕ) (steps : List Step) (stop : Stop) (units : ℕ) : Type 0 where
  pub follows : Follows threaded (bounds 1 fuel 0 0) 1 (first_thread (bounds 1 fuel 0 0)) steps
  pub stops : stop_of (thread_after threaded (bounds 1 fuel 0 0) 1 (first_thread (bounds 1 fuel 0 0)) steps) ≡ stop
  pub spends : (thread_after threaded (bounds 1 fuel 0 0) 1 (first_thread (bounds 1 fuel 0 0)) steps).units ≡ units

-- It waits until its start word is 1, and asks again where its function word is no number of a function that may run as
-- a thread.
abbrev pub FunctionIsBegun : Type 0
FunctionIsBegun =
    IsStarted 100 (
    loads 17 0 1 Log
    ∷ loads 17 2 1 Log
    ∷ loads 17 1 1 Log
    ∷ loads 33 2 2 Log
    ∷ loads 33 4294967299 2 Log
    ∷ loads 33 3 2 Log
    ∷ loads 49 77 3 Begin
    ∷ made kinds.Add 2 1 0 5 13 (Print 5 77)
    ∷ stores 17 2 12 End
    ∷ []
    ) (stops.Returned None) 10

-- a thread may spend its fuel before it begins
abbrev pub FuelIsSpentWaiting : Type 0
FuelIsSpentWaiting =
    IsStarted 2 (loads 17 0 1 Log ∷ loads 17 0 1 Log ∷ stores 17 2 12 End ∷ []) stops.Fuel 2
