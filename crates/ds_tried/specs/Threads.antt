-- How threads begin, are started and joined, print and end.
use Rattle.std.specs.Prelude.{◌≡◌, ℕ, ◌-◌, List, [], ◌∷◌, ◌++◌, map, None}
use Rattle.std.specs.List.{flat_map, range_with_len}
use Rattle.ds_step.specs.declared.FullWhat.TheVariants.{Logs}
use Rattle.ds_step.specs.declared.Event.{Event}
use Rattle.ds_step.specs.declared.Event.TheVariants.{Begin, Spawn, SpawnRefused, Join, End, Print, Load, Store}
use Rattle.ds_step.specs.declared.Event.TheVariants.{Exchange, Assign, Taken, TakenPage, Block, Found, Skip, Noted}
use Rattle.ds_step.specs.declared.Event.TheVariants.{BeginFree, Mark, Seen, EndFree, Trap, Full, Log}
use Rattle.ds_plain.specs.declared.Stop.TheVariants.{Returned, Fuel}
use Rattle.ds_plain.specs.declared.TrapKind.TheVariants.{BadJoin}
use Rattle.ds_plain.specs.declared.Request.TheVariants as requests
use Rattle.ds_plain.specs.State.{Setting, Stopped}
use Rattle.ds_plain.specs.Plain.{trap_stop}
use Rattle.ds_tried.specs.Programs.{at, running, main_alone, whole, echo, short_of_fuel, Events, by, behind, Trial, trial}

-- MAIN

-- main prints 7, and then 8
abbrev pub printing : Setting
printing = main_alone (requests.Print 7 ∷ requests.Print 8 ∷ [])

-- its run
abbrev pub printed : Events
printed = by 0 (Begin ∷ Print 0 7 ∷ Print 1 8 ∷ End ∷ [])

-- main alone may begin, and nothing comes before that
abbrev pub main_begins : List Trial
main_begins =
    trial printing [] (by 0 (Begin ∷ [])) (by 0 (Print 0 7 ∷ End ∷ []) ++ by 1 (Begin ∷ End ∷ []))
    ∷ []

-- a thread begins once
abbrev pub begins_once : List Trial
begins_once =
    trial printing (by 0 (Begin ∷ [])) [] (by 0 (Begin ∷ []))
    ∷ []

-- prints are numbered in their order, and each is of the value that is asked
abbrev pub prints_are_numbered : List Trial
prints_are_numbered =
    trial printing (by 0 (Begin ∷ Print 0 7 ∷ [])) (by 0 (Print 1 8 ∷ []))
    (by 0 (Print 0 8 ∷ Print 2 8 ∷ Print 1 7 ∷ End ∷ []))
    ∷ []

-- a thread that asks to stop ends, and does nothing else
abbrev pub ends_where_it_returns : List Trial
ends_where_it_returns =
    trial printing (by 0 (Begin ∷ Print 0 7 ∷ Print 1 8 ∷ [])) (by 0 (End ∷ []))
    (by 0 (Print 2 8 ∷ Begin ∷ Trap ∷ []))
    ∷ []

-- nothing comes behind an end
abbrev pub nothing_behind_end : List Trial
nothing_behind_end =
    trial printing printed [] (by 0 (End ∷ Begin ∷ Print 2 8 ∷ Trap ∷ []))
    ∷ []

-- a step of the machine's own records is no event of a run
abbrev pub log_is_no_event : List Trial
log_is_no_event =
    trial printing (by 0 (Begin ∷ [])) [] (by 0 (Log ∷ []) ++ by 1 (Log ∷ []))
    ∷ []

-- what was printed, and how main ended
abbrev pub IsPrinted : Type 0
IsPrinted =
    ((behind printing printed).out ≡ 7 ∷ 8 ∷ []) × ((behind printing printed).threads 0 ≡ Stopped (Returned None))

-- A THREAD THAT IS STARTED

-- main starts function 1 with the argument 9, stores the number at location 5, and joins it; that function prints 3
abbrev pub spawning : Setting
spawning = running ((requests.Spawn 5 1 9 ∷ requests.Join 1 ∷ []) ∷ (requests.Print 3 ∷ []) ∷ [])

-- a thread is given the next number, for the function and the argument that are asked
abbrev pub spawn_is_asked : List Trial
spawn_is_asked =
    trial spawning (by 0 (Begin ∷ [])) (by 0 (Spawn 1 1 9 ∷ []))
    (by 0 (Spawn 0 1 9 ∷ Spawn 2 1 9 ∷ Spawn 1 0 9 ∷ Spawn 1 1 8 ∷ SpawnRefused ∷ Store 5 1 ∷ Join 1 ∷ End ∷ []))
    ∷ []

-- behind a spawn comes the store of the number, and no other event of the thread; the thread may not begin before it
abbrev pub number_is_stored : List Trial
number_is_stored =
    trial spawning (by 0 (Begin ∷ Spawn 1 1 9 ∷ [])) (by 0 (Store 5 1 ∷ []))
    (by 0 (Store 5 2 ∷ Store 5 0 ∷ Store 6 1 ∷ Begin ∷ Spawn 2 1 9 ∷ Spawn 1 1 9 ∷ SpawnRefused ∷ Join 1 ∷ End ∷ [])
    ++ by 0 (Print 0 3 ∷ Load 5 0 ∷ Exchange 5 1 ∷ Assign 0 0 ∷ Taken 0 ∷ TakenPage 0 ∷ Block 0 0x1000000 1 ∷ [])
    ++ by 0 (Found 0 0x1000000 1 ∷ Skip ∷ Noted 0 1 5 ∷ BeginFree 0 1 ∷ Mark 5 ∷ Seen 5 ∷ EndFree 0 ∷ Trap ∷ [])
    ++ by 0 (Full Logs ∷ Log ∷ [])
    ++ by 1 (Begin ∷ End ∷ []))
    ∷ []

-- once its number is stored the thread may begin, once, and until it has ended it is not joined
abbrev pub opened_thread_begins : List Trial
opened_thread_begins =
    trial spawning (by 0 (Begin ∷ Spawn 1 1 9 ∷ Store 5 1 ∷ [])) (by 1 (Begin ∷ []))
    (by 0 (Store 5 1 ∷ Join 1 ∷ Trap ∷ End ∷ []) ++ by 1 (Print 0 3 ∷ End ∷ []) ++ by 2 (Begin ∷ []))
    ∷ trial spawning (by 0 (Begin ∷ Spawn 1 1 9 ∷ Store 5 1 ∷ []) ++ by 1 (Begin ∷ [])) (by 1 (Print 0 3 ∷ []))
    (by 0 (Join 1 ∷ Trap ∷ []) ++ by 1 (Begin ∷ End ∷ []))
    ∷ []

-- the whole run of both threads
abbrev pub joined : Events
joined =
    by 0 (Begin ∷ Spawn 1 1 9 ∷ Store 5 1 ∷ []) ++ by 1 (Begin ∷ Print 0 3 ∷ End ∷ []) ++ by 0 (Join 1 ∷ End ∷ [])

-- a thread that has ended is joined, by its number
abbrev pub ended_thread_is_joined : List Trial
ended_thread_is_joined =
    trial spawning (by 0 (Begin ∷ Spawn 1 1 9 ∷ Store 5 1 ∷ []) ++ by 1 (Begin ∷ Print 0 3 ∷ End ∷ []))
    (by 0 (Join 1 ∷ [])) (by 0 (Join 0 ∷ Join 2 ∷ Trap ∷ End ∷ []) ++ by 1 (End ∷ Begin ∷ []))
    ∷ trial spawning joined [] (by 0 (End ∷ []) ++ by 1 (End ∷ []))
    ∷ []

-- JOINS THAT TRAP

-- main joins the thread of this number
abbrev pub joining : ℕ → Setting
joining n = main_alone (requests.Join n ∷ [])

-- to join oneself, a number that was not given out, or one of 16 or more traps
abbrev pub bad_join_traps : List Trial
bad_join_traps =
    trial (joining 0) (by 0 (Begin ∷ [])) (by 0 (Trap ∷ [])) (by 0 (Join 0 ∷ End ∷ []))
    ∷ trial (joining 1) (by 0 (Begin ∷ [])) (by 0 (Trap ∷ [])) (by 0 (Join 1 ∷ End ∷ []))
    ∷ trial (joining 16) (by 0 (Begin ∷ [])) (by 0 (Trap ∷ [])) (by 0 (Join 16 ∷ End ∷ []))
    ∷ []

-- behind a trap only the end comes
abbrev pub only_end_behind_trap : List Trial
only_end_behind_trap =
    trial (joining 0) (by 0 (Begin ∷ Trap ∷ [])) (by 0 (End ∷ []))
    (by 0 (Trap ∷ Join 0 ∷ Begin ∷ Print 0 0 ∷ []))
    ∷ []

-- the stop of such a thread says where and why
abbrev pub BadJoinStop : Type 0
BadJoinStop =
    (behind (joining 0) (by 0 (Begin ∷ Trap ∷ End ∷ []))).threads 0 ≡ Stopped (trap_stop (at 0 0) (BadJoin 0))

-- THE 16 NUMBERS

-- main starts threads until it is refused one, and prints each answer
abbrev pub spawn_sixteen : Setting
spawn_sixteen = echo (map (λ (n : ℕ). requests.Spawn 5 1 0) (range_with_len 0 18))

-- it starts thread n, and prints the answer
abbrev pub started : ℕ → List Event
started n = Spawn n 1 0 ∷ Store 5 n ∷ Print (n - 1) 0 ∷ []

-- the first 15 threads that it starts
abbrev pub started_all : Events
started_all = by 0 (Begin ∷ flat_map started (range_with_len 1 15))

-- the sixteenth thread that is asked for is refused, and no thread before it
abbrev pub sixteenth_is_refused : List Trial
sixteenth_is_refused =
    trial spawn_sixteen started_all (by 0 (SpawnRefused ∷ [])) (by 0 (Spawn 16 1 0 ∷ Spawn 15 1 0 ∷ []))
    ∷ trial spawn_sixteen (by 0 (Begin ∷ flat_map started (range_with_len 1 14))) (by 0 (Spawn 15 1 0 ∷ []))
    (by 0 (SpawnRefused ∷ []))
    ∷ []

-- the refusal is told as 11, and is not the last
abbrev pub refusal_is_told : List Trial
refusal_is_told =
    trial spawn_sixteen (started_all ++ by 0 (SpawnRefused ∷ [])) (by 0 (Print 15 11 ∷ []))
    (by 0 (Print 15 0 ∷ Store 5 16 ∷ []))
    ∷ trial spawn_sixteen (started_all ++ by 0 (SpawnRefused ∷ Print 15 11 ∷ [])) (by 0 (SpawnRefused ∷ []))
    (by 0 (Spawn 17 1 0 ∷ Spawn 16 1 0 ∷ []))
    ∷ []

-- main asks for 16 threads and joins number 16, which was not given out though 17 were asked for
abbrev pub join_sixteen : Setting
join_sixteen = echo (map (λ (n : ℕ). requests.Spawn 5 1 0) (range_with_len 0 16) ++ requests.Join 16 ∷ [])

abbrev pub sixteen_is_never_given_out : List Trial
sixteen_is_never_given_out =
    trial join_sixteen (started_all ++ by 0 (SpawnRefused ∷ Print 15 11 ∷ [])) (by 0 (Trap ∷ []))
    (by 0 (Join 16 ∷ End ∷ []) ++ by 16 (Begin ∷ End ∷ []))
    ∷ []

-- FUEL

-- a thread that is short of fuel may end wherever it stands, and has the stop Fuel
abbrev pub ends_for_want_of_fuel : List Trial
ends_for_want_of_fuel =
    trial (short_of_fuel 0 printing) (by 0 (Begin ∷ [])) (by 0 (Print 0 7 ∷ End ∷ [])) (by 0 (Print 1 8 ∷ []))
    ∷ []

-- its stop says so
abbrev pub FuelStop : Type 0
FuelStop = (behind (short_of_fuel 0 printing) (by 0 (Begin ∷ End ∷ []))).threads 0 ≡ Stopped Fuel

-- also where it asks for a load
abbrev pub ends_at_a_load : List Trial
ends_at_a_load =
    trial (short_of_fuel 0 (main_alone (requests.Load (whole 1) ∷ []))) (by 0 (Begin ∷ [])) (by 0 (Load 1 5 ∷ End ∷ [])) []
    ∷ trial (main_alone (requests.Load (whole 1) ∷ [])) (by 0 (Begin ∷ [])) (by 0 (Load 1 5 ∷ [])) (by 0 (End ∷ []))
    ∷ []

-- also behind a spawn, whose thread then never begins
abbrev pub ends_behind_spawn : List Trial
ends_behind_spawn =
    trial (short_of_fuel 0 spawning) (by 0 (Begin ∷ Spawn 1 1 9 ∷ [])) (by 0 (Store 5 1 ∷ End ∷ []))
    (by 0 (Join 1 ∷ []))
    ∷ trial (short_of_fuel 0 spawning) (by 0 (Begin ∷ Spawn 1 1 9 ∷ End ∷ [])) [] (by 1 (Begin ∷ []))
    ∷ []

-- a thread that ended for want of fuel before its number was given out is not started, but can be joined
abbrev pub ended_is_not_started : List Trial
ended_is_not_started =
    trial (short_of_fuel 1 spawning) (by 1 (End ∷ []) ++ by 0 (Begin ∷ Spawn 1 1 9 ∷ Store 5 1 ∷ []))
    (by 0 (Join 1 ∷ [])) (by 1 (Begin ∷ End ∷ Print 0 3 ∷ []))
    ∷ trial (short_of_fuel 1 spawning) [] (by 1 (End ∷ [])) (by 0 (End ∷ []) ++ by 2 (End ∷ []) ++ by 1 (Begin ∷ []))
    ∷ []
