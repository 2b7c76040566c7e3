-- The rows of the step table for a malloc and a free, tried on main: each step with its word, its numbers, its answer,
-- its row and what it means, as they are reckoned by hand. There is one page: its word is 384, and the words of its
-- blocks begin at 385.
use Rattle.std.specs.Prelude.{◌≡◌, ℕ, ◌*◌, false, List, [], ◌∷◌, ◌++◌, replicate, None}
use Rattle.ds_map.specs.Bounds.{Bounds, bounds}
use Rattle.ds_step.specs.declared.OpKind.{OpKind}
use Rattle.ds_step.specs.declared.OpKind.TheVariants as kinds
use Rattle.ds_step.specs.declared.Event.{Event}
use Rattle.ds_step.specs.declared.Event.TheVariants.{Begin, End, Print, Assign, Taken, TakenPage, Block}
use Rattle.ds_step.specs.declared.Event.TheVariants.{BeginFree, EndFree, Trap, Log}
use Rattle.ds_step.specs.declared.Step.{Step}
use Rattle.ds_plain.specs.declared.Stop.{Stop}
use Rattle.ds_plain.specs.declared.Stop.TheVariants as stops
use Rattle.ds_plain.specs.declared.TrapKind.{TrapKind}
use Rattle.ds_plain.specs.declared.TrapKind.TheVariants.{BadFree, DoubleFree}
use Rattle.ds_plain.specs.declared.Request.TheVariants as requests
use Rattle.ds_plain.specs.Behaviour.{Asks, Behaviour, Program}
use Rattle.ds_plain.specs.Thread.{first_thread, Follows, thread_after, stop_of}
use Rattle.ds_tried.specs.Programs.{at}

-- the program whose main behaves so
abbrev pub main_with : Behaviour → Program
main_with behaviour =
    record { main = 0; image = []; may_start = λ f. false; behaves = λ thread function argument. behaviour }

abbrev pub one_page : Bounds
one_page = bounds 1 100 0 0

-- STEPS

abbrev pub made : OpKind → (word a b old row : ℕ) → Event → Step
made kind word a b old row event =
    record { op = record { kind = kind; word = word; a = a; b = b }; old = old; row = row; event = event }

abbrev pub loads : (word old row : ℕ) → Event → Step
loads word old row event = made kinds.Load word 0 0 old row event

abbrev pub swaps : (word expected new old row : ℕ) → Event → Step
swaps word expected new old row event = made kinds.Cas word expected new old row event

abbrev pub stores : (word value row : ℕ) → Event → Step
stores word value row event = made kinds.Store word value 0 0 row event

abbrev pub begins : Step
begins = loads 16 1 1 Begin

abbrev pub ends : Step
ends = stores 16 2 12 End

-- The main that behaves so makes these steps. It then has this stop, has spent so many units, and looks for the next
-- block of each size class from these places on.
pub record IsFollowed (behaviour : Behaviour) (steps : List Step) (stop : Stop) (units : ℕ)
    (places : List ℕ) : Type 0 where
  pub follows : Follows (main_with behaviour) one_page 0 (first_thread one_page) steps
  pub stops : stop_of (thread_after (main_with behaviour) one_page 0 (first_thread one_page) steps) ≡ stop
  pub spends : (thread_after (main_with behaviour) one_page 0 (first_thread one_page) steps).units ≡ units
  pub looks : (thread_after (main_with behaviour) one_page 0 (first_thread one_page) steps).cursors ≡ places

-- this place for the first class, and the first one for the others
abbrev pub first_class : ℕ → List ℕ
first_class place = place ∷ replicate 14 0

-- A BLOCK IS TAKEN AND FREED

-- main asks for 8 bytes, frees the block, and returns
abbrev pub frees_one : Behaviour
frees_one [] = Asks 1 (at 0 0) (requests.Malloc 8)
frees_one (address ∷ []) = Asks 1 (at 0 1) (requests.Free address)
frees_one (address ∷ freed ∷ answers) = Asks 1 (at 0 2) (requests.Stop (stops.Returned None))

-- The page has no size class yet and gets the first, which its word tells by 1. Its first block has had no life, and
-- gets the first: 4 * 1 + 1 while it is live.
abbrev pub takes_first : List Step
takes_first =
    loads 384 0 20 Log
    ∷ swaps 384 0 1 0 21 (Assign 0 0)
    ∷ loads 385 0 22 Log
    ∷ swaps 385 0 5 0 23 (Block 0 0x1000000 1)
    ∷ []

-- it is 4 * 1 + 2 while it is being freed, and 4 * 1 behind that
abbrev pub frees_first : List Step
frees_first =
    loads 384 1 61 Log
    ∷ loads 385 5 62 Log
    ∷ swaps 385 5 6 5 63 (BeginFree 0 1)
    ∷ stores 385 4 74 (EndFree 0)
    ∷ []

-- 1 for the load of the start word, 1 and 4 for each of both, and 1
abbrev pub BlockIsTakenAndFreed : Type 0
BlockIsTakenAndFreed =
    IsFollowed frees_one (begins ∷ takes_first ++ frees_first ++ (ends ∷ [])) (stops.Returned None) 12 (first_class 1)

-- What others did meanwhile is seen: the page has got the class that is wanted; the first block is in use, in its
-- second life; the second one was taken before main had it, and was freed behind its first life; so it gets its second
-- life, and its start is 16 bytes behind the first.
abbrev pub takes_second : List Step
takes_second =
    loads 384 0 20 Log
    ∷ swaps 384 0 1 1 21 Log
    ∷ loads 385 9 22 (Taken 0)
    ∷ loads 386 0 22 Log
    ∷ swaps 386 0 5 4 23 Log
    ∷ swaps 386 4 9 4 23 (Block 1 0x1000010 2)
    ∷ []

abbrev pub frees_second : List Step
frees_second =
    loads 384 1 61 Log
    ∷ loads 386 9 62 Log
    ∷ swaps 386 9 10 9 63 (BeginFree 1 2)
    ∷ stores 386 8 74 (EndFree 1)
    ∷ []

abbrev pub OthersAreSeen : Type 0
OthersAreSeen =
    IsFollowed frees_one (begins ∷ takes_second ++ frees_second ++ (ends ∷ [])) (stops.Returned None) 14 (first_class 2)

-- What is no word of a page or a block means nothing, and is asked again: 16 of a page, 7 of a block, and for a malloc
-- also that of a free block in the last life, which is 2 ^ 32 - 1.
abbrev pub asks_again : List Step
asks_again =
    loads 384 16 20 Log
    ∷ loads 384 0 20 Log
    ∷ swaps 384 0 1 16 21 Log
    ∷ swaps 384 0 1 0 21 (Assign 0 0)
    ∷ loads 385 7 22 Log
    ∷ loads 385 (4 * 4294967295) 22 Log
    ∷ loads 385 0 22 Log
    ∷ swaps 385 0 5 7 23 Log
    ∷ swaps 385 0 5 0 23 (Block 0 0x1000000 1)
    ∷ loads 384 16 61 Log
    ∷ loads 384 1 61 Log
    ∷ loads 385 7 62 Log
    ∷ loads 385 5 62 Log
    ∷ swaps 385 5 6 7 63 Log
    ∷ swaps 385 5 6 5 63 (BeginFree 0 1)
    ∷ stores 385 4 74 (EndFree 0)
    ∷ ends
    ∷ []

abbrev pub StrangeWordsAreAskedAgain : Type 0
StrangeWordsAreAskedAgain = IsFollowed frees_one (begins ∷ asks_again) (stops.Returned None) 20 (first_class 1)

-- NO BLOCK IS LEFT

-- main asks for so many bytes each time, three times, and prints what it is told last
abbrev pub asks_thrice : (bytes : ℕ) → Behaviour
asks_thrice bytes [] = Asks 1 (at 0 0) (requests.Malloc bytes)
asks_thrice bytes (first ∷ []) = Asks 1 (at 0 1) (requests.Malloc bytes)
asks_thrice bytes (first ∷ second ∷ []) = Asks 1 (at 0 2) (requests.Malloc bytes)
asks_thrice bytes (first ∷ second ∷ third ∷ []) = Asks 1 (at 0 3) (requests.Print third)
asks_thrice bytes (first ∷ second ∷ third ∷ printed ∷ answers) = Asks 1 (at 0 4) (requests.Stop (stops.Returned None))

-- A page has one block of the last size class, which its word tells by 15. The first malloc takes it. The next one
-- begins behind it, which is at the same place; the block is in use, and for the third it is being freed.
abbrev pub takes_large : List Step
takes_large =
    loads 384 0 20 Log
    ∷ swaps 384 0 15 0 21 (Assign 0 14)
    ∷ loads 385 0 22 Log
    ∷ swaps 385 0 5 0 23 (Block 0 0x1000000 1)
    ∷ loads 384 15 20 Log
    ∷ loads 385 5 22 (Taken 0)
    ∷ loads 384 15 20 Log
    ∷ loads 385 6 22 (Taken 0)
    ∷ made kinds.Add 2 1 0 0 13 (Print 0 0)
    ∷ ends
    ∷ []

-- the page has no class, but another thread gives it one that is not wanted
abbrev pub finds_other : List Step
finds_other =
    loads 384 0 20 Log
    ∷ swaps 384 0 15 3 21 (TakenPage 0)
    ∷ loads 384 3 20 (TakenPage 0)
    ∷ loads 384 3 20 (TakenPage 0)
    ∷ made kinds.Add 2 1 0 0 13 (Print 0 0)
    ∷ ends
    ∷ []

abbrev pub NullIsTold : Type 0
NullIsTold =
    IsFollowed (asks_thrice 2048) (begins ∷ takes_large) (stops.Returned None) 15 (first_class 0)
    × IsFollowed (asks_thrice 2048) (begins ∷ finds_other) (stops.Returned None) 11 (first_class 0)

-- A page has two blocks of the last class but one, at places 0 and 1. Behind the first malloc the next one looks at
-- place 1 and then, since that is not the first of its page, at place 0, which is free again; so the third begins at
-- place 1 again, and ends at place 0.
abbrev pub looks_round : List Step
looks_round =
    loads 384 0 20 Log
    ∷ swaps 384 0 14 0 21 (Assign 0 13)
    ∷ loads 385 0 22 Log
    ∷ swaps 385 0 5 0 23 (Block 0 0x1000000 1)
    ∷ loads 384 14 20 Log
    ∷ loads 386 5 22 (Taken 1)
    ∷ loads 384 14 20 Log
    ∷ loads 385 4 22 Log
    ∷ swaps 385 4 9 4 23 (Block 0 0x1000000 2)
    ∷ loads 384 14 20 Log
    ∷ loads 386 5 22 (Taken 1)
    ∷ loads 384 14 20 Log
    ∷ loads 385 10 22 (Taken 0)
    ∷ made kinds.Add 2 1 0 0 13 (Print 0 0)
    ∷ ends
    ∷ []

abbrev pub PagesAreLookedAtRound : Type 0
PagesAreLookedAtRound =
    IsFollowed (asks_thrice 1536) (begins ∷ looks_round) (stops.Returned None) 20 (replicate 13 0 ++ (1 ∷ 0 ∷ []))

-- FREES THAT FAIL

-- main frees an address at once
abbrev pub frees_at : (address : ℕ) → Behaviour
frees_at address answers = Asks 1 (at 0 0) (requests.Free address)

abbrev pub trapped : TrapKind → Stop
trapped kind = stops.Trap (record { place = at 0 0; kind = kind })

abbrev pub IsRefused : (address : ℕ) → List Step → TrapKind → (units : ℕ) → Type 0
IsRefused address steps kind units =
    IsFollowed (frees_at address) (begins ∷ steps ++ (ends ∷ [])) (trapped kind) units (first_class 0)

-- no block starts in a page without a class, nor 8 bytes behind the start of one of 16
abbrev pub NoStartsAreRefused : Type 0
NoStartsAreRefused =
    IsRefused 0x1000000 (loads 384 0 61 Trap ∷ []) (BadFree 0x1000000) 3
    × IsRefused 0x1000008 (loads 384 1 61 Trap ∷ []) (BadFree 0x1000008) 3

-- a block that is free, or is being freed, is freed twice; so is one that another thread was the first to take
abbrev pub SecondFreesAreRefused : Type 0
SecondFreesAreRefused =
    IsRefused 0x1000010 (loads 384 1 61 Log ∷ loads 386 4 62 Trap ∷ []) (DoubleFree 0x1000010 4) 4
    × IsRefused 0x1000010 (loads 384 1 61 Log ∷ loads 386 6 62 Trap ∷ []) (DoubleFree 0x1000010 6) 4
    × IsRefused 0x1000010 (loads 384 1 61 Log ∷ loads 386 5 62 Log ∷ swaps 386 5 6 6 63 Trap ∷ [])
    (DoubleFree 0x1000010 6) 5
    × IsRefused 0x1000010 (loads 384 1 61 Log ∷ loads 386 5 62 Log ∷ swaps 386 5 6 9 63 Trap ∷ [])
    (DoubleFree 0x1000010 9) 5
