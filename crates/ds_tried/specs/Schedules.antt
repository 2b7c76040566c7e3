-- Which thread has a turn under a schedule.
use Rattle.std.specs.Prelude.{◌≡◌, ℕ, zero, suc, Bool, false, ◌==◌, List, [], ◌∷◌, ◌++◌, map, Option, Some}
use Rattle.ds_step.specs.declared.OpKind.TheVariants as kinds
use Rattle.ds_step.specs.declared.Event.{Event}
use Rattle.ds_step.specs.declared.Event.TheVariants.{Begin, Spawn, Join, End, Load, Store, Log}
use Rattle.ds_step.specs.declared.Step.{Step}
use Rattle.ds_plain.specs.History.{History}
use Rattle.ds_plain.specs.declared.Cue.{Cue}
use Rattle.ds_plain.specs.Turns.{Turns, next_turn, turns_behind, turning, IsScheduled}

-- a step of this row that was answered so and means this; what it does to its word is no matter here
abbrev pub step_of : (row old : ℕ) → Event → Step
step_of row old event =
    record { op = record { kind = kinds.Load; word = 16; a = 0; b = 0 }; old = old; row = row; event = event }

-- a step that loads a program word
abbrev pub loads : Step
loads = step_of 14 5 (Load 1 5)

-- a step of a thread that may not begin yet
abbrev pub waits : Step
waits = step_of 1 0 Log

-- a thread's last step
abbrev pub ends : Step
ends = step_of 12 0 End

-- DRAWS

-- no cues, the seed 0, and so many threads given out, of which these have ended
abbrev pub drawing : (given : ℕ) → (ended : ℕ → Bool) → Turns
drawing given ended = record { cues = []; drawn = 0; given = given; ended = ended }

-- whose turns the next n are, if each of them loads
abbrev pub next_turns : (n : ℕ) → Turns → List (Option ℕ)
next_turns zero turns = []
next_turns (suc n) turns = next_turn turns ∷ next_turns n (turns_behind turns 0 loads)

-- with seed 0 thread 1 is drawn first of two: the numbers that are drawn are odd, even, odd, even, odd, odd
abbrev pub FirstOfTwo : Type 0
FirstOfTwo = next_turns 6 (drawing 2 (λ t. false)) ≡ map (λ (t : ℕ). Some t) (1 ∷ 0 ∷ 1 ∷ 0 ∷ 1 ∷ 1 ∷ [])

-- Of three, of which thread 1 has ended, threads 0 and 2 are left. Of 18 that were asked for 16 were given out.
abbrev pub EndedHaveNoTurn : Type 0
EndedHaveNoTurn =
    (turning (drawing 3 (λ t. t == 1)) ≡ 0 ∷ 2 ∷ [])
    × (next_turns 4 (drawing 3 (λ t. t == 1)) ≡ map (λ (t : ℕ). Some t) (2 ∷ 0 ∷ 2 ∷ 0 ∷ []))
    × (turning (drawing 18 (λ t. false)) ≡ 0 ∷ 1 ∷ 2 ∷ 3 ∷ 4 ∷ 5 ∷ 6 ∷ 7 ∷ 8 ∷ 9 ∷ 10 ∷ 11 ∷ 12 ∷ 13 ∷ 14 ∷ 15 ∷ [])

-- CUES

-- a thread has turns until one makes this row
abbrev pub cue : (thread until : ℕ) → Cue
cue thread until = record { thread = thread; until = until }

-- two threads are given out, and these cues stand
abbrev pub cued : List Cue → Turns
cued cues = record { cues = cues; drawn = 5; given = 2; ended = λ t. false }

-- the cues that are left once thread t has made this step
abbrev pub left : Turns → (t : ℕ) → Step → List Cue
left turns t step = (turns_behind turns t step).cues

-- a cue goes on until its row, and ends there; meanwhile nothing is drawn
abbrev pub CueEndsAtItsRow : Type 0
CueEndsAtItsRow =
    (next_turn (cued (cue 1 14 ∷ cue 0 12 ∷ [])) ≡ Some 1)
    × (left (cued (cue 1 14 ∷ cue 0 12 ∷ [])) 1 (step_of 15 0 (Store 1 5)) ≡ cue 1 14 ∷ cue 0 12 ∷ [])
    × (left (cued (cue 1 14 ∷ cue 0 12 ∷ [])) 1 loads ≡ cue 0 12 ∷ [])
    × ((turns_behind (cued (cue 1 14 ∷ [])) 1 loads).drawn ≡ 5)

-- it ends where its thread must wait: for its own start, or for the thread that it joins; not where it joins that
abbrev pub CueEndsAtAWait : Type 0
CueEndsAtAWait =
    (left (cued (cue 1 12 ∷ cue 0 12 ∷ [])) 1 waits ≡ cue 0 12 ∷ [])
    × (left (cued (cue 0 12 ∷ [])) 0 (step_of 11 0 Log) ≡ [])
    × (left (cued (cue 0 12 ∷ [])) 0 (step_of 11 1 Log) ≡ [])
    × (left (cued (cue 0 12 ∷ [])) 0 (step_of 11 2 (Join 1)) ≡ cue 0 12 ∷ [])
    × (left (cued (cue 0 12 ∷ [])) 0 (step_of 1 1 Begin) ≡ cue 0 12 ∷ [])

-- it ends where its thread ends, whatever row it names, and the thread has no more turns
abbrev pub CueEndsAtAnEnd : Type 0
CueEndsAtAnEnd =
    (left (cued (cue 1 69 ∷ cue 0 12 ∷ [])) 1 ends ≡ cue 0 12 ∷ [])
    × (turning (turns_behind (cued (cue 1 69 ∷ [])) 1 ends) ≡ 0 ∷ [])

-- a cue for a thread that was not given out, has ended or has no such number is passed over, and does not come back
abbrev pub CueIsPassedOver : Type 0
CueIsPassedOver =
    (next_turn (cued (cue 2 12 ∷ cue 1 12 ∷ [])) ≡ Some 1)
    × (left (cued (cue 2 12 ∷ cue 0 12 ∷ [])) 0 (step_of 5 2 (Spawn 2 1 0)) ≡ cue 0 12 ∷ [])
    × (next_turn (turns_behind (cued (cue 1 12 ∷ cue 1 14 ∷ cue 0 12 ∷ [])) 1 ends) ≡ Some 0)
    × (next_turn (record { cues = cue 16 12 ∷ cue 3 12 ∷ []; drawn = 0; given = 18; ended = λ t. false }) ≡ Some 3)

-- behind the last cue each turn is drawn
abbrev pub DrawnBehindCues : Type 0
DrawnBehindCues =
    (next_turn (record { cues = cue 2 12 ∷ []; drawn = 0; given = 2; ended = λ t. false }) ≡ Some 1)
    × ((turns_behind (record { cues = cue 2 12 ∷ []; drawn = 0; given = 2; ended = λ t. false }) 1 loads).drawn
    ≡ 1442695040888963407)

-- HISTORIES

abbrev pub EachIs : List Cue → (seed : ℕ) → List History → Type 0
EachIs cues seed [] = Unit {0}
EachIs cues seed (h ∷ hs) = IsScheduled cues seed h × EachIs cues seed hs

abbrev pub NoneIs : List Cue → (seed : ℕ) → List History → Type 0
NoneIs cues seed [] = Unit {0}
NoneIs cues seed (h ∷ hs) = (¬ IsScheduled cues seed h) × NoneIs cues seed hs

-- each of these histories is one of the schedule, and none of the others
pub record Schedules (cues : List Cue) (seed : ℕ) (followed others : List History) : Type 0 where
  pub are : EachIs cues seed followed
  pub are_not : NoneIs cues seed others

-- main begins
abbrev pub begins : Step
begins = step_of 1 1 Begin

-- it starts thread 1
abbrev pub spawns : Step
spawns = step_of 5 1 (Spawn 1 1 0)

-- it stores the number
abbrev pub stores : Step
stores = step_of 9 0 (Store 5 1)

-- main starts a thread and ends, and the other thread waits meanwhile, in the turns that seed 0 draws
abbrev pub drawn_history : History
drawn_history =
    (0, begins) ∷ (0, spawns) ∷ (1, waits) ∷ (0, stores) ∷ (1, waits) ∷ (1, waits) ∷ (0, ends) ∷ []

-- It is scheduled so, and in no other order, not without its end, and not with more behind that. Thread 1 has no turn
-- before it is given out.
abbrev pub DrawnHistory : Type 0
DrawnHistory = Schedules [] 0 (drawn_history ∷ [])
    (((0, begins) ∷ (0, spawns) ∷ (0, stores) ∷ (1, waits) ∷ (1, waits) ∷ (1, waits) ∷ (0, ends) ∷ [])
    ∷ ((0, begins) ∷ (0, spawns) ∷ (1, waits) ∷ (0, stores) ∷ (1, waits) ∷ (1, waits) ∷ [])
    ∷ (drawn_history ++ (1, waits) ∷ [])
    ∷ ((1, waits) ∷ drawn_history)
    ∷ [] ∷ [])

-- The same two threads with cues: main has turns until row 9, then thread 1 waits once, and main goes on to its end.
abbrev pub CuedHistory : Type 0
CuedHistory = Schedules (cue 1 12 ∷ cue 0 9 ∷ cue 1 12 ∷ cue 0 12 ∷ []) 0
    (((0, begins) ∷ (0, spawns) ∷ (0, stores) ∷ (1, waits) ∷ (0, ends) ∷ []) ∷ [])
    (drawn_history
    ∷ ((0, begins) ∷ (0, spawns) ∷ (0, stores) ∷ (0, ends) ∷ [])
    ∷ ((0, begins) ∷ (0, spawns) ∷ (0, stores) ∷ (1, waits) ∷ (1, waits) ∷ (0, ends) ∷ [])
    ∷ [])
