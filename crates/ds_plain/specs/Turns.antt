-- Who has a turn: the schedule of a replay, and the rounds of a run on threads. What each says next can be computed.
use Rattle.std.specs.Prelude.{◌≡◌, ℕ, zero, suc, ◌+◌, ◌-◌, ◌*◌, ◌/◌, ◌%◌, ◌^◌, ◌<◌, Bool, true, false, not, ◌&&◌}
use Rattle.std.specs.Prelude.{◌||◌, ◌==◌}
use Rattle.std.specs.Prelude.{nat_lt, nat_le, min, if◌then◌else◌, List, [], ◌∷◌, length, Option, Some, None, slice_get}
use Rattle.std.specs.List.{filter, range_with_len}
use Rattle.ds_map.specs.Bounds.{Bounds}
use Rattle.ds_step.specs.declared.Event.{Event}
use Rattle.ds_step.specs.declared.Event.TheVariants as events
use Rattle.ds_step.specs.declared.Step.{Step}
use Rattle.ds_plain.specs.declared.Cue.{Cue}
use Rattle.ds_plain.specs.declared.Position.{Position}
use Rattle.ds_plain.specs.declared.Position.TheVariants.{Start, Access, Malloc, Note, Free, Spawn, Join}
use Rattle.ds_plain.specs.declared.Position.TheVariants.{DrawPrint, StoreEnded, Over, NoRow}
use Rattle.ds_plain.specs.Behaviour.{Program}
use Rattle.ds_plain.specs.State.{replaced}
use Rattle.ds_plain.specs.Thread.{Thread, first_thread, moved}
use Rattle.ds_plain.specs.History.{History, Interleaves, threads_of}
use Rattle.ds_plain.specs.Explained.{trace_of, IsLegalRun}

-- TURNS THAT PASS

-- the step only saw that its thread must wait: for its own start, or for the end of the thread that it joins
abbrev pub is_not_yet : Step → Bool
is_not_yet step = ((step.row == 1) && (step.old == 0)) || ((step.row == 11) && not (step.old == 2))

-- what an event does to the numbers of threads: one is given out, the thread has ended, or neither
pub data Passing : Type 0 where
  Gives : Passing
  Ends : Passing
  Neither : Passing

abbrev pub passing_of : Event → Passing
passing_of events.Begin = Neither
passing_of (events.Spawn n function arg) = Gives
passing_of events.SpawnRefused = Neither
passing_of (events.Join n) = Neither
passing_of events.End = Ends
passing_of (events.Print number value) = Neither
passing_of (events.Load loc value) = Neither
passing_of (events.Store loc value) = Neither
passing_of (events.Exchange loc value) = Neither
passing_of (events.Assign page class) = Neither
passing_of (events.Taken place) = Neither
passing_of (events.TakenPage page) = Neither
passing_of (events.Block place start life) = Neither
passing_of (events.Found place start life) = Neither
passing_of events.Skip = Neither
passing_of (events.Noted place life loc) = Neither
passing_of (events.BeginFree place life) = Neither
passing_of (events.Mark loc) = Neither
passing_of (events.Seen loc) = Neither
passing_of (events.EndFree place) = Neither
passing_of events.Trap = Neither
passing_of (events.Full what) = Neither
passing_of events.Log = Neither

abbrev pub ends_thread : Passing → Bool
ends_thread Gives = false
ends_thread Ends = true
ends_thread Neither = false

-- the step is its thread's last
abbrev pub is_end : Step → Bool
is_end step = ends_thread (passing_of step.event)

-- SCHEDULES

-- where a schedule stands
pub record Turns : Type 0 where
  -- the cues that were not followed to their end
  pub cues : List Cue
  -- the number that was drawn last, at first the seed
  pub drawn : ℕ
  -- the thread number that is given out next
  pub given : ℕ
  -- which threads have ended
  pub ended : ℕ → Bool

abbrev pub first_turns : List Cue → (seed : ℕ) → Turns
first_turns cues seed = record { cues = cues; drawn = seed; given = 1; ended = λ t. false }

-- the number that is drawn behind x
abbrev pub draw : ℕ → ℕ
draw x = (x * 6364136223846793005 + 1442695040888963407) % 2 ^ 64

-- the thread was given out and has not ended
abbrev pub may_turn : Turns → ℕ → Bool
may_turn turns t = nat_lt t (min turns.given 16) && not (turns.ended t)

-- the threads that were given out and have not ended, in number order
abbrev pub turning : Turns → List ℕ
turning turns = filter (may_turn turns) (range_with_len 0 16)

-- the thread that is drawn of these
abbrev pub chosen : List ℕ → (drawn : ℕ) → Option ℕ
chosen threads drawn = slice_get threads (drawn / 2 ^ 33 % length threads)

-- the cues from the first one on whose thread may have a turn
abbrev pub standing_cues : Turns → List Cue → List Cue
standing_cues turns [] = []
standing_cues turns (cue ∷ cues) = if may_turn turns cue.thread then cue ∷ cues else standing_cues turns cues

-- the cue is followed to its end by this step: it makes the cue's row, its thread must wait, or has ended
abbrev pub ends_cue : Cue → Step → Bool
ends_cue cue step = (step.row == cue.until) || (is_not_yet step || is_end step)

abbrev pub cues_behind : Cue → List Cue → Step → List Cue
cues_behind cue cues step = if ends_cue cue step then cues else cue ∷ cues

-- the thread whose turn it is, by the cues that stand: that of the first one, or the one that is drawn
abbrev pub next_by : Turns → List Cue → Option ℕ
next_by turns [] = chosen (turning turns) (draw turns.drawn)
next_by turns (cue ∷ cues) = Some cue.thread

abbrev pub next_turn : Turns → Option ℕ
next_turn turns = next_by turns (standing_cues turns turns.cues)

abbrev pub given_behind : Passing → ℕ → ℕ
given_behind Gives given = suc given
given_behind Ends given = given
given_behind Neither given = given

abbrev pub ended_behind : Passing → ℕ → (ℕ → Bool) → ℕ → Bool
ended_behind Gives t ended = ended
ended_behind Ends t ended = replaced ended t true
ended_behind Neither t ended = ended

-- where the schedule stands behind the step of thread t, by the cues that stood before it
abbrev pub turns_by : Turns → (t : ℕ) → Step → List Cue → Turns
turns_by turns t step [] =
    record {
      cues = [];
      drawn = draw turns.drawn;
      given = given_behind (passing_of step.event) turns.given;
      ended = ended_behind (passing_of step.event) t turns.ended;
    }
turns_by turns t step (cue ∷ cues) =
    record {
      cues = cues_behind cue cues step;
      drawn = turns.drawn;
      given = given_behind (passing_of step.event) turns.given;
      ended = ended_behind (passing_of step.event) t turns.ended;
    }

abbrev pub turns_behind : Turns → (t : ℕ) → Step → Turns
turns_behind turns t step = turns_by turns t step (standing_cues turns turns.cues)

-- each step is one of the thread whose turn it is, and the last one is main's end
abbrev pub IsTurnByTurn : Turns → History → Type 0
IsTurnByTurn turns [] = turns.ended 0 ≡ true
IsTurnByTurn turns (e ∷ es) =
    (turns.ended 0 ≡ false) × (next_turn turns ≡ Some e.0) × IsTurnByTurn (turns_behind turns e.0 e.1) es

-- the history is the one of this schedule: its cues are followed in order, and then each turn is drawn
abbrev pub IsScheduled : List Cue → (seed : ℕ) → History → Type 0
IsScheduled cues seed h = IsTurnByTurn (first_turns cues seed) h

-- the order of the traces is a legal one, and that of this schedule
abbrev pub IsScheduledOrder : Program → Bounds → List Cue → (seed : ℕ) → List (List Step) → List ℕ → Type 0
IsScheduledOrder program lim cues seed traces order =
    (h : History) × (threads_of h ≡ order) × Interleaves traces h × IsLegalRun program lim h × IsScheduled cues seed h

-- ROUNDS

-- with so many units spent in it a round of a thread ends
abbrev pub round_units : ℕ
round_units = 10000

-- a round of a thread ends with this step, behind which it has spent so much in the round
abbrev pub ends_round : Step → (spent : ℕ) → Bool
ends_round step spent = is_not_yet step || (is_end step || nat_le round_units spent)

-- a thread that has made some of its steps, and the others
pub record Remaining : Type 0 where
  pub thread : Thread
  pub steps : List Step

abbrev pub is_ended : Position → Bool
is_ended (Start at) = false
is_ended (Access at) = false
is_ended (Malloc at) = false
is_ended (Note at) = false
is_ended (Free at) = false
is_ended (Spawn at) = false
is_ended (Join at) = false
is_ended (DrawPrint value) = false
is_ended (StoreEnded stop) = false
is_ended (Over stop) = true
is_ended NoRow = false

module _ (program : Program) (lim : Bounds) (t : ℕ) where
  -- behind the first step that ends the round of a thread, which had spent so much before the round; none where no
  -- step does
  abbrev pub behind_round : (before : ℕ) → Thread → List Step → Option Remaining
  behind_round before a [] = None
  behind_round before a (s ∷ ss) =
      if ends_round s ((moved program lim t a s.old).units - before)
      then Some (record { thread = moved program lim t a s.old; steps = ss })
      else behind_round before (moved program lim t a s.old) ss

  -- behind one round more; one that has ended makes no step in it
  abbrev pub behind_one : Remaining → Option Remaining
  behind_one rest =
      if is_ended rest.thread.position then Some rest else behind_round rest.thread.units rest.thread rest.steps

  abbrev pub then_behind : (Remaining → Option Remaining) → Option Remaining → Option Remaining
  then_behind go None = None
  then_behind go (Some rest) = go rest

  -- behind n rounds
  abbrev pub behind_rounds : ℕ → Remaining → Option Remaining
  behind_rounds zero rest = Some rest
  behind_rounds (suc n) rest = then_behind (behind_rounds n) (behind_one rest)

-- what is left of a trace behind n rounds
abbrev pub left_behind : Program → Bounds → ℕ → (n : ℕ) → List Step → Option Remaining
left_behind program lim t n trace =
    behind_rounds program lim t n (record { thread = first_thread lim; steps = trace })

abbrev pub IsLeft : (Remaining → Type 0) → Option Remaining → Type 0
IsLeft P None = ⊥
IsLeft P (Some rest) = P rest

-- The traces were made in n rounds: each is cut into n pieces, of which those behind its end are empty and each other
-- one ends with the first step that ends a round; and main ends in the last.
pub record IsInRounds (program : Program) (lim : Bounds) (n : ℕ) (traces : List (List Step)) : Type 0 where
  pub cut : (t : ℕ) → t < 16
      → IsLeft (λ rest. rest.steps ≡ []) (left_behind program lim t n (trace_of traces t))
  pub main_ended : IsLeft (λ rest. is_ended rest.thread.position ≡ true)
      (left_behind program lim 0 n (trace_of traces 0))
  pub main_last : (k : ℕ) → n ≡ suc k
      → IsLeft (λ rest. is_ended rest.thread.position ≡ false) (left_behind program lim 0 k (trace_of traces 0))
