-- Helpers: what is kept of a run while it is made. No clause of a public call speaks of them.
use Rattle.std.specs.Prelude.{◌≡◌, ℕ, ◌+◌, List, [], ◌∷◌, ◌++◌, length, Some, slice_get}
use Rattle.ds_map.specs.Bounds.{Bounds}
use Rattle.ds_map.specs.Words.{words as words_of}
use Rattle.ds_step.specs.declared.Step.{Step}
use Rattle.ds_plain.specs.declared.Cue.{Cue}
use Rattle.ds_plain.specs.declared.Stop.{Stop}
use Rattle.ds_plain.specs.Thread.{Thread, stop_at}
use Rattle.ds_plain.specs.History.{History, threads_of}
use Rattle.ds_plain.specs.Turns.{Turns, first_turns, IsTurnByTurn}
use Rattle.ds_plain.specs.Stands.{Stands}
use Rattle.ds_code.specs.declared.functions.CodeParts.{CodeParts}
use Rattle.ds_code.specs.CodeProgram.{program_of}
use Rattle.ds_actor.specs.Actors.{ActorState, IsAt, has_begun}
use Rattle.ds_schedule.specs.Standing.{Standing, StandsAt}
use Rattle.ds_core.specs.Fits.{Fits, steps_left}

-- the actor of thread t, where the thread stands
pub record IsActor (code : CodeParts) (lim : Bounds) (t : ℕ) (a : Thread) (actor : ActorState) : Type 0 where
  pub at : IsAt code actor a
  pub bounds : actor.thread.lim ≡ lim
  pub number : actor.thread.number ≡ t
  pub row : actor.thread.row ≡ code.row

-- there is an actor for each of 16 threads
pub record AreActors (code : CodeParts) (lim : Bounds) (threads : ℕ → Thread) (actors : List ActorState) : Type 0 where
  pub sixteen : length actors ≡ 16
  pub each : (t : ℕ) (actor : ActorState) → slice_get actors t ≡ Some actor → IsActor code lim t (threads t) actor

-- A run of which so many steps were made: these are its words, its actors, its traces, its order, and where its
-- schedule stands.
pub record Runs (code : CodeParts) (lim : Bounds) (cues : List Cue) (seed : ℕ) (words : List ℕ)
    (actors : List ActorState) (traces : List (List Step)) (order : List ℕ) (standing : Standing) : Type 0 where
  pub history : History
  pub threads : ℕ → Thread
  pub turns : Turns
  pub whole : length words ≡ words_of lim
  pub sixteen_traces : length traces ≡ 16
  pub in_order : threads_of history ≡ order
  pub stands : Stands (program_of lim code) lim traces history words threads
  pub are_actors : AreActors code lim threads actors
  -- each thread may stand there
  pub fits : (t : ℕ) → Fits lim (turns.ended t) (threads t)
  -- the schedule stands where its turns so far lead
  pub scheduled : StandsAt standing turns
  pub by_turns : (more : History) → IsTurnByTurn turns more → IsTurnByTurn (first_turns cues seed) (history ++ more)

-- how many steps these actors make at most from there on
abbrev pub all_left : (fuel : ℕ) → List ActorState → ℕ
all_left fuel [] = 0
all_left fuel (actor ∷ actors) = steps_left fuel actor.position actor.thread.units + all_left fuel actors

-- how a thread stands whose actor this is
abbrev pub actor_stop : ActorState → Stop
actor_stop actor = stop_at (has_begun actor.thread.want) actor.position
