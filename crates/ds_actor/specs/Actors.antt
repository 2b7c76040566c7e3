-- What contracts see of an actor, and that it stands where a thread of the step table does.
use Rattle.std.specs.Prelude.{◌≡◌, ℕ, ◌<◌, Bool, true, false, if◌then◌else◌, List, [], Option, Some, None}
use Rattle.ds_map.specs.Bounds.{Bounds}
use Rattle.ds_step.specs.declared.Step.{Step}
use Rattle.ds_plain.specs.declared.Place.{Place}
use Rattle.ds_plain.specs.declared.Stop.{Stop}
use Rattle.ds_plain.specs.declared.StartAt.TheVariants.{LoadStart}
use Rattle.ds_plain.specs.declared.Position.{Position}
use Rattle.ds_plain.specs.declared.Position.TheVariants.{Start, Access, Malloc, Note, Free, Spawn, Join}
use Rattle.ds_plain.specs.declared.Position.TheVariants.{DrawPrint, StoreEnded, Over, NoRow}
use Rattle.ds_plain.specs.Asking.{IsWithin}
use Rattle.ds_plain.specs.Behaviour.{Behaviour, silent, place_in_text}
use Rattle.ds_plain.specs.Reached.{AreCursors}
use Rattle.ds_plain.specs.Starting.{StartNext, StartsOn, Begins}
use Rattle.ds_plain.specs.Spawning.{SpawnNext, SpawnsOn, SpawnTells, IsSpawnAt}
use Rattle.ds_plain.specs.Joining.{JoinNext, JoinsOn, Joined, FailsJoin, IsJoinAt}
use Rattle.ds_plain.specs.Table.{step_at, position_of}
use Rattle.ds_plain.specs.Thread.{Thread, standing, first_cursors}
use Rattle.ds_plain.specs.Turns.{is_not_yet}
use Rattle.ds_code.specs.declared.functions.CodeParts.{CodeParts}
use Rattle.ds_code.specs.Machine.{Running, Machine}
use Rattle.ds_frame.specs.declared.moved.Want.{Want}
use Rattle.ds_frame.specs.declared.moved.Want.TheVariants as wants
use Rattle.ds_frame.specs.Threads as frames
use Rattle.ds_frame.specs.Threads.{ThreadState, runs, Serves}
use Rattle.ds_actor.specs.declared.start.StartStep.{StartStep}
use Rattle.ds_actor.specs.declared.start.StartStep.TheVariants as starts
use Rattle.ds_actor.specs.declared.spawn.SpawnStep.{SpawnStep}
use Rattle.ds_actor.specs.declared.spawn.SpawnStep.TheVariants as spawns
use Rattle.ds_actor.specs.declared.join.JoinStep.{JoinStep}
use Rattle.ds_actor.specs.declared.join.JoinStep.TheVariants as joins
use Rattle.ds_actor.specs.declared.outcome.Turn.{Turn}
use Rattle.ds_actor.specs.declared.outcome.Turn.TheVariants.{Stepped, NotYet, Stopped}

pub record ActorState : Type 0 where
  -- what runs its instructions
  pub thread : ThreadState
  -- which row it makes next
  pub position : Position
  -- the places at which it begins to look for a block, by size class
  pub cursors : List ℕ

abbrev pub actor_with : ThreadState → Position → (cursors : List ℕ) → ActorState
actor_with thread position cursors = record { thread = thread; position = position; cursors = cursors }

-- the position of a thread that has spent these units and comes to this one
abbrev pub stands_at : Bounds → (units : ℕ) → Position → Position
stands_at lim units position = (standing lim [] silent units false position).position

-- an actor before its first step: its number, and how many values its code copies together
abbrev pub first_actor : Bounds → (number row : ℕ) → ActorState
first_actor lim number row =
    actor_with (frames.first_state lim number row) (stands_at lim 0 (Start LoadStart)) first_cursors

abbrev pub has_begun : Want → Bool
has_begun wants.Begin = false
has_begun (wants.Asks request) = true

-- a thread that stands at a step for its request goes on as the behaviour says, once it is answered; where the request
-- may trap or find a table full, it knows its place
abbrev pub GoesOn : Running → Machine → Place → Behaviour → Position → Type 0
GoesOn r q place rest (Start at) = Unit {0}
GoesOn r q place rest (Access at) = Serves r q rest
GoesOn r q place rest (Malloc at) = Serves r q rest
GoesOn r q place rest (Note at) = Serves r q rest × (place ≡ place_in_text (rest []))
GoesOn r q place rest (Free at) = Serves r q rest × (place ≡ place_in_text (rest []))
GoesOn r q place rest (Spawn at) = Serves r q rest
GoesOn r q place rest (Join at) = Serves r q rest × (place ≡ place_in_text (rest []))
GoesOn r q place rest (DrawPrint value) = Serves r q rest
GoesOn r q place rest (StoreEnded stop) = Unit {0}
GoesOn r q place rest (Over stop) = Unit {0}
GoesOn r q place rest NoRow = Unit {0}

-- on this code the actor stands where the thread does
pub record IsAt (code : CodeParts) (actor : ActorState) (a : Thread) : Type 0 where
  pub position : actor.position ≡ a.position
  pub units : actor.thread.units ≡ a.units
  pub began : has_begun actor.thread.want ≡ a.began
  pub goes_on : GoesOn (runs code actor.thread) actor.thread.machine actor.thread.place a.rest actor.position
  pub cursors : actor.cursors ≡ a.cursors

-- it is the same actor: its limits, its number, and how many values it can copy together
pub record IsSame (old new : ThreadState) : Type 0 where
  pub lim : new.lim ≡ old.lim
  pub number : new.number ≡ old.number
  pub row : new.row ≡ old.row

-- the stop of an actor that has ended
abbrev pub ended_with : Position → Option Stop
ended_with (Start at) = None
ended_with (Access at) = None
ended_with (Malloc at) = None
ended_with (Note at) = None
ended_with (Free at) = None
ended_with (Spawn at) = None
ended_with (Join at) = None
ended_with (DrawPrint value) = None
ended_with (StoreEnded stop) = None
ended_with (Over stop) = Some stop
ended_with NoRow = None

-- TURNS

abbrev pub waiting : Step → Turn
waiting step = if is_not_yet step then NotYet step else Stepped step

-- what a turn came to, by the position at which the step was made
abbrev pub turn_by : Position → Step → Turn
turn_by (Start at) step = waiting step
turn_by (Access at) step = waiting step
turn_by (Malloc at) step = waiting step
turn_by (Note at) step = waiting step
turn_by (Free at) step = waiting step
turn_by (Spawn at) step = waiting step
turn_by (Join at) step = waiting step
turn_by (DrawPrint value) step = waiting step
turn_by (StoreEnded stop) step = Stopped step stop
turn_by (Over stop) step = waiting step
turn_by NoRow step = waiting step

-- the turn of thread t at a position, by the answer to its operation
abbrev pub turn_at : Bounds → (t : ℕ) → Position → (old : ℕ) → Turn
turn_at lim t position old = turn_by position (step_at lim t position old)

-- the step of a turn
abbrev pub step_in : Turn → Step
step_in (Stepped step) = step
step_in (NotYet step) = step
step_in (Stopped step stop) = step

-- WHAT IS KEPT OF AN ACTOR: no clause of a public call speaks of it

-- where a thread comes whose want is this
abbrev pub wanted_position : Bounds → (cursors : List ℕ) → Want → Position
wanted_position lim cursors wants.Begin = Start LoadStart
wanted_position lim cursors (wants.Asks request) = position_of lim cursors request

-- a thread that makes a step has fuel for it, and one that may begin has not begun
abbrev pub Pays : (fuel units : ℕ) → Want → Position → Type 0
Pays fuel units want (Start at) = (units < fuel) × (want ≡ wants.Begin)
Pays fuel units want (Access at) = units < fuel
Pays fuel units want (Malloc at) = units < fuel
Pays fuel units want (Note at) = units < fuel
Pays fuel units want (Free at) = units < fuel
Pays fuel units want (Spawn at) = units < fuel
Pays fuel units want (Join at) = units < fuel
Pays fuel units want (DrawPrint value) = units < fuel
Pays fuel units want (StoreEnded stop) = Unit {0}
Pays fuel units want (Over stop) = Unit {0}
Pays fuel units want NoRow = Unit {0}

-- what comes of a step before a thread begins, as the code has it
abbrev pub start_in : StartStep → StartNext
start_in (starts.StartsOn at) = StartsOn at
start_in (starts.Begins function argument) = Begins function argument

-- and of one of a thread that starts another one
abbrev pub spawn_in : SpawnStep → SpawnNext
spawn_in (spawns.SpawnsOn at) = SpawnsOn at
spawn_in (spawns.Tells answer) = SpawnTells answer

-- it goes on with a position that it reaches
abbrev pub IsSpawnStep : Bounds → SpawnStep → Type 0
IsSpawnStep lim (spawns.SpawnsOn at) = IsSpawnAt lim at
IsSpawnStep lim (spawns.Tells answer) = Unit {0}

-- and of one of a thread that waits for another one
abbrev pub join_in : JoinStep → JoinNext
join_in (joins.JoinsOn at) = JoinsOn at
join_in joins.Joined = Joined
join_in (joins.FailsJoin number) = FailsJoin number

-- it goes on with a position that it reaches
abbrev pub IsJoinStep : JoinStep → Type 0
IsJoinStep (joins.JoinsOn at) = IsJoinAt at
IsJoinStep joins.Joined = Unit {0}
IsJoinStep (joins.FailsJoin number) = Unit {0}

-- the limits and the number are those of the thread, the position is one of the program's words, and is paid for
pub record IsKept (lim : Bounds) (number : ℕ) (thread : ThreadState) (position : Position) (cursors : List ℕ)
    : Type 0 where
  pub same_limits : thread.lim ≡ lim
  pub same_number : thread.number ≡ number
  pub few : number < 16
  pub within : IsWithin lim position
  pub pays : Pays lim.fuel thread.units thread.want position
  pub looks : AreCursors lim cursors
