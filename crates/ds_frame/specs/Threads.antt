-- What contracts see of a thread, and that it comes where a behaviour asks.
use Rattle.std.specs.Prelude.{◌≡◌, ℕ, ◌+◌, ◌%◌, ◌^◌, Bool, true, false, if◌then◌else◌, nat_le, List, [], ◌∷◌}
use Rattle.ds_map.specs.Bounds.{Bounds}
use Rattle.ds_plain.specs.declared.Place.{Place}
use Rattle.ds_plain.specs.declared.Request.{Request}
use Rattle.ds_plain.specs.declared.Request.TheVariants as requests
use Rattle.ds_plain.specs.declared.Stop.TheVariants.{Fuel}
use Rattle.ds_plain.specs.Behaviour.{Asked, Asks, Silent, Behaviour, behaviour}
use Rattle.ds_plain.specs.Table.{position_of}
use Rattle.ds_plain.specs.Thread.{standing, going_on}
use Rattle.ds_meaning.specs.Meaning.{first_place}
use Rattle.ds_code.specs.declared.functions.CodeParts.{CodeParts}
use Rattle.ds_code.specs.Machine.{Running, Machine}
use Rattle.ds_code.specs.CodeMeaning.{step}
use Rattle.ds_frame.specs.declared.moved.Want.{Want}
use Rattle.ds_frame.specs.declared.moved.Want.TheVariants as wants
use Rattle.ds_frame.specs.Steps.{running, nowhere, answered_at}
use Rattle.ds_frame.specs.Coming.{Standing}

pub record ThreadState : Type 0 where
  -- the limits of the run, and the number of the thread
  pub lim : Bounds
  pub number : ℕ
  -- how many values it can copy together
  pub row : ℕ
  pub want : Want
  -- the place of what asks
  pub place : Place
  -- what it has spent
  pub units : ℕ
  pub machine : Machine

-- a thread that wants to begin stands nowhere yet
abbrev pub IsFresh : Want → Machine → Type 0
IsFresh wants.Begin q = q ≡ nowhere
IsFresh (wants.Asks request) q = Unit {0}

-- a thread of this number before it begins, which can copy so many values together
abbrev pub first_state : Bounds → (number row : ℕ) → ThreadState
first_state lim number row = record {
  lim = lim;
  number = number;
  row = row;
  want = wants.Begin;
  place = first_place 0;
  units = 0;
  machine = nowhere;
}

-- what the thread runs
abbrev pub runs : CodeParts → ThreadState → Running
runs code t = running code t.lim t.number

-- the thread where it has come
abbrev pub at_standing : ThreadState → Standing → ThreadState
at_standing t s =
    record t { want = wants.Asks s.want; place = s.place; units = s.units; machine = s.machine }

-- ARRIVING

-- what a thread wants where it arrives, at which place, and what it has spent
pub record Arrival : Type 0 where
  pub want : Request
  pub place : Place
  pub units : ℕ

-- a thread that its fuel does not pay for has spent it all, and keeps the place that it had
abbrev pub out_of_fuel : (fuel : ℕ) → Place → Arrival
out_of_fuel fuel place = record { want = requests.Stop Fuel; place = place; units = fuel }

-- Where a thread arrives that has spent these units: at the request that is asked, where its fuel pays for the
-- instructions that begin with it.
abbrev pub arrival : (fuel : ℕ) → Place → (units : ℕ) → Asked → Arrival
arrival fuel place units (Asks begun there request) =
    if nat_le (units + begun) fuel then record { want = request; place = there; units = units + begun }
    else out_of_fuel fuel place
arrival fuel place units Silent = out_of_fuel fuel place

abbrev pub arrival_of : ThreadState → Behaviour → Arrival
arrival_of t rest = arrival t.lim.fuel t.place t.units (rest [])

-- the thread where it arrives
abbrev pub at_arrival : ThreadState → Arrival → Machine → ThreadState
at_arrival t a q = record t { want = wants.Asks a.want; place = a.place; units = a.units; machine = q }

-- SERVING

-- the request is to end
abbrev pub is_stop : Request → Bool
is_stop (requests.Load access) = false
is_stop (requests.Store access value) = false
is_stop (requests.Rmw access op value) = false
is_stop (requests.Cas access expected new) = false
is_stop (requests.Malloc bytes) = false
is_stop (requests.Free address) = false
is_stop (requests.Note loc value) = false
is_stop (requests.Print value) = false
is_stop (requests.Spawn loc function arg) = false
is_stop (requests.Join number) = false
is_stop (requests.Stop stop) = true

-- a thread that stands at its request goes on as this behaviour says, once it is answered
abbrev pub Serves : Running → Machine → Behaviour → Type 0
Serves r q rest = (answer : ℕ) (more : List ℕ)
    → rest (answer ∷ more) ≡ behaviour (step r) r.lim.fuel (answered_at r q (answer % 2 ^ 64)) more

-- the thread goes on to what this behaviour asks, as far as its fuel pays
pub record Comes (code : CodeParts) (old new : ThreadState) (rest : Behaviour) : Type 0 where
  -- it wants what is asked, at its place, and has spent what that costs
  pub arrives : new ≡ at_arrival old (arrival_of old rest) new.machine
  -- that is where a thread of the step table comes that behaves so, wherever it looks for blocks
  pub stands : (cursors : List ℕ)
      → standing old.lim cursors rest (arrival_of old rest).units true
      (position_of old.lim cursors (arrival_of old rest).want)
      ≡ going_on old.lim cursors old.units rest
  -- once it is answered it goes on as the behaviour says
  pub serves : is_stop (arrival_of old rest).want ≡ false → Serves (runs code old) new.machine rest
