-- How the phase of a thread may look: while it runs, and after a step of another thread.
use Rattle.std.proofs.Common.{◌≡◌, ℕ, ◌≤◌, ◌==◌, Bool, true, false, if◌then◌else◌, [], Some, None, refl, sym, ap}
use Rattle.std.proofs.Common.{◌∙◌, subst, arith}
use Rattle.std.proofs.lemmas.Bool.{eq-eqb}
use Rattle.ds_map.specs.Bounds.{Bounds}
use Rattle.ds_plain.specs.declared.Place.{Place}
use Rattle.ds_plain.specs.declared.Stop.{Stop}
use Rattle.ds_plain.specs.declared.Stop.TheVariants.{Idle}
use Rattle.ds_plain.specs.declared.Request.{Request}
use Rattle.ds_plain.specs.declared.Request.TheVariants as requests
use Rattle.ds_plain.specs.Behaviour.{Asks, Behaviour, Program}
use Rattle.ds_plain.specs.State.{Block, Doing, Phase, NotGiven, Closed, Ready, Going, Stopped, State, Setting}
use Rattle.ds_plain.specs.State.{stop_of_phase, first_phase, first_left, untouched, come_to}
use Rattle.ds_plain.specs.Plain.{request_in, request_of, doing_of, IsStopped, AsksFor, so_far, phase_with, not_due}

-- the thread runs, with this behaviour left, and its request has drawn no number and stopped nothing
pub record Runs (rest : Behaviour) (phase : Phase) : Type 0 where
  pub doing : Doing
  pub going : phase ≡ Going rest doing
  pub not_spawned : doing.spawned ≡ None
  pub not_ended : doing.ended ≡ None

-- and this is its request
pub record Asking (rest : Behaviour) (phase : Phase) (request : Request) : Type 0 where
  pub runs : Runs rest phase
  pub begun : ℕ
  pub place : Place
  pub asks : rest [] ≡ Asks begun place request

-- the thread runs, and its request has come to this stop
pub record Halts (rest : Behaviour) (phase : Phase) (stop : Stop) : Type 0 where
  pub doing : Doing
  pub going : phase ≡ Going rest doing
  pub ended : doing.ended ≡ Some stop

-- then its request is at hand
pub asked_for : (rest : Behaviour) (phase : Phase) (request : Request) → Asking rest phase request
    → request_of phase ≡ Some request
asked_for rest phase request asking = ap request_of asking.runs.going ∙ ap request_in asking.asks

-- what its request has come to
pub doing_so_far : (setting : Setting) (s : State) (t : ℕ) (rest : Behaviour) (doing : Doing)
    → s.threads t ≡ Going rest doing → so_far setting s t ≡ doing
doing_so_far setting s t rest doing going = ap (doing_of setting.lim s) going

-- then the plain machine lets it go on with that request
pub asks_for : (setting : Setting) (s : State) (t : ℕ) (rest : Behaviour) (request : Request)
    → Asking rest (s.threads t) request → AsksFor setting s t request
asks_for setting s t rest request asking =
    let runs = asking.runs in
    record {
      at_hand = asked_for rest (s.threads t) request asking;
      not_spawned = ap (λ phase. (doing_of setting.lim s phase).spawned) runs.going ∙ runs.not_spawned;
      not_ended = ap (λ phase. (doing_of setting.lim s phase).ended) runs.going ∙ runs.not_ended;
    }

-- what a request has come to is what it had come to before, but for what is due
pub record SameDoing (doing doing' : Doing) : Type 0 where
  pub left : doing'.left ≡ doing.left
  pub lives : doing'.lives ≡ doing.lives
  pub found : doing'.found ≡ doing.found
  pub spawned : doing'.spawned ≡ doing.spawned
  pub ended : doing'.ended ≡ doing.ended

-- how a step of another thread leaves the phase of a thread
abbrev pub Passes : Phase → Phase → Type 0
Passes NotGiven phase = phase ≡ NotGiven
Passes (Closed function argument) phase = phase ≡ Closed function argument
Passes (Ready function argument) phase = phase ≡ Ready function argument
Passes (Going rest doing) phase = (doing' : Doing) × (phase ≡ Going rest doing') × SameDoing doing doing'
Passes (Stopped stop) phase = phase ≡ Stopped stop

-- as it was
pub passes_same : (phase : Phase) → Passes phase phase
passes_same NotGiven = refl
passes_same (Closed function argument) = refl
passes_same (Ready function argument) = refl
passes_same (Going rest doing) =
    (doing, refl, record { left = refl; lives = refl; found = refl; spawned = refl; ended = refl })
passes_same (Stopped stop) = refl

-- or with a location that is no longer due
pub passes_not_due : (loc : ℕ) (phase : Phase) → Passes phase (phase_with (not_due loc) phase)
passes_not_due loc NotGiven = refl
passes_not_due loc (Closed function argument) = refl
passes_not_due loc (Ready function argument) = refl
passes_not_due loc (Going rest doing) = (
  not_due loc doing,
  refl,
  record { left = refl; lives = refl; found = refl; spawned = refl; ended = refl },
)
passes_not_due loc (Stopped stop) = refl

-- a thread that has not begun
abbrev pub NotBegun : Phase → Type 0
NotBegun NotGiven = Unit {0}
NotBegun (Closed function argument) = Unit {0}
NotBegun (Ready function argument) = Unit {0}
NotBegun (Going rest doing) = ⊥
NotBegun (Stopped stop) = ⊥

-- how any step of another thread leaves the phase of a thread: one that has not begun may be given out, or let begin
abbrev pub MayPass : Phase → Phase → Type 0
MayPass NotGiven phase = NotBegun phase
MayPass (Closed function argument) phase = NotBegun phase
MayPass (Ready function argument) phase = phase ≡ Ready function argument
MayPass (Going rest doing) phase = (doing' : Doing) × (phase ≡ Going rest doing') × SameDoing doing doing'
MayPass (Stopped stop) phase = phase ≡ Stopped stop

pub passes_may : (phase phase' : Phase) → Passes phase phase' → MayPass phase phase'
passes_may NotGiven phase' passes = subst NotBegun (sym passes) tt
passes_may (Closed function argument) phase' passes = subst NotBegun (sym passes) tt
passes_may (Ready function argument) phase' passes = passes
passes_may (Going rest doing) phase' passes = passes
passes_may (Stopped stop) phase' passes = passes

-- a thread that runs still runs
abbrev pub runs_on : (rest : Behaviour) (phase phase' : Phase) → Runs rest phase → MayPass phase phase' → Runs rest phase'
runs_on rest phase phase' runs passes =
    let p : MayPass (Going rest runs.doing) phase' = subst (λ ph. MayPass ph phase') runs.going passes in
    record {
      doing = p.0;
      going = p.1;
      not_spawned = p.2.spawned ∙ runs.not_spawned;
      not_ended = p.2.ended ∙ runs.not_ended;
    }

-- with the same doing
pub runs_same : (rest : Behaviour) (phase phase' : Phase) (runs : Runs rest phase) (passes : MayPass phase phase')
    → SameDoing runs.doing (runs_on rest phase phase' runs passes).doing
runs_same rest phase phase' runs passes =
    let p : MayPass (Going rest runs.doing) phase' = subst (λ ph. MayPass ph phase') runs.going passes in p.2

abbrev pub asking_on : (rest : Behaviour) (phase phase' : Phase) (request : Request) → Asking rest phase request
    → MayPass phase phase' → Asking rest phase' request
asking_on rest phase phase' request asking passes = record {
  runs = runs_on rest phase phase' asking.runs passes;
  begun = asking.begun;
  place = asking.place;
  asks = asking.asks;
}

pub halts_on : (rest : Behaviour) (phase phase' : Phase) (stop : Stop) → Halts rest phase stop
    → MayPass phase phase' → Halts rest phase' stop
halts_on rest phase phase' stop halts passes =
    let p : MayPass (Going rest halts.doing) phase' = subst (λ ph. MayPass ph phase') halts.going passes in
    record { doing = p.0; going = p.1; ended = p.2.ended ∙ halts.ended }

-- THREADS THAT HAVE NOT BEGUN

-- main may begin at once
pub record IsWaiting (program : Program) (t : ℕ) (phase : Phase) : Type 0 where
  pub waits : NotBegun phase
  pub main : t ≡ 0 → phase ≡ Ready program.main 0

-- one that has not begun stands idle
pub waits_idle : (phase : Phase) → NotBegun phase → stop_of_phase phase ≡ Idle
waits_idle NotGiven waits = refl
waits_idle (Closed function argument) waits = refl
waits_idle (Ready function argument) waits = refl
waits_idle (Going rest doing) waits = absurd waits
waits_idle (Stopped stop) waits = absurd waits

pub waits_not_stopped : (phase : Phase) → NotBegun phase → IsStopped phase → ⊥
waits_not_stopped NotGiven waits h = h
waits_not_stopped (Closed function argument) waits h = h
waits_not_stopped (Ready function argument) waits h = h
waits_not_stopped (Going rest doing) waits h = waits
waits_not_stopped (Stopped stop) waits h = waits

waits_pass : (phase phase' : Phase) → NotBegun phase → MayPass phase phase' → NotBegun phase'
waits_pass NotGiven phase' waits passes = passes
waits_pass (Closed function argument) phase' waits passes = passes
waits_pass (Ready function argument) phase' waits passes = subst NotBegun (sym passes) tt
waits_pass (Going rest doing) phase' waits passes = absurd waits
waits_pass (Stopped stop) phase' waits passes = absurd waits

pub waiting_on : (program : Program) (t : ℕ) (phase phase' : Phase) → IsWaiting program t phase → MayPass phase phase'
    → IsWaiting program t phase'
waiting_on program t phase phase' waiting passes = record {
  waits = waits_pass phase phase' waiting.waits passes;
  main = λ is. subst (λ ph. MayPass ph phase') (waiting.main is) passes;
}

first_waits : (b : Bool) (main : ℕ) → NotBegun (if b then Ready main 0 else NotGiven)
first_waits true main = tt
first_waits false main = tt

pub waiting_first : (program : Program) (t : ℕ) → IsWaiting program t (first_phase program t)
waiting_first program t = record {
  waits = first_waits (t == 0) program.main;
  main = λ is. ap (λ b. if b then Ready program.main 0 else NotGiven) (eq-eqb t 0 is);
}

pub stopped_on : (stop : Stop) (phase phase' : Phase) → phase ≡ Stopped stop → MayPass phase phase'
    → phase' ≡ Stopped stop
stopped_on stop phase phase' is passes = subst (λ ph. MayPass ph phase') is passes

-- THREADS THAT RUN

-- it runs
pub record Goes (phase : Phase) : Type 0 where
  pub rest : Behaviour
  pub doing : Doing
  pub going : phase ≡ Going rest doing

abbrev pub goes_run : (rest : Behaviour) (phase : Phase) → Runs rest phase → Goes phase
goes_run rest phase runs = record { rest = rest; doing = runs.doing; going = runs.going }

pub goes_on : (phase phase' : Phase) → Goes phase → MayPass phase phase' → Goes phase'
goes_on phase phase' goes passes =
    let p : MayPass (Going goes.rest goes.doing) phase' = subst (λ ph. MayPass ph phase') goes.going passes in
    record { rest = goes.rest; doing = p.0; going = p.1 }

-- its request is new: nothing was done for it, but that time may have passed
pub record Fresh (lim : Bounds) (blocks : ℕ → Block) (rest : Behaviour) (phase : Phase) : Type 0 where
  pub runs : Runs rest phase
  pub left : runs.doing.left ≡ first_left lim (rest [])
  pub older : (place : ℕ) → runs.doing.lives place ≤ (blocks place).life

pub fresh_come : (lim : Bounds) (s : State) (rest : Behaviour) (phase : Phase) → phase ≡ come_to lim s rest
    → Fresh lim s.blocks rest phase
fresh_come lim s rest phase come = record {
  runs = record { doing = untouched lim s (rest []); going = come; not_spawned = refl; not_ended = refl };
  left = refl;
  older = λ place. omega arith;
}

abbrev pub fresh_on : (lim : Bounds) (blocks blocks' : ℕ → Block) (rest : Behaviour) (phase phase' : Phase)
    → ((place : ℕ) → (blocks place).life ≤ (blocks' place).life) → Fresh lim blocks rest phase → MayPass phase phase'
    → Fresh lim blocks' rest phase'
fresh_on lim blocks blocks' rest phase phase' lives fresh passes =
    let same = runs_same rest phase phase' fresh.runs passes in
    record {
      runs = runs_on rest phase phase' fresh.runs passes;
      left = same.left ∙ fresh.left;
      older = λ place. omega (arith, ap (λ (f : ℕ → ℕ). f place) same.lives, fresh.older place, lives place);
    }

-- it has drawn a number for the thread that it starts
pub record Draws (rest : Behaviour) (phase : Phase) (n loc function arg : ℕ) : Type 0 where
  pub doing : Doing
  pub going : phase ≡ Going rest doing
  pub drawn : doing.spawned ≡ Some n
  pub not_ended : doing.ended ≡ None
  pub begun : ℕ
  pub place : Place
  pub asks : rest [] ≡ Asks begun place (requests.Spawn loc function arg)

pub draws_on : (rest : Behaviour) (phase phase' : Phase) (n loc function arg : ℕ) → Draws rest phase n loc function arg
    → MayPass phase phase' → Draws rest phase' n loc function arg
draws_on rest phase phase' n loc function arg draws passes =
    let p : MayPass (Going rest draws.doing) phase' = subst (λ ph. MayPass ph phase') draws.going passes in
    record {
      doing = p.0;
      going = p.1;
      drawn = p.2.spawned ∙ draws.drawn;
      not_ended = p.2.ended ∙ draws.not_ended;
      begun = draws.begun;
      place = draws.place;
      asks = draws.asks;
    }
