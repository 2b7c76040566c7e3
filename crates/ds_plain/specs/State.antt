-- The state of the plain machine: what threads, memory and blocks are, with no shared table and no log.
use Rattle.std.specs.Prelude.{ℕ, ◌+◌, ◌-◌, ◌*◌, Bool, ◌==◌, if◌then◌else◌, List, [], ◌++◌, length, replicate}
use Rattle.std.specs.Prelude.{Option, Some, None}
use Rattle.ds_map.specs.Bounds.{Bounds}
use Rattle.ds_map.specs.Blocks.{Pages, class_of, places_of_class}
use Rattle.ds_map.specs.Regions.{program_words}
use Rattle.ds_plain.specs.declared.Stop.{Stop}
use Rattle.ds_plain.specs.declared.Stop.TheVariants.{Idle, Running}
use Rattle.ds_plain.specs.declared.Request.TheVariants as requests
use Rattle.ds_plain.specs.Behaviour.{Asked, Asks, Silent, Behaviour, Program}

-- BLOCKS

-- what is made of a block
pub data Use : Type 0 where
  Free : Use
  Live : Use
  -- the thread of this number frees it
  Freeing : (thread : ℕ) → Use

pub record Block : Type 0 where
  -- how often it was given out
  pub life : ℕ
  pub state : Use

abbrev pub block_in : (life : ℕ) → Use → Block
block_in life state = record { life = life; state = state }

abbrev pub use_word : Use → ℕ
use_word Free = 0
use_word Live = 1
use_word (Freeing thread) = 2

-- the word of a block: its life in all bits but the last two, which say what is made of it
abbrev pub block_word : Block → ℕ
block_word block = block.life * 4 + use_word block.state

-- a note: the thread stored a pointer at the location that was then found to point into this life of the block here
pub record Note : Type 0 where
  pub place : ℕ
  pub life : ℕ
  pub loc : ℕ
  pub thread : ℕ

-- THREADS

-- what the request at hand of a thread has come to
pub record Doing : Type 0 where
  -- of a malloc: the places that were not seen unavailable yet
  pub left : List ℕ
  -- of a free: the life of each block when the request came
  pub lives : ℕ → ℕ
  -- of a note: the place and the life of the block that was found
  pub found : Option (ℕ × ℕ)
  -- of a free that has begun: the noted locations that were not marked, written or seen pointing elsewhere since
  pub due : List ℕ
  -- of a spawn: the number that was drawn for the thread, and is to be stored
  pub spawned : Option ℕ
  -- the stop that a trap or a full table made
  pub ended : Option Stop

-- how far a thread has come
pub data Phase : Type 0 where
  -- its number was not given out
  NotGiven : Phase
  -- its number was given out, and its function and argument are told, but it may not begin yet
  Closed : (function argument : ℕ) → Phase
  -- it may begin
  Ready : (function argument : ℕ) → Phase
  -- it runs: how it behaves from its present request on, and what that request has come to
  Going : Behaviour → Doing → Phase
  Stopped : Stop → Phase

-- how a thread stands: one that has not ended is idle until it begins, and running from then on
abbrev pub stop_of_phase : Phase → Stop
stop_of_phase NotGiven = Idle
stop_of_phase (Closed function argument) = Idle
stop_of_phase (Ready function argument) = Idle
stop_of_phase (Going rest doing) = Running
stop_of_phase (Stopped stop) = stop

-- THE STATE

pub record State : Type 0 where
  -- what the words of program memory hold, by location
  pub words : List ℕ
  -- the size class of each page, where it has one
  pub pages : Pages
  -- the block of each place
  pub blocks : ℕ → Block
  -- what was noted, the latest first
  pub noted : List Note
  -- what was printed, the oldest first
  pub out : List ℕ
  -- the thread number that is given out next
  pub given : ℕ
  pub threads : ℕ → Phase

-- what stays the same in a run
pub record Setting : Type 0 where
  pub program : Program
  pub lim : Bounds
  -- which threads end for want of fuel
  pub out_of_fuel : ℕ → Bool
  -- whether frees are taken at their word: they may mark what was not noted, and end before all that was noted is dealt
  -- with
  pub weak : Bool

-- thread 0 may begin with main, and no other thread was given out
abbrev pub first_phase : Program → ℕ → Phase
first_phase program t = if t == 0 then Ready program.main 0 else NotGiven

-- at the start the globals hold their image, and every other word 0; no page has a class, and no block was given out
abbrev pub first_state : Program → Bounds → State
first_state program lim =
    record {
      words = program.image ++ replicate (program_words lim - length program.image) 0;
      pages = λ page. None;
      blocks = λ place. block_in 0 Free;
      noted = [];
      out = [];
      given = 1;
      threads = first_phase program;
    }

-- REQUESTS

-- the places at which a malloc of the class looks: all that there were if each page had it
abbrev pub places_wanted : Bounds → Option ℕ → List ℕ
places_wanted lim None = []
places_wanted lim (Some class) = places_of_class lim class

-- the places that are left as a request comes
abbrev pub first_left : Bounds → Asked → List ℕ
first_left lim (Asks begun place (requests.Load access)) = []
first_left lim (Asks begun place (requests.Store access value)) = []
first_left lim (Asks begun place (requests.Rmw access op value)) = []
first_left lim (Asks begun place (requests.Cas access expected new)) = []
first_left lim (Asks begun place (requests.Malloc bytes)) = places_wanted lim (class_of bytes)
first_left lim (Asks begun place (requests.Free address)) = []
first_left lim (Asks begun place (requests.Note loc value)) = []
first_left lim (Asks begun place (requests.Print value)) = []
first_left lim (Asks begun place (requests.Spawn loc function arg)) = []
first_left lim (Asks begun place (requests.Join number)) = []
first_left lim (Asks begun place (requests.Stop stop)) = []
first_left lim Silent = []

-- nothing was done yet for what is asked
abbrev pub untouched : Bounds → State → Asked → Doing
untouched lim s asked =
    record {
      left = first_left lim asked;
      lives = λ place. (s.blocks place).life;
      found = None;
      due = [];
      spawned = None;
      ended = None;
    }

-- a thread comes to its next request, in this state
abbrev pub come_to : Bounds → State → Behaviour → Phase
come_to lim s rest = Going rest (untouched lim s (rest []))

-- f with the value x at t
abbrev pub replaced : {A : Type 0} → (ℕ → A) → ℕ → A → ℕ → A
replaced f t x u = if t == u then x else f u
