-- The plain machine: which event a thread may make in a state, and what the state is afterwards. A run of it is a list
-- of events, each with the thread that makes it.
use Rattle.std.specs.Prelude.{◌≡◌, ℕ, suc, ◌<◌, ◌≤◌, ◌⊎◌, Bool, true, false, not, ◌&&◌, ◌==◌, if◌then◌else◌}
use Rattle.std.specs.Prelude.{List, [], ◌∷◌, ◌++◌, length, map, Contains, slice_index, slice_set, Option, Some, None}
use Rattle.std.specs.Prelude.{option_map}
use Rattle.std.specs.List.{filter}
use Rattle.std.specs.Option.{unwrap_or}
use Rattle.ds_ast.specs.declared.words.RmwOp.{RmwOp}
use Rattle.ds_map.specs.Bounds.{Bounds}
use Rattle.ds_map.specs.Blocks.{class_of, class_words, class_blocks, page_of, index_of, block_start}
use Rattle.ds_map.specs.Blocks.{place_holding, place_starting, points_into, mark}
use Rattle.ds_step.specs.declared.Event.{Event}
use Rattle.ds_step.specs.declared.Event.TheVariants.{Begin, Spawn, SpawnRefused, Join, End, Print, Load, Store}
use Rattle.ds_step.specs.declared.Event.TheVariants.{Exchange, Assign, Taken, TakenPage, Found, Skip, Noted}
use Rattle.ds_step.specs.declared.Event.TheVariants.{BeginFree, Mark, Seen, EndFree, Trap, Full, Log}
use Rattle.ds_step.specs.declared.Event.TheVariants as events
use Rattle.ds_plain.specs.declared.Access.{Access}
use Rattle.ds_plain.specs.declared.Place.{Place}
use Rattle.ds_plain.specs.declared.Stop.{Stop}
use Rattle.ds_plain.specs.declared.Stop.TheVariants as stops
use Rattle.ds_plain.specs.declared.TrapKind.{TrapKind}
use Rattle.ds_plain.specs.declared.TrapKind.TheVariants.{BadJoin, BadFree, DoubleFree}
use Rattle.ds_plain.specs.declared.Request.{Request}
use Rattle.ds_plain.specs.declared.Request.TheVariants as requests
use Rattle.ds_plain.specs.Behaviour.{Asked, Asks, Silent, place_in_text, told}
use Rattle.ds_plain.specs.Parts.{is_whole, part, with_part, combined}
use Rattle.ds_plain.specs.State.{Use, Free, Live, Freeing, block_in, block_word, Note, Doing, Phase, NotGiven, Closed}
use Rattle.ds_plain.specs.State.{Ready, Going, Stopped, State, Setting, come_to, untouched, replaced}

-- WHAT A THREAD ASKS

abbrev pub request_in : Asked → Option Request
request_in (Asks begun place request) = Some request
request_in Silent = None

-- the request at hand of a thread that runs
abbrev pub request_of : Phase → Option Request
request_of NotGiven = None
request_of (Closed function argument) = None
request_of (Ready function argument) = None
request_of (Going rest doing) = request_in (rest [])
request_of (Stopped stop) = None

-- what it has come to; nothing, where no thread runs
abbrev pub doing_of : Bounds → State → Phase → Doing
doing_of lim s NotGiven = untouched lim s Silent
doing_of lim s (Closed function argument) = untouched lim s Silent
doing_of lim s (Ready function argument) = untouched lim s Silent
doing_of lim s (Going rest doing) = doing
doing_of lim s (Stopped stop) = untouched lim s Silent

abbrev pub IsReady : Phase → Type 0
IsReady NotGiven = ⊥
IsReady (Closed function argument) = ⊥
IsReady (Ready function argument) = Unit {0}
IsReady (Going rest doing) = ⊥
IsReady (Stopped stop) = ⊥

abbrev pub IsStopped : Phase → Type 0
IsStopped NotGiven = ⊥
IsStopped (Closed function argument) = ⊥
IsStopped (Ready function argument) = ⊥
IsStopped (Going rest doing) = ⊥
IsStopped (Stopped stop) = Unit {0}

-- the block is live
abbrev pub IsLive : Use → Type 0
IsLive Free = ⊥
IsLive Live = Unit {0}
IsLive (Freeing thread) = ⊥

-- some block in one of these places is live
abbrev pub IsLiveAt : State → Option ℕ → Type 0
IsLiveAt s None = ⊥
IsLiveAt s (Some place) = IsLive (s.blocks place).state

-- thread t, which has not begun to free the block, cannot: it is not live, or this is not its life
abbrev pub IsNotFreeable : (t life : ℕ) → (present : ℕ) → Use → Type 0
IsNotFreeable t life present Free = Unit {0}
IsNotFreeable t life present Live = ¬ (present ≡ life)
IsNotFreeable t life present (Freeing thread) = ¬ (thread ≡ t)

module _ (setting : Setting) (s : State) (t : ℕ) where
  -- what the request of thread t has come to
  abbrev pub so_far : Doing
  so_far = doing_of setting.lim s (s.threads t)

  -- Thread t asks for this and may go on with it: behind a spawn nothing comes before the store of the number, and
  -- behind a trap or a full table nothing but the end.
  pub record AsksFor (request : Request) : Type 0 where
    pub at_hand : request_of (s.threads t) ≡ Some request
    pub not_spawned : so_far.spawned ≡ None
    pub not_ended : so_far.ended ≡ None

  -- what the word of a location holds
  abbrev pub word : ℕ → ℕ
  word loc = slice_index s.words loc

  -- PROGRAM MEMORY

  -- it reads the word: by a load, or by a compare-and-swap that finds another value
  abbrev pub Reads : ℕ → Type 0
  Reads loc =
      ((access : Access) × AsksFor (requests.Load access) × (access.loc ≡ loc))
      ⊎ ((access : Access) × (expected : ℕ) × (new : ℕ) × AsksFor (requests.Cas access expected new)
      × (access.loc ≡ loc) × ¬ (part access (word loc) ≡ expected))

  -- it writes the whole word, by a store, or by that of a thread's number behind a spawn
  abbrev pub Writes : (loc value : ℕ) → Type 0
  Writes loc value =
      ((access : Access) × AsksFor (requests.Store access value) × (access.loc ≡ loc) × (is_whole access ≡ true))
      ⊎ ((function : ℕ) × (arg : ℕ) × (request_of (s.threads t) ≡ Some (requests.Spawn loc function arg))
      × (so_far.spawned ≡ Some value) × (so_far.ended ≡ None))

  -- it changes the word in one step to this value: by a narrow store, an operation, or a compare-and-swap that finds
  -- what it expects
  abbrev pub Exchanges : (loc value : ℕ) → Type 0
  Exchanges loc value =
      ((access : Access) × (new : ℕ) × AsksFor (requests.Store access new) × (access.loc ≡ loc)
      × (is_whole access ≡ false) × (value ≡ with_part access new (word loc)))
      ⊎ ((access : Access) × (op : RmwOp) × (operand : ℕ) × AsksFor (requests.Rmw access op operand) × (access.loc ≡ loc)
      × (value ≡ with_part access (combined op access.bits (part access (word loc)) operand) (word loc)))
      ⊎ ((access : Access) × (expected : ℕ) × (new : ℕ) × AsksFor (requests.Cas access expected new)
      × (access.loc ≡ loc) × (part access (word loc) ≡ expected) × (value ≡ with_part access new (word loc)))

  -- THREADS

  -- no such thread can be joined: it is the thread itself, or a number that was not given out
  abbrev pub IsBadJoin : ℕ → Type 0
  IsBadJoin number = (number ≡ t) ⊎ (16 ≤ number) ⊎ (s.given ≤ number)

  -- it joins what cannot be joined, or frees what cannot be freed: no block starts at the address, or one that it
  -- cannot free
  abbrev pub Traps : Type 0
  Traps =
      ((number : ℕ) × AsksFor (requests.Join number) × IsBadJoin number)
      ⊎ ((address : ℕ) × AsksFor (requests.Free address) × (place_starting setting.lim s.pages address ≡ None))
      ⊎ ((address : ℕ) × (place : ℕ) × AsksFor (requests.Free address)
      × (place_starting setting.lim s.pages address ≡ Some place)
      × IsNotFreeable t (so_far.lives place) (s.blocks place).life (s.blocks place).state)

  -- it ends by itself: it asks for a stop, or a trap or a full table has stopped it
  abbrev pub HasEnd : Type 0
  HasEnd = ((stop : Stop) × AsksFor (requests.Stop stop)) ⊎ ((stop : Stop) × (so_far.ended ≡ Some stop))

  -- BLOCKS

  -- the place is that of a block, in a page of this class
  pub record IsBlock (place class : ℕ) : Type 0 where
    pub page : page_of place < setting.lim.pages
    pub class_is : s.pages (page_of place) ≡ Some class
    pub index : index_of place < class_blocks class

  -- it asks for a block of this class
  abbrev pub WantsBlock : ℕ → Type 0
  WantsBlock class = (bytes : ℕ) × AsksFor (requests.Malloc bytes) × (class_of bytes ≡ Some class)

  -- it asks to note a value that points into the block at this place, which starts at this address
  abbrev pub NotesBlock : (place start : ℕ) → Type 0
  NotesBlock place start =
      (loc : ℕ) × (value : ℕ) × (class : ℕ) × AsksFor (requests.Note loc value)
      × (place_holding setting.lim s.pages value ≡ Some place) × (s.pages (page_of place) ≡ Some class)
      × (start ≡ block_start place class)

  -- it asks to free the block at this place
  abbrev pub Frees : ℕ → Type 0
  Frees place = (address : ℕ) × AsksFor (requests.Free address) × (place_starting setting.lim s.pages address ≡ Some place)

  -- it has begun to
  abbrev pub IsFreeing : ℕ → Type 0
  IsFreeing place = Frees place × ((s.blocks place).state ≡ Freeing t)

  -- whether the word of a location points into the block at a place
  abbrev pub points_to : (loc place : ℕ) → Option ℕ → Bool
  points_to loc place None = false
  points_to loc place (Some class) = points_into (block_start place class) (class_words class) (word loc)

  -- some thread noted the location for the present life of the block
  abbrev pub IsNotedFor : (place loc : ℕ) → Type 0
  IsNotedFor place loc =
      (thread : ℕ) × Contains s.noted
      (record { place = place; life = (s.blocks place).life; loc = loc; thread = thread })

  -- the free of this block visits the location, which was noted, and finds that it points into the block, or not
  abbrev pub Visits : (place loc : ℕ) → Bool → Type 0
  Visits place loc points =
      IsFreeing place × (points_to loc place (s.pages (page_of place)) ≡ points)
      × (IsNotedFor place loc ⊎ (setting.weak ≡ true))

  -- EVENTS

  -- whether thread t may make this event now
  abbrev pub Allowed : Event → Type 0
  Allowed Begin = IsReady (s.threads t)
  Allowed (Load loc value) = Reads loc × (value ≡ word loc)
  Allowed (Store loc value) = Writes loc value
  Allowed (Exchange loc value) = Exchanges loc value
  Allowed (Print number value) = AsksFor (requests.Print value) × (number ≡ length s.out)
  Allowed (Spawn n function arg) =
      ((loc : ℕ) × AsksFor (requests.Spawn loc function arg)) × (n ≡ s.given) × (n < 16)
  Allowed SpawnRefused =
      ((loc : ℕ) × (function : ℕ) × (arg : ℕ) × AsksFor (requests.Spawn loc function arg)) × (16 ≤ s.given)
  Allowed (Join n) = AsksFor (requests.Join n) × (n < 16) × (n < s.given) × IsStopped (s.threads n)
  Allowed End = (¬ IsStopped (s.threads t)) × (HasEnd ⊎ (setting.out_of_fuel t ≡ true))
  Allowed (Assign page class) = WantsBlock class × (page < setting.lim.pages) × (s.pages page ≡ None)
  Allowed (TakenPage page) =
      (wanted : ℕ) × (class : ℕ) × WantsBlock wanted × (page < setting.lim.pages) × (s.pages page ≡ Some class)
      × ¬ (class ≡ wanted)
  Allowed (Taken place) =
      (class : ℕ) × WantsBlock class × IsBlock place class × ¬ ((s.blocks place).state ≡ Free)
  Allowed (events.Block place start life) =
      (class : ℕ) × WantsBlock class × IsBlock place class × ((s.blocks place).state ≡ Free)
      × (start ≡ block_start place class) × (life ≡ suc (s.blocks place).life)
  Allowed Skip =
      (loc : ℕ) × (value : ℕ) × AsksFor (requests.Note loc value)
      × ¬ IsLiveAt s (place_holding setting.lim s.pages value)
  Allowed (Found place start life) =
      NotesBlock place start × IsLive (s.blocks place).state × (life ≡ (s.blocks place).life)
  Allowed (Noted place life loc) =
      ((value : ℕ) × AsksFor (requests.Note loc value)) × (so_far.found ≡ Some (place, life))
  Allowed (Full what) =
      ((loc : ℕ) × (value : ℕ) × AsksFor (requests.Note loc value))
      × ((block : ℕ × ℕ) × (so_far.found ≡ Some block))
  Allowed (BeginFree place life) = Frees place × IsLive (s.blocks place).state × (life ≡ (s.blocks place).life)
  Allowed (Mark loc) = (place : ℕ) × Visits place loc true
  Allowed (Seen loc) = (place : ℕ) × Visits place loc false
  Allowed (EndFree place) = IsFreeing place × ((so_far.due ≡ []) ⊎ (setting.weak ≡ true))
  Allowed Trap = Traps
  -- what belongs to the machine's own records is no event of a program
  Allowed Log = ⊥

-- WHAT AN EVENT CHANGES

-- a thread that may begin begins, and no other
abbrev pub phase_begun : Setting → State → ℕ → Phase → Phase
phase_begun setting s t NotGiven = NotGiven
phase_begun setting s t (Closed function argument) = Closed function argument
phase_begun setting s t (Ready function argument) =
    come_to setting.lim s (setting.program.behaves t function argument)
phase_begun setting s t (Going rest doing) = Going rest doing
phase_begun setting s t (Stopped stop) = Stopped stop

-- a thread that runs is given the answer to its request, and comes to the next one
abbrev pub phase_answered : Bounds → State → ℕ → Phase → Phase
phase_answered lim s answer NotGiven = NotGiven
phase_answered lim s answer (Closed function argument) = Closed function argument
phase_answered lim s answer (Ready function argument) = Ready function argument
phase_answered lim s answer (Going rest doing) = come_to lim s (told rest answer)
phase_answered lim s answer (Stopped stop) = Stopped stop

-- what the request at hand has come to is changed
abbrev pub phase_with : (Doing → Doing) → Phase → Phase
phase_with f NotGiven = NotGiven
phase_with f (Closed function argument) = Closed function argument
phase_with f (Ready function argument) = Ready function argument
phase_with f (Going rest doing) = Going rest (f doing)
phase_with f (Stopped stop) = Stopped stop

-- a number is given out for a thread that is to run this function; where its fuel has ended it, it stays so
abbrev pub phase_given : (function argument : ℕ) → Phase → Phase
phase_given function argument NotGiven = Closed function argument
phase_given function argument (Closed f a) = Closed function argument
phase_given function argument (Ready f a) = Closed function argument
phase_given function argument (Going rest doing) = Closed function argument
phase_given function argument (Stopped stop) = Stopped stop

-- a thread whose number was given out may begin
abbrev pub phase_opened : Phase → Phase
phase_opened NotGiven = NotGiven
phase_opened (Closed function argument) = Ready function argument
phase_opened (Ready function argument) = Ready function argument
phase_opened (Going rest doing) = Going rest doing
phase_opened (Stopped stop) = Stopped stop

-- the state with another phase of thread t
abbrev pub with_phase : (t : ℕ) → Phase → State → State
with_phase t phase s = record s { threads = replaced s.threads t phase }

-- the state once the request of thread t was answered
abbrev pub answered : Bounds → (t answer : ℕ) → State → State
answered lim t answer s = with_phase t (phase_answered lim s answer (s.threads t)) s

-- the state with what the request of thread t has come to changed
abbrev pub with_doing : (t : ℕ) → (Doing → Doing) → State → State
with_doing t f s = with_phase t (phase_with f (s.threads t)) s

-- numbers without this one
abbrev pub without : ℕ → List ℕ → List ℕ
without n ns = filter (λ (m : ℕ). not (m == n)) ns

-- the location is no longer due
abbrev pub not_due : ℕ → Doing → Doing
not_due loc doing = record doing { due = without loc doing.due }

-- the word of a location becomes this value, and no free has to visit it any more
abbrev pub written : (loc value : ℕ) → State → State
written loc value s =
    record s {
      words = slice_set s.words loc value;
      threads = λ u. phase_with (not_due loc) (s.threads u);
    }

-- the thread whose number was stored, if one was, may begin
abbrev pub opened : Option ℕ → State → State
opened None s = s
opened (Some n) s = with_phase n (phase_opened (s.threads n)) s

-- a malloc of thread t has these places left: where none is, it is told null
abbrev pub has_left : Bounds → (t : ℕ) → State → List ℕ → State
has_left lim t s [] = answered lim t 0 s
has_left lim t s (place ∷ left) = with_doing t (λ doing. record doing { left = place ∷ left }) s

-- what a word that was changed in one step is told as: the value before, but nothing to a store
abbrev pub exchange_answer : ℕ → Option Request → ℕ
exchange_answer old None = 0
exchange_answer old (Some (requests.Load access)) = 0
exchange_answer old (Some (requests.Store access value)) = 0
exchange_answer old (Some (requests.Rmw access op value)) = old
exchange_answer old (Some (requests.Cas access expected new)) = old
exchange_answer old (Some (requests.Malloc bytes)) = 0
exchange_answer old (Some (requests.Free address)) = 0
exchange_answer old (Some (requests.Note loc value)) = 0
exchange_answer old (Some (requests.Print value)) = 0
exchange_answer old (Some (requests.Spawn loc function arg)) = 0
exchange_answer old (Some (requests.Join number)) = 0
exchange_answer old (Some (requests.Stop stop)) = 0

-- the note is of this life of the block at this place
abbrev pub is_of : (place life : ℕ) → Note → Bool
is_of place life note = (note.place == place) && (note.life == life)

-- the locations that are noted for this life of the block at this place
abbrev pub noted_for : (place life : ℕ) → List Note → List ℕ
noted_for place life notes = map (λ (note : Note). note.loc) (filter (is_of place life) notes)

-- why the free of an address traps, by the place of the block that starts there
abbrev pub free_trap : State → ℕ → Option ℕ → TrapKind
free_trap s address None = BadFree address
free_trap s address (Some place) = DoubleFree address (block_word (s.blocks place))

-- why the request traps, if one can
abbrev pub trap_of : Bounds → State → Option Request → Option TrapKind
trap_of lim s None = None
trap_of lim s (Some (requests.Load access)) = None
trap_of lim s (Some (requests.Store access value)) = None
trap_of lim s (Some (requests.Rmw access op value)) = None
trap_of lim s (Some (requests.Cas access expected new)) = None
trap_of lim s (Some (requests.Malloc bytes)) = None
trap_of lim s (Some (requests.Free address)) = Some (free_trap s address (place_starting lim s.pages address))
trap_of lim s (Some (requests.Note loc value)) = None
trap_of lim s (Some (requests.Print value)) = None
trap_of lim s (Some (requests.Spawn loc function arg)) = None
trap_of lim s (Some (requests.Join number)) = Some (BadJoin number)
trap_of lim s (Some (requests.Stop stop)) = None

-- where the request at hand of a thread that runs stands in the text
abbrev pub place_of_phase : Phase → Place
place_of_phase NotGiven = place_in_text Silent
place_of_phase (Closed function argument) = place_in_text Silent
place_of_phase (Ready function argument) = place_in_text Silent
place_of_phase (Going rest doing) = place_in_text (rest [])
place_of_phase (Stopped stop) = place_in_text Silent

abbrev pub trap_stop : Place → TrapKind → Stop
trap_stop place kind = stops.Trap (record { place = place; kind = kind })

-- the stop that a request names
abbrev pub requested_stop : Option Request → Stop
requested_stop None = stops.Running
requested_stop (Some (requests.Load access)) = stops.Running
requested_stop (Some (requests.Store access value)) = stops.Running
requested_stop (Some (requests.Rmw access op value)) = stops.Running
requested_stop (Some (requests.Cas access expected new)) = stops.Running
requested_stop (Some (requests.Malloc bytes)) = stops.Running
requested_stop (Some (requests.Free address)) = stops.Running
requested_stop (Some (requests.Note loc value)) = stops.Running
requested_stop (Some (requests.Print value)) = stops.Running
requested_stop (Some (requests.Spawn loc function arg)) = stops.Running
requested_stop (Some (requests.Join number)) = stops.Running
requested_stop (Some (requests.Stop stop)) = stop

-- the stop that a thread has come to: that of its trap or full table, or else the one that its request names
abbrev pub named_stop : Phase → Stop
named_stop NotGiven = stops.Idle
named_stop (Closed function argument) = stops.Idle
named_stop (Ready function argument) = stops.Idle
named_stop (Going rest doing) = unwrap_or doing.ended (requested_stop (request_in (rest [])))
named_stop (Stopped stop) = stop

-- the stop of a thread that ends
abbrev pub final_stop : Setting → (t : ℕ) → Phase → Stop
final_stop setting t phase = if setting.out_of_fuel t then stops.Fuel else named_stop phase

-- the block at a place is this one
abbrev pub with_block : (place life : ℕ) → Use → State → State
with_block place life state s = record s { blocks = replaced s.blocks place (block_in life state) }

-- the state after an event of thread t
abbrev pub changed : Setting → State → ℕ → Event → State
changed setting s t Begin = with_phase t (phase_begun setting s t (s.threads t)) s
changed setting s t (Load loc value) = answered setting.lim t value s
changed setting s t (Store loc value) =
    answered setting.lim t 0 (opened (so_far setting s t).spawned (written loc value s))
changed setting s t (Exchange loc value) =
    answered setting.lim t (exchange_answer (slice_index s.words loc) (request_of (s.threads t))) (written loc value s)
changed setting s t (Print number value) = answered setting.lim t 0 (record s { out = s.out ++ value ∷ [] })
changed setting s t (Spawn n function arg) =
    with_doing t (λ doing. record doing { spawned = Some n })
    (with_phase n (phase_given function arg (s.threads n)) (record s { given = suc s.given }))
changed setting s t SpawnRefused = answered setting.lim t 11 (record s { given = suc s.given })
changed setting s t (Join n) = answered setting.lim t 0 s
changed setting s t End = with_phase t (Stopped (final_stop setting t (s.threads t))) s
changed setting s t (Assign page class) = record s { pages = replaced s.pages page (Some class) }
changed setting s t (TakenPage page) =
    has_left setting.lim t s (filter (λ (place : ℕ). not (page_of place == page)) (so_far setting s t).left)
changed setting s t (Taken place) = has_left setting.lim t s (without place (so_far setting s t).left)
changed setting s t (events.Block place start life) = answered setting.lim t start (with_block place life Live s)
changed setting s t Skip = answered setting.lim t 0 s
changed setting s t (Found place start life) =
    with_doing t (λ doing. record doing { found = Some (place, life) }) s
changed setting s t (Noted place life loc) =
    answered setting.lim t 0
    (record s { noted = (record { place = place; life = life; loc = loc; thread = t }) ∷ s.noted })
changed setting s t (Full what) =
    with_doing t (λ doing. record doing { ended = Some (stops.Full (place_of_phase (s.threads t)) what) }) s
changed setting s t (BeginFree place life) =
    with_doing t (λ doing. record doing { due = noted_for place life s.noted }) (with_block place life (Freeing t) s)
changed setting s t (Mark loc) = written loc (mark (slice_index s.words loc)) s
changed setting s t (Seen loc) = with_doing t (not_due loc) s
changed setting s t (EndFree place) = answered setting.lim t 0 (with_block place (s.blocks place).life Free s)
changed setting s t Trap =
    with_doing t (λ doing. record doing {
      ended = option_map (trap_stop (place_of_phase (s.threads t)))
          (trap_of setting.lim s (request_of (s.threads t)));
    }) s
changed setting s t Log = s

-- RUNS

-- each event is allowed in the state that the events before it leave
abbrev pub IsPlainRun : Setting → State → List (ℕ × Event) → Type 0
IsPlainRun setting s [] = Unit {0}
IsPlainRun setting s (e ∷ es) = Allowed setting s e.0 e.1 × IsPlainRun setting (changed setting s e.0 e.1) es

-- the state after these events
abbrev pub state_after : Setting → State → List (ℕ × Event) → State
state_after setting s [] = s
state_after setting s (e ∷ es) = state_after setting (changed setting s e.0 e.1) es
