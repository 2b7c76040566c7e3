-- How a recorded thread and its phase in the plain machine go together, and that steps of other threads keep it so.
use Rattle.std.proofs.Common.{◌≡◌, ℕ, ◌+◌, ◌≤◌, Bool, true, false, if◌then◌else◌, nat_lt, nat_le}
use Rattle.std.proofs.Common.{List, [], Option, Some, None, refl, sym, ap, ◌∙◌, arith, slice_index}
use Rattle.ds_map.specs.Bounds.{Bounds, IsInRange}
use Rattle.ds_map.specs.Blocks.{Pages, class_of, page_of, block_start, place_holding, place_starting}
use Rattle.ds_plain.specs.declared.Access.{Access}
use Rattle.ds_plain.specs.declared.Place.{Place}
use Rattle.ds_plain.specs.declared.Stop.{Stop}
use Rattle.ds_plain.specs.declared.Stop.TheVariants.{Idle, Running, Returned, Trap, Full, Fuel}
use Rattle.ds_plain.specs.declared.Request.{Request}
use Rattle.ds_plain.specs.declared.Request.TheVariants as requests
use Rattle.ds_plain.specs.declared.StartAt.{StartAt}
use Rattle.ds_plain.specs.declared.SpawnAt.{SpawnAt}
use Rattle.ds_plain.specs.declared.SpawnAt.TheVariants.{DrawThread, StoreNumber, StoreFunction, StoreArgument}
use Rattle.ds_plain.specs.declared.SpawnAt.TheVariants.{OpenThread}
use Rattle.ds_plain.specs.declared.JoinAt.{JoinAt}
use Rattle.ds_plain.specs.declared.JoinAt.TheVariants.{LoadGiven, LoadEnded}
use Rattle.ds_plain.specs.declared.Change.{Change}
use Rattle.ds_plain.specs.declared.Change.TheVariants.{Put, Combine, Replace}
use Rattle.ds_plain.specs.declared.AccessAt.{AccessAt}
use Rattle.ds_plain.specs.declared.AccessAt.TheVariants.{LoadWord, StoreWord, CombineWord, ReplaceWord, LoadPart}
use Rattle.ds_plain.specs.declared.AccessAt.TheVariants.{SwapPart}
use Rattle.ds_plain.specs.declared.AllocAt.{AllocAt}
use Rattle.ds_plain.specs.declared.AllocAt.TheVariants as allocs
use Rattle.ds_plain.specs.declared.NoteAt.{NoteAt}
use Rattle.ds_plain.specs.declared.NoteAt.TheVariants as notes
use Rattle.ds_plain.specs.declared.FreeAt.{FreeAt}
use Rattle.ds_plain.specs.declared.FreeAt.TheVariants as frees
use Rattle.ds_plain.specs.declared.Position.{Position}
use Rattle.ds_plain.specs.declared.Position.TheVariants.{Start, Malloc, Note, Free, Spawn, Join}
use Rattle.ds_plain.specs.declared.Position.TheVariants.{DrawPrint, StoreEnded, Over, NoRow}
use Rattle.ds_plain.specs.declared.Position.TheVariants as positions
use Rattle.ds_plain.specs.Behaviour.{Asked, Asks, Silent, Behaviour, told, Program}
use Rattle.ds_plain.specs.Parts.{is_whole}
use Rattle.ds_plain.specs.State.{Freeing, Block, block_in, Phase, Stopped, State, stop_of_phase, first_left}
use Rattle.ds_plain.specs.State.{places_wanted}
use Rattle.ds_plain.specs.Accessing.{is_refused}
use Rattle.ds_plain.specs.Searching.{search_from, page_in}
use Rattle.ds_plain.specs.Listing.{list_place, list_life}
use Rattle.ds_plain.specs.Noting.{is_notable, IsNoteAt}
use Rattle.ds_plain.specs.Freeing.{is_freeable}
use Rattle.ds_plain.specs.Reached.{IsAllocAt, AreCursors, ahead_of, IsFreeAt}
use Rattle.ds_plain.specs.Table.{looking_for, position_of, end_by}
use Rattle.ds_plain.specs.Thread.{Thread, paying, standing, arriving, going_on, stop_at}
use Rattle.ds_alloc_laws.specs.Laws.{MallocsBegin, MallocsLookOn, MallocsHaveLeft, CursorsBegin, CursorsMove}
use Rattle.ds_alloc_laws.specs.Laws.{ClassesAreFew, class_at}
use Rattle.ds_plain_laws.proofs.Choices.{of_if}
use Rattle.ds_plain_laws.proofs.Heap.{holding_on, starts_on}
use Rattle.ds_plain_laws.proofs.Leaving.{Leaves, FreesNone, FreesAt, frees_anywhere, frees_on}
use Rattle.ds_plain_laws.proofs.Phases.{Runs, Asking, Halts, Goes, goes_run, Draws, Fresh, IsWaiting, MayPass}
use Rattle.ds_plain_laws.proofs.Phases.{runs_same}
use Rattle.ds_plain_laws.proofs.Phases.{asking_on, halts_on, goes_on, draws_on, fresh_on, waits_idle, waiting_on}
use Rattle.ds_plain_laws.proofs.Phases.{stopped_on}

-- what is known of a malloc's rows
pub record Walks : Type 0 where
  pub few : ClassesAreFew
  pub begin : MallocsBegin
  pub look_on : MallocsLookOn
  pub have_left : MallocsHaveLeft
  pub start : CursorsBegin
  pub move : CursorsMove

-- why a thread stands at its last step: it asked for that stop, or came to it, or its fuel ran out, while it ran or
-- before it began
pub data Ending (program : Program) (t : ℕ) (rest : Behaviour) (began : Bool) (phase : Phase) (stop : Stop)
    : Type 0 where
  Finishes : began ≡ true → Asking rest phase (requests.Stop stop) → Ending program t rest began phase stop
  Trapped : began ≡ true → Halts rest phase stop → Ending program t rest began phase stop
  Spent : began ≡ true → Goes phase → stop ≡ Fuel → Ending program t rest began phase stop
  Never : began ≡ false → IsWaiting program t phase → stop ≡ Fuel → Ending program t rest began phase stop

-- the phase of a thread that has not begun
abbrev pub StartLinked : Program → ℕ → Bool → Phase → Type 0
StartLinked program t began phase = (began ≡ false) × IsWaiting program t phase

-- the request of a thread that changes a part of a word so
abbrev pub change_request : Access → Change → Request
change_request access (Put value) = requests.Store access value
change_request access (Combine op value) = requests.Rmw access op value
change_request access (Replace expected new) = requests.Cas access expected new

-- the phase of a thread that changes a part of a word
pub record PartLinked (rest : Behaviour) (began : Bool) (phase : Phase) (access : Access) (change : Change)
    : Type 0 where
  pub has_begun : began ≡ true
  pub narrow : is_whole access ≡ false
  pub asking : Asking rest phase (change_request access change)

-- the phase of a thread that accesses program memory; the word that it swaps is one of which it makes its change
abbrev pub AccessLinked : Behaviour → Bool → Phase → AccessAt → Type 0
AccessLinked rest began phase (LoadWord loc) =
    (access : Access) × (access.loc ≡ loc) × Asking rest phase (requests.Load access)
AccessLinked rest began phase (StoreWord loc value) =
    (access : Access) × (access.loc ≡ loc) × (is_whole access ≡ true) × Asking rest phase (requests.Store access value)
AccessLinked rest began phase (CombineWord loc op value) =
    (access : Access) × (access.loc ≡ loc) × (is_whole access ≡ true) × Asking rest phase (requests.Rmw access op value)
AccessLinked rest began phase (ReplaceWord loc expected new) =
    (access : Access) × (access.loc ≡ loc) × (is_whole access ≡ true)
    × Asking rest phase (requests.Cas access expected new)
AccessLinked rest began phase (LoadPart access change) = PartLinked rest began phase access change
AccessLinked rest began phase (SwapPart access change seen) =
    PartLinked rest began phase access change × (is_refused access change seen ≡ false)

-- the page at whose blocks a malloc looks has the class that it wants
abbrev pub IsSized : Bounds → Pages → AllocAt → Type 0
IsSized lim pages (allocs.LoadPage search) = Unit {0}
IsSized lim pages (allocs.SwapPage search) = Unit {0}
IsSized lim pages (allocs.LoadBlock search index) = pages (page_in lim search) ≡ Some search.class
IsSized lim pages (allocs.SwapBlock search index life) = pages (page_in lim search) ≡ Some search.class

-- the phase of a thread that takes a block: what is left of its malloc is what it still comes to
pub record MallocLinked (lim : Bounds) (rest : Behaviour) (began : Bool) (pages : Pages) (phase : Phase) (at : AllocAt)
    : Type 0 where
  pub has_begun : began ≡ true
  pub bytes : ℕ
  pub asking : Asking rest phase (requests.Malloc bytes)
  pub wanted : class_of bytes ≡ Some (class_at at)
  pub reached : IsAllocAt lim at
  pub left : asking.runs.doing.left ≡ ahead_of lim at
  pub sized : IsSized lim pages at

-- the phase of a thread that notes a value: the word of its page has told the block that holds the value
pub record NoteHolds (lim : Bounds) (rest : Behaviour) (began : Bool) (pages : Pages) (phase : Phase)
    (loc place start : ℕ) : Type 0 where
  pub has_begun : began ≡ true
  pub value : ℕ
  pub asking : Asking rest phase (requests.Note loc value)
  pub holds : place_holding lim pages value ≡ Some place
  pub class : ℕ
  pub class_is : pages (page_of place) ≡ Some class
  pub start_is : start ≡ block_start place class

-- it has found that block live, in this life
pub record NoteFound (rest : Behaviour) (began : Bool) (phase : Phase) (loc place life : ℕ) : Type 0 where
  pub has_begun : began ≡ true
  pub value : ℕ
  pub asking : Asking rest phase (requests.Note loc value)
  pub found : asking.runs.doing.found ≡ Some (place, life)

-- no word of a log is named: whatever its own log holds, the thread goes on with the note that it was asked for
abbrev pub NoteLinked : Bounds → Behaviour → Bool → Pages → Phase → NoteAt → Type 0
NoteLinked lim rest began pages phase (notes.LoadPage loc value) =
    (began ≡ true) × Asking rest phase (requests.Note loc value)
NoteLinked lim rest began pages phase (notes.LoadBlock loc place start) =
    NoteHolds lim rest began pages phase loc place start
NoteLinked lim rest began pages phase (notes.Seek loc at) =
    NoteFound rest began phase loc (list_place at) (list_life at)
NoteLinked lim rest began pages phase (notes.StoreLife loc place life log) = NoteFound rest began phase loc place life
NoteLinked lim rest began pages phase (notes.StoreEntry loc place life log used) =
    NoteFound rest began phase loc place life
NoteLinked lim rest began pages phase (notes.CountEntry loc place life log used) =
    NoteFound rest began phase loc place life

-- the phase of a thread that frees the block at an address: no life has fallen since it asked
pub record FreeAsking (rest : Behaviour) (began : Bool) (blocks : ℕ → Block) (phase : Phase) (address : ℕ) : Type 0 where
  pub has_begun : began ≡ true
  pub asking : Asking rest phase (requests.Free address)
  pub older : (place : ℕ) → asking.runs.doing.lives place ≤ (blocks place).life

-- it saw the block live in this life, which was no earlier one when it asked
pub record FreeSaw (rest : Behaviour) (began : Bool) (blocks : ℕ → Block) (phase : Phase) (address place life : ℕ)
    : Type 0 where
  pub asks : FreeAsking rest began blocks phase address
  pub since : asks.asking.runs.doing.lives place ≤ life
  pub before : life ≤ (blocks place).life

abbrev pub FreeLinked : Bounds → ℕ → Behaviour → Bool → Pages → (ℕ → Block) → Phase → FreeAt → Type 0
FreeLinked lim t rest began pages blocks phase (frees.LoadPage address) = FreeAsking rest began blocks phase address
FreeLinked lim t rest began pages blocks phase (frees.LoadBlock address place) =
    FreeAsking rest began blocks phase address × (place_starting lim pages address ≡ Some place)
FreeLinked lim t rest began pages blocks phase (frees.SwapBlock address place life) =
    FreeSaw rest began blocks phase address place life × (place_starting lim pages address ≡ Some place)
FreeLinked lim t rest began pages blocks phase (frees.StoreFree place life) =
    (address : ℕ) × FreeAsking rest began blocks phase address × (place_starting lim pages address ≡ Some place)
    × (blocks place ≡ block_in life (Freeing t))

-- the phase of a thread that starts another one: it is told the answer as it has stored the number, before it lets the
-- other one begin
abbrev pub SpawnLinked : Bounds → Behaviour → Bool → (ℕ → Block) → Phase → SpawnAt → Type 0
SpawnLinked lim rest began blocks phase (DrawThread loc function arg) =
    (began ≡ true) × Asking rest phase (requests.Spawn loc function arg)
SpawnLinked lim rest began blocks phase (StoreNumber n loc function arg) =
    (began ≡ true) × Draws rest phase n loc function arg
SpawnLinked lim rest began blocks phase (StoreFunction n function arg) =
    (began ≡ true) × Fresh lim blocks (told rest 0) phase
SpawnLinked lim rest began blocks phase (StoreArgument n arg) = (began ≡ true) × Fresh lim blocks (told rest 0) phase
SpawnLinked lim rest began blocks phase (OpenThread n) = (began ≡ true) × Fresh lim blocks (told rest 0) phase

-- the phase of a thread that waits for another one
abbrev pub JoinLinked : Behaviour → Bool → Phase → JoinAt → Type 0
JoinLinked rest began phase (LoadGiven number) = (began ≡ true) × Asking rest phase (requests.Join number)
JoinLinked rest began phase (LoadEnded n) = (began ≡ true) × Asking rest phase (requests.Join n)

module _ (program : Program) (lim : Bounds) (t : ℕ) where
  -- the state of a thread that stands at a position
  abbrev pub Linked : Behaviour → Bool → State → Position → Type 0
  Linked rest began s (Start at) = StartLinked program t began (s.threads t)
  Linked rest began s (positions.Access at) = AccessLinked rest began (s.threads t) at
  Linked rest began s (Malloc at) = MallocLinked lim rest began s.pages (s.threads t) at
  Linked rest began s (Note at) = NoteLinked lim rest began s.pages (s.threads t) at × IsNoteAt lim at
  Linked rest began s (Free at) =
      FreeLinked lim t rest began s.pages s.blocks (s.threads t) at × IsFreeAt lim at
  Linked rest began s (Spawn at) = SpawnLinked lim rest began s.blocks (s.threads t) at
  Linked rest began s (Join at) = JoinLinked rest began (s.threads t) at
  Linked rest began s (DrawPrint value) = Asking rest (s.threads t) (requests.Print value)
  Linked rest began s (StoreEnded stop) = Ending program t rest began (s.threads t) stop
  Linked rest began s (Over stop) = s.threads t ≡ Stopped stop
  Linked rest began s NoRow = (request : Request) × Asking rest (s.threads t) request

  -- the state of a thread, what it frees, and where it looks for blocks
  pub record LinkedAt (rest : Behaviour) (began : Bool) (s : State) (cursors : List ℕ) (p : Position) : Type 0 where
    pub stands : Linked rest began s p
    pub frees_so : FreesAt t s.blocks p
    pub looks : AreCursors lim cursors

  abbrev pub IsLinked : State → Thread → Type 0
  IsLinked s a = LinkedAt a.rest a.began s a.cursors a.position

-- A THREAD STANDS AS ITS PHASE DOES

runs_stop : (rest : Behaviour) (phase : Phase) → Runs rest phase → Running ≡ stop_of_phase phase
runs_stop rest phase runs = sym (ap stop_of_phase runs.going)

goes_stop : (phase : Phase) → Goes phase → Running ≡ stop_of_phase phase
goes_stop phase goes = sym (ap stop_of_phase goes.going)

start_stop : (program : Program) (t : ℕ) (phase : Phase) → IsWaiting program t phase → Idle ≡ stop_of_phase phase
start_stop program t phase waiting = sym (waits_idle phase waiting.waits)

spawn_stop : (lim : Bounds) (rest : Behaviour) (began : Bool) (blocks : ℕ → Block) (phase : Phase) (at : SpawnAt)
    → SpawnLinked lim rest began blocks phase at → Running ≡ stop_of_phase phase
spawn_stop lim rest began blocks phase (DrawThread loc function arg) l = runs_stop rest phase l.1.runs
spawn_stop lim rest began blocks phase (StoreNumber n loc function arg) l = sym (ap stop_of_phase l.1.going)
spawn_stop lim rest began blocks phase (StoreFunction n function arg) l = runs_stop (told rest 0) phase l.1.runs
spawn_stop lim rest began blocks phase (StoreArgument n arg) l = runs_stop (told rest 0) phase l.1.runs
spawn_stop lim rest began blocks phase (OpenThread n) l = runs_stop (told rest 0) phase l.1.runs

-- a thread that notes runs
pub note_runs : (lim : Bounds) (rest : Behaviour) (began : Bool) (pages : Pages) (phase : Phase) (at : NoteAt)
    → NoteLinked lim rest began pages phase at → Runs rest phase
note_runs lim rest began pages phase (notes.LoadPage loc value) l = l.1.runs
note_runs lim rest began pages phase (notes.LoadBlock loc place start) l = l.asking.runs
note_runs lim rest began pages phase (notes.Seek loc at) l = l.asking.runs
note_runs lim rest began pages phase (notes.StoreLife loc place life log) l = l.asking.runs
note_runs lim rest began pages phase (notes.StoreEntry loc place life log used) l = l.asking.runs
note_runs lim rest began pages phase (notes.CountEntry loc place life log used) l = l.asking.runs

-- and has begun
pub note_begun : (lim : Bounds) (rest : Behaviour) (began : Bool) (pages : Pages) (phase : Phase) (at : NoteAt)
    → NoteLinked lim rest began pages phase at → began ≡ true
note_begun lim rest began pages phase (notes.LoadPage loc value) l = l.0
note_begun lim rest began pages phase (notes.LoadBlock loc place start) l = l.has_begun
note_begun lim rest began pages phase (notes.Seek loc at) l = l.has_begun
note_begun lim rest began pages phase (notes.StoreLife loc place life log) l = l.has_begun
note_begun lim rest began pages phase (notes.StoreEntry loc place life log used) l = l.has_begun
note_begun lim rest began pages phase (notes.CountEntry loc place life log used) l = l.has_begun

last_stop : (b b' : Bool) → b ≡ b' → (if b then Running else Idle) ≡ (if b' then Running else Idle)
last_stop b b' is = ap (λ b. if b then Running else Idle) is

pub linked_stop : (program : Program) (lim : Bounds) (t : ℕ) (rest : Behaviour) (began : Bool) (s : State) (p : Position)
    → Linked program lim t rest began s p → stop_at began p ≡ stop_of_phase (s.threads t)
linked_stop program lim t rest began s (Start at) l = start_stop program t (s.threads t) l.1
linked_stop program lim t rest began s (positions.Access (LoadWord loc)) l = runs_stop rest (s.threads t) l.2.runs
linked_stop program lim t rest began s (positions.Access (StoreWord loc value)) l =
    runs_stop rest (s.threads t) l.3.runs
linked_stop program lim t rest began s (positions.Access (CombineWord loc op value)) l =
    runs_stop rest (s.threads t) l.3.runs
linked_stop program lim t rest began s (positions.Access (ReplaceWord loc expected new)) l =
    runs_stop rest (s.threads t) l.3.runs
linked_stop program lim t rest began s (positions.Access (LoadPart access change)) l =
    runs_stop rest (s.threads t) l.asking.runs
linked_stop program lim t rest began s (positions.Access (SwapPart access change seen)) l =
    runs_stop rest (s.threads t) l.0.asking.runs
linked_stop program lim t rest began s (Malloc at) l = runs_stop rest (s.threads t) l.asking.runs
linked_stop program lim t rest began s (Note at) l =
    runs_stop rest (s.threads t) (note_runs lim rest began s.pages (s.threads t) at l.0)
linked_stop program lim t rest began s (Free (frees.LoadPage address)) l =
    runs_stop rest (s.threads t) l.0.asking.runs
linked_stop program lim t rest began s (Free (frees.LoadBlock address place)) l =
    runs_stop rest (s.threads t) l.0.0.asking.runs
linked_stop program lim t rest began s (Free (frees.SwapBlock address place life)) l =
    runs_stop rest (s.threads t) l.0.0.asks.asking.runs
linked_stop program lim t rest began s (Free (frees.StoreFree place life)) l =
    runs_stop rest (s.threads t) l.0.1.asking.runs
linked_stop program lim t rest began s (Spawn at) l = spawn_stop lim rest began s.blocks (s.threads t) at l
linked_stop program lim t rest began s (Join (LoadGiven number)) l = runs_stop rest (s.threads t) l.1.runs
linked_stop program lim t rest began s (Join (LoadEnded n)) l = runs_stop rest (s.threads t) l.1.runs
linked_stop program lim t rest began s (DrawPrint value) l = runs_stop rest (s.threads t) l.runs
linked_stop program lim t rest began s (StoreEnded stop) (Finishes b asking) =
    last_stop began true b ∙ runs_stop rest (s.threads t) asking.runs
linked_stop program lim t rest began s (StoreEnded stop) (Trapped b halts) =
    last_stop began true b ∙ sym (ap stop_of_phase halts.going)
linked_stop program lim t rest began s (StoreEnded stop) (Spent b goes fuel) =
    last_stop began true b ∙ goes_stop (s.threads t) goes
linked_stop program lim t rest began s (StoreEnded stop) (Never b is fuel) =
    last_stop began false b ∙ start_stop program t (s.threads t) is
linked_stop program lim t rest began s (Over stop) l = sym (ap stop_of_phase l)
linked_stop program lim t rest began s NoRow l = runs_stop rest (s.threads t) l.1.runs

-- STEPS OF OTHER THREADS

ending_on : (program : Program) (t : ℕ) (rest : Behaviour) (began : Bool) (phase phase' : Phase) (stop : Stop)
    → MayPass phase phase' → Ending program t rest began phase stop → Ending program t rest began phase' stop
ending_on program t rest began phase phase' stop passes (Finishes b asking) =
    Finishes b (asking_on rest phase phase' (requests.Stop stop) asking passes)
ending_on program t rest began phase phase' stop passes (Trapped b halts) =
    Trapped b (halts_on rest phase phase' stop halts passes)
ending_on program t rest began phase phase' stop passes (Spent b goes fuel) =
    Spent b (goes_on phase phase' goes passes) fuel
ending_on program t rest began phase phase' stop passes (Never b waiting fuel) =
    Never b (waiting_on program t phase phase' waiting passes) fuel

-- of thread u
module _ (program : Program) (lim : Bounds) (u t : ℕ) (s s' : State) (ne : u ≡ t → ⊥)
    (passes : MayPass (s.threads t) (s'.threads t)) (leaves : Leaves u s s') where
  sized_on : (at : AllocAt) → IsSized lim s.pages at → IsSized lim s'.pages at
  sized_on (allocs.LoadPage search) sized = tt
  sized_on (allocs.SwapPage search) sized = tt
  sized_on (allocs.LoadBlock search index) sized = leaves.pages (page_in lim search) search.class sized
  sized_on (allocs.SwapBlock search index life) sized = leaves.pages (page_in lim search) search.class sized

  malloc_on : (rest : Behaviour) (began : Bool) (at : AllocAt)
      → MallocLinked lim rest began s.pages (s.threads t) at → MallocLinked lim rest began s'.pages (s'.threads t) at
  malloc_on rest began at l = record {
    has_begun = l.has_begun;
    bytes = l.bytes;
    asking = asking_on rest (s.threads t) (s'.threads t) (requests.Malloc l.bytes) l.asking passes;
    wanted = l.wanted;
    reached = l.reached;
    left = (runs_same rest (s.threads t) (s'.threads t) l.asking.runs passes).left ∙ l.left;
    sized = sized_on at l.sized;
  }

  holds_on : (rest : Behaviour) (began : Bool) (loc place start : ℕ)
      → NoteHolds lim rest began s.pages (s.threads t) loc place start
      → NoteHolds lim rest began s'.pages (s'.threads t) loc place start
  holds_on rest began loc place start l = record {
    has_begun = l.has_begun;
    value = l.value;
    asking = asking_on rest (s.threads t) (s'.threads t) (requests.Note loc l.value) l.asking passes;
    holds = holding_on lim s.pages s'.pages l.value place leaves.pages l.holds;
    class = l.class;
    class_is = leaves.pages (page_of place) l.class l.class_is;
    start_is = l.start_is;
  }

  found_on : (rest : Behaviour) (began : Bool) (loc place life : ℕ)
      → NoteFound rest began (s.threads t) loc place life → NoteFound rest began (s'.threads t) loc place life
  found_on rest began loc place life l = record {
    has_begun = l.has_begun;
    value = l.value;
    asking = asking_on rest (s.threads t) (s'.threads t) (requests.Note loc l.value) l.asking passes;
    found = (runs_same rest (s.threads t) (s'.threads t) l.asking.runs passes).found ∙ l.found;
  }

  note_on : (rest : Behaviour) (began : Bool) (at : NoteAt)
      → NoteLinked lim rest began s.pages (s.threads t) at → NoteLinked lim rest began s'.pages (s'.threads t) at
  note_on rest began (notes.LoadPage loc value) l =
      (l.0, asking_on rest (s.threads t) (s'.threads t) (requests.Note loc value) l.1 passes)
  note_on rest began (notes.LoadBlock loc place start) l = holds_on rest began loc place start l
  note_on rest began (notes.Seek loc at) l = found_on rest began loc (list_place at) (list_life at) l
  note_on rest began (notes.StoreLife loc place life log) l = found_on rest began loc place life l
  note_on rest began (notes.StoreEntry loc place life log used) l = found_on rest began loc place life l
  note_on rest began (notes.CountEntry loc place life log used) l = found_on rest began loc place life l

  abbrev asked_on : (rest : Behaviour) (began : Bool) (address : ℕ) → FreeAsking rest began s.blocks (s.threads t) address
      → FreeAsking rest began s'.blocks (s'.threads t) address
  asked_on rest began address l =
      let same = runs_same rest (s.threads t) (s'.threads t) l.asking.runs passes in
      record {
        has_begun = l.has_begun;
        asking = asking_on rest (s.threads t) (s'.threads t) (requests.Free address) l.asking passes;
        older = λ place. omega (arith, ap (λ (f : ℕ → ℕ). f place) same.lives, l.older place, leaves.lives place);
      }

  saw_on : (rest : Behaviour) (began : Bool) (address place life : ℕ)
      → FreeSaw rest began s.blocks (s.threads t) address place life
      → FreeSaw rest began s'.blocks (s'.threads t) address place life
  saw_on rest began address place life l =
      let same = runs_same rest (s.threads t) (s'.threads t) l.asks.asking.runs passes in
      record {
        asks = asked_on rest began address l.asks;
        since = omega (arith, ap (λ (f : ℕ → ℕ). f place) same.lives, l.since);
        before = omega (arith, l.before, leaves.lives place);
      }

  free_on : (rest : Behaviour) (began : Bool) (at : FreeAt)
      → FreeLinked lim t rest began s.pages s.blocks (s.threads t) at
      → FreeLinked lim t rest began s'.pages s'.blocks (s'.threads t) at
  free_on rest began (frees.LoadPage address) l = asked_on rest began address l
  free_on rest began (frees.LoadBlock address place) l =
      (asked_on rest began address l.0, starts_on lim s.pages s'.pages address place leaves.pages l.1)
  free_on rest began (frees.SwapBlock address place life) l =
      (saw_on rest began address place life l.0, starts_on lim s.pages s'.pages address place leaves.pages l.1)
  free_on rest began (frees.StoreFree place life) l = (
    l.0,
    asked_on rest began l.0 l.1,
    starts_on lim s.pages s'.pages l.0 place leaves.pages l.2,
    leaves.freed t place ne (ap (λ (b : Block). b.state) l.3) ∙ l.3,
  )

  answered_on : (rest : Behaviour) → Fresh lim s.blocks rest (s.threads t) → Fresh lim s'.blocks rest (s'.threads t)
  answered_on rest fresh = fresh_on lim s.blocks s'.blocks rest (s.threads t) (s'.threads t) leaves.lives fresh passes

  spawn_on : (rest : Behaviour) (began : Bool) (at : SpawnAt) → SpawnLinked lim rest began s.blocks (s.threads t) at
      → SpawnLinked lim rest began s'.blocks (s'.threads t) at
  spawn_on rest began (DrawThread loc function arg) l =
      (l.0, asking_on rest (s.threads t) (s'.threads t) (requests.Spawn loc function arg) l.1 passes)
  spawn_on rest began (StoreNumber n loc function arg) l =
      (l.0, draws_on rest (s.threads t) (s'.threads t) n loc function arg l.1 passes)
  spawn_on rest began (StoreFunction n function arg) l = (l.0, answered_on (told rest 0) l.1)
  spawn_on rest began (StoreArgument n arg) l = (l.0, answered_on (told rest 0) l.1)
  spawn_on rest began (OpenThread n) l = (l.0, answered_on (told rest 0) l.1)

  part_on : (rest : Behaviour) (began : Bool) (access : Access) (change : Change)
      → PartLinked rest began (s.threads t) access change → PartLinked rest began (s'.threads t) access change
  part_on rest began access change l = record {
    has_begun = l.has_begun;
    narrow = l.narrow;
    asking = asking_on rest (s.threads t) (s'.threads t) (change_request access change) l.asking passes;
  }

  stands_on : (rest : Behaviour) (began : Bool) (p : Position) → Linked program lim t rest began s p
      → Linked program lim t rest began s' p
  stands_on rest began (Start at) l = (l.0, waiting_on program t (s.threads t) (s'.threads t) l.1 passes)
  stands_on rest began (positions.Access (LoadWord loc)) l =
      (l.0, l.1, asking_on rest (s.threads t) (s'.threads t) (requests.Load l.0) l.2 passes)
  stands_on rest began (positions.Access (StoreWord loc value)) l =
      (l.0, l.1, l.2, asking_on rest (s.threads t) (s'.threads t) (requests.Store l.0 value) l.3 passes)
  stands_on rest began (positions.Access (CombineWord loc op value)) l =
      (l.0, l.1, l.2, asking_on rest (s.threads t) (s'.threads t) (requests.Rmw l.0 op value) l.3 passes)
  stands_on rest began (positions.Access (ReplaceWord loc expected new)) l =
      (l.0, l.1, l.2, asking_on rest (s.threads t) (s'.threads t) (requests.Cas l.0 expected new) l.3 passes)
  stands_on rest began (positions.Access (LoadPart access change)) l = part_on rest began access change l
  stands_on rest began (positions.Access (SwapPart access change seen)) l =
      (part_on rest began access change l.0, l.1)
  stands_on rest began (Malloc at) l = malloc_on rest began at l
  stands_on rest began (Note at) l = (note_on rest began at l.0, l.1)
  stands_on rest began (Free at) l = (free_on rest began at l.0, l.1)
  stands_on rest began (Spawn at) l = spawn_on rest began at l
  stands_on rest began (Join (LoadGiven number)) l =
      (l.0, asking_on rest (s.threads t) (s'.threads t) (requests.Join number) l.1 passes)
  stands_on rest began (Join (LoadEnded n)) l =
      (l.0, asking_on rest (s.threads t) (s'.threads t) (requests.Join n) l.1 passes)
  stands_on rest began (DrawPrint value) l =
      asking_on rest (s.threads t) (s'.threads t) (requests.Print value) l passes
  stands_on rest began (StoreEnded stop) l = ending_on program t rest began (s.threads t) (s'.threads t) stop passes l
  stands_on rest began (Over stop) l = stopped_on stop (s.threads t) (s'.threads t) l passes
  stands_on rest began NoRow l = (l.0, asking_on rest (s.threads t) (s'.threads t) l.0 l.1 passes)

  -- a step of another thread keeps the link
  pub linked_on : (rest : Behaviour) (began : Bool) (cursors : List ℕ) (p : Position)
      → LinkedAt program lim t rest began s cursors p → LinkedAt program lim t rest began s' cursors p
  linked_on rest began cursors p l = record {
    stands = stands_on rest began p l.stands;
    frees_so = frees_on t u s s' p ne leaves l.frees_so;
    looks = l.looks;
  }

-- WHERE A THREAD COMES TO

module _ (program : Program) (lim : Bounds) (t : ℕ) (s : State) (cursors : List ℕ) (looks : AreCursors lim cursors) where
  -- a thread that comes to a step, or ends for want of fuel
  pub paying_linked : (rest : Behaviour) (units : ℕ) (began : Bool) (p : Position)
      → Linked program lim t rest began s p → FreesAt t s.blocks p → Ending program t rest began (s.threads t) Fuel
      → IsLinked program lim t s (paying lim cursors rest units began p)
  paying_linked rest units began p here held spent =
      of_if (IsLinked program lim t s) (nat_lt units lim.fuel)
      (record { rest = rest; position = p; units = units; began = began; cursors = cursors })
      (record { rest = rest; position = StoreEnded Fuel; units = units; began = began; cursors = cursors })
      (record { stands = here; frees_so = held; looks = looks })
      (record { stands = spent; frees_so = tt; looks = looks })

  -- a thread that has not begun and pays for one more load, or ends
  pub waiting_linked : (rest : Behaviour) (units : ℕ) (began : Bool) (at : StartAt) → began ≡ false
      → IsWaiting program t (s.threads t) → FreesNone t s.blocks
      → IsLinked program lim t s (standing lim cursors rest units began (Start at))
  waiting_linked rest units began at b waiting none =
      paying_linked rest units began (Start at) (b, waiting) none (Never b waiting refl)

  -- a thread that runs and goes on with a malloc, a note or a free
  pub malloc_goes : (rest : Behaviour) (units : ℕ) (began : Bool) (at : AllocAt)
      → MallocLinked lim rest began s.pages (s.threads t) at → FreesNone t s.blocks
      → IsLinked program lim t s (standing lim cursors rest units began (Malloc at))
  malloc_goes rest units began at l none =
      paying_linked rest units began (Malloc at) l none
      (Spent l.has_begun (goes_run rest (s.threads t) l.asking.runs) refl)

  pub note_goes : (rest : Behaviour) (units : ℕ) (began : Bool) (at : NoteAt)
      → Linked program lim t rest began s (Note at) → FreesNone t s.blocks
      → IsLinked program lim t s (standing lim cursors rest units began (Note at))
  note_goes rest units began at l none =
      paying_linked rest units began (Note at) l none
      (Spent (note_begun lim rest began s.pages (s.threads t) at l.0)
      (goes_run rest (s.threads t) (note_runs lim rest began s.pages (s.threads t) at l.0)) refl)

  pub free_goes : (rest : Behaviour) (units : ℕ) (began : Bool) (at : FreeAt)
      → Linked program lim t rest began s (Free at) → FreesAt t s.blocks (Free at) → began ≡ true
      → Runs rest (s.threads t) → IsLinked program lim t s (standing lim cursors rest units began (Free at))
  free_goes rest units began at l held b runs =
      paying_linked rest units began (Free at) l held (Spent b (goes_run rest (s.threads t) runs) refl)

  -- a thread that runs and goes on with starting or joining another one
  pub spawn_goes : (rest : Behaviour) (units : ℕ) (began : Bool) (at : SpawnAt)
      → SpawnLinked lim rest began s.blocks (s.threads t) at → began ≡ true → Goes (s.threads t)
      → FreesNone t s.blocks → IsLinked program lim t s (standing lim cursors rest units began (Spawn at))
  spawn_goes rest units began at l b goes none = paying_linked rest units began (Spawn at) l none (Spent b goes refl)

  pub join_goes : (rest : Behaviour) (units : ℕ) (began : Bool) (at : JoinAt)
      → JoinLinked rest began (s.threads t) at → began ≡ true → Goes (s.threads t)
      → FreesNone t s.blocks → IsLinked program lim t s (standing lim cursors rest units began (Join at))
  join_goes rest units began at l b goes none = paying_linked rest units began (Join at) l none (Spent b goes refl)

  -- a thread that runs and comes to its request
  module _ (walks : Walks) (range : IsInRange lim) (rest : Behaviour) (come : Fresh lim s.blocks rest (s.threads t))
      (none : FreesNone t s.blocks) where
    abbrev fresh : Runs rest (s.threads t)
    fresh = come.runs

    asking_linked : (units : ℕ) (p : Position) → Linked program lim t rest true s p
        → IsLinked program lim t s (paying lim cursors rest units true p)
    asking_linked units p here =
        paying_linked rest units true p here (frees_anywhere t s.blocks p none)
        (Spent refl (goes_run rest (s.threads t) fresh) refl)

    -- a thread that asks for what no row is for
    rowless_linked : (units : ℕ) (request : Request) → Asking rest (s.threads t) request
        → IsLinked program lim t s (standing lim cursors rest units true NoRow)
    rowless_linked units request asking = asking_linked units NoRow (request, asking)

    finishing_linked : (units : ℕ) (stop : Stop) → Asking rest (s.threads t) (requests.Stop stop)
        → IsLinked program lim t s (standing lim cursors rest units true (StoreEnded stop))
    finishing_linked units stop asking = record { stands = Finishes refl asking; frees_so = tt; looks = looks }

    -- a thread that asks for a stop
    stopping_linked : (units : ℕ) (stop : Stop) → Asking rest (s.threads t) (requests.Stop stop)
        → IsLinked program lim t s (standing lim cursors rest units true (end_by stop))
    stopping_linked units Idle asking = rowless_linked units (requests.Stop Idle) asking
    stopping_linked units Running asking = rowless_linked units (requests.Stop Running) asking
    stopping_linked units (Returned value) asking = finishing_linked units (Returned value) asking
    stopping_linked units (Trap trap) asking = finishing_linked units (Trap trap) asking
    stopping_linked units (Full place what) asking = rowless_linked units (requests.Stop (Full place what)) asking
    stopping_linked units Fuel asking = rowless_linked units (requests.Stop Fuel) asking

    -- a change of a word is one of the whole word, or begins with a load
    changing_linked : (units : ℕ) (access : Access) (whole : AccessAt) (change : Change) (b : Bool)
        → is_whole access ≡ b → (is_whole access ≡ true → AccessLinked rest true (s.threads t) whole)
        → Asking rest (s.threads t) (change_request access change)
        → IsLinked program lim t s
        (standing lim cursors rest units true (positions.Access (if b then whole else LoadPart access change)))
    changing_linked units access whole change true is linked asking =
        asking_linked units (positions.Access whole) (linked is)
    changing_linked units access whole change false is linked asking =
        asking_linked units (positions.Access (LoadPart access change))
        (record { has_begun = refl; narrow = is; asking = asking })

    -- a malloc begins with all places of its class
    taking_linked : (units bytes begun : ℕ) (place : Place) (class : Option ℕ)
        → rest [] ≡ Asks begun place (requests.Malloc bytes) → class_of bytes ≡ class
        → IsLinked program lim t s (standing lim cursors rest units true (looking_for cursors class))
    taking_linked units bytes begun place None asks is =
        rowless_linked units (requests.Malloc bytes)
        (record { runs = fresh; begun = begun; place = place; asks = asks })
    taking_linked units bytes begun place (Some class) asks is =
        let first = slice_index cursors class in
        let known = walks.begin lim class first range (looks.each class (walks.few bytes class is)) in
        asking_linked units (Malloc (allocs.LoadPage (search_from class first))) (record {
          has_begun = refl;
          bytes = bytes;
          asking = record { runs = fresh; begun = begun; place = place; asks = asks };
          wanted = is;
          reached = known.0;
          left = come.left ∙ (ap (first_left lim) asks ∙ (ap (places_wanted lim) is ∙ sym known.1));
          sized = tt;
        })

    -- a note begins where its location and its value lie where they may
    noting_linked : (units loc value begun : ℕ) (place : Place) (b : Bool)
        → rest [] ≡ Asks begun place (requests.Note loc value) → is_notable lim loc value ≡ b
        → IsLinked program lim t s (standing lim cursors rest units true
        (if b then Note (notes.LoadPage loc value) else NoRow))
    noting_linked units loc value begun place true asks is =
        asking_linked units (Note (notes.LoadPage loc value))
        ((refl, record { runs = fresh; begun = begun; place = place; asks = asks }), is)
    noting_linked units loc value begun place false asks is =
        rowless_linked units (requests.Note loc value)
        (record { runs = fresh; begun = begun; place = place; asks = asks })

    -- a free begins with no life fallen
    freeing_linked : (units address begun : ℕ) (place : Place) (b : Bool)
        → rest [] ≡ Asks begun place (requests.Free address) → is_freeable lim address ≡ b
        → IsLinked program lim t s (standing lim cursors rest units true
        (if b then Free (frees.LoadPage address) else NoRow))
    freeing_linked units address begun place true asks is =
        asking_linked units (Free (frees.LoadPage address)) (
          record {
            has_begun = refl;
            asking = record { runs = fresh; begun = begun; place = place; asks = asks };
            older = come.older;
          },
          is,
        )
    freeing_linked units address begun place false asks is =
        rowless_linked units (requests.Free address)
        (record { runs = fresh; begun = begun; place = place; asks = asks })

    -- a thread that runs and stands at its request
    standing_linked : (units begun : ℕ) (place : Place) (request : Request) → rest [] ≡ Asks begun place request
        → IsLinked program lim t s (standing lim cursors rest units true (position_of lim cursors request))
    standing_linked units begun place (requests.Load access) asks =
        asking_linked units (positions.Access (LoadWord access.loc))
        (access, refl, record { runs = fresh; begun = begun; place = place; asks = asks })
    standing_linked units begun place (requests.Store access value) asks =
        let asking : Asking rest (s.threads t) (requests.Store access value) =
        record { runs = fresh; begun = begun; place = place; asks = asks } in
        changing_linked units access (StoreWord access.loc value) (Put value) (is_whole access) refl
        (λ is. (access, refl, is, asking)) asking
    standing_linked units begun place (requests.Rmw access op value) asks =
        let asking : Asking rest (s.threads t) (requests.Rmw access op value) =
        record { runs = fresh; begun = begun; place = place; asks = asks } in
        changing_linked units access (CombineWord access.loc op value) (Combine op value) (is_whole access) refl
        (λ is. (access, refl, is, asking)) asking
    standing_linked units begun place (requests.Cas access expected new) asks =
        let asking : Asking rest (s.threads t) (requests.Cas access expected new) =
        record { runs = fresh; begun = begun; place = place; asks = asks } in
        changing_linked units access (ReplaceWord access.loc expected new) (Replace expected new) (is_whole access) refl
        (λ is. (access, refl, is, asking)) asking
    standing_linked units begun place (requests.Malloc bytes) asks =
        taking_linked units bytes begun place (class_of bytes) asks refl
    standing_linked units begun place (requests.Free address) asks =
        freeing_linked units address begun place (is_freeable lim address) asks refl
    standing_linked units begun place (requests.Note loc value) asks =
        noting_linked units loc value begun place (is_notable lim loc value) asks refl
    standing_linked units begun place (requests.Print value) asks =
        asking_linked units (DrawPrint value) (record { runs = fresh; begun = begun; place = place; asks = asks })
    standing_linked units begun place (requests.Spawn loc function arg) asks =
        asking_linked units (Spawn (DrawThread loc function arg))
        (refl, record { runs = fresh; begun = begun; place = place; asks = asks })
    standing_linked units begun place (requests.Join number) asks =
        asking_linked units (Join (LoadGiven number))
        (refl, record { runs = fresh; begun = begun; place = place; asks = asks })
    standing_linked units begun place (requests.Stop stop) asks =
        stopping_linked units stop (record { runs = fresh; begun = begun; place = place; asks = asks })

    arriving_linked : (units : ℕ) (asked : Asked) → rest [] ≡ asked
        → IsLinked program lim t s (arriving lim cursors rest units asked)
    arriving_linked units (Asks begun place request) asks =
        of_if (IsLinked program lim t s) (nat_le (units + begun) lim.fuel)
        (standing lim cursors rest (units + begun) true (position_of lim cursors request))
        (record { rest = rest; position = StoreEnded Fuel; units = lim.fuel; began = true; cursors = cursors })
        (standing_linked (units + begun) begun place request asks)
        (record { stands = Spent refl (goes_run rest (s.threads t) fresh) refl; frees_so = tt; looks = looks })
    arriving_linked units Silent asks =
        record { stands = Spent refl (goes_run rest (s.threads t) fresh) refl; frees_so = tt; looks = looks }

    pub going_linked : (units : ℕ) → IsLinked program lim t s (going_on lim cursors units rest)
    going_linked units = arriving_linked units (rest []) refl
