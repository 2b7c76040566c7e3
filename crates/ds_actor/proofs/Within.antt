-- Whatever the code, a thread asks only for words that are there.
use Rattle.std.proofs.Common.{◌≡◌, ℕ, zero, suc, ◌+◌, ◌*◌, ◌/◌, ◌%◌, ◌<◌, ◌≤◌, Bool, true, false, not}
use Rattle.std.proofs.Common.{◌&&◌, ◌||◌, ◌==◌, if◌then◌else◌, nat_lt, nat_le, List, [], ◌∷◌, length, Option, Some}
use Rattle.std.proofs.Common.{None}
use Rattle.std.proofs.Common.{Result, Ok, Err, refl, arith, option_map, slice_get, slice_index}
use Rattle.std.proofs.lemmas.Bool.{and_parts, eqb-true}
use Rattle.std.proofs.lemmas.Bool.Decides.{nat_tests}
use Rattle.ds_ast.specs.declared.ty.Scalar.{Scalar}
use Rattle.ds_ast.specs.declared.ty.Scalar.TheVariants.{I1, I8, I16, I32, I64, Ptr}
use Rattle.ds_arith.specs.declared.fault.ArithFault.{ArithFault}
use Rattle.ds_map.specs.Bounds.{Bounds, IsInRange}
use Rattle.ds_map.specs.Blocks.{class_of, is_marked}
use Rattle.ds_map.specs.Regions.{Region, globals, stacks, stack, heap, lies_in, location_in, location_of}
use Rattle.ds_map.specs.Regions.{program_words}
use Rattle.ds_shape.specs.Sizes.{scalar_size, rounded}
use Rattle.ds_plain.specs.declared.Access.{Access}
use Rattle.ds_plain.specs.declared.Place.{Place}
use Rattle.ds_plain.specs.declared.TrapKind.{TrapKind}
use Rattle.ds_plain.specs.declared.TrapKind.TheVariants as kinds
use Rattle.ds_plain.specs.declared.Stop.{Stop}
use Rattle.ds_plain.specs.declared.Stop.TheVariants.{Idle, Returned, Trap, Full, Fuel}
use Rattle.ds_plain.specs.declared.Stop.TheVariants as stops
use Rattle.ds_plain.specs.declared.Request.{Request}
use Rattle.ds_plain.specs.declared.Request.TheVariants as requests
use Rattle.ds_plain.specs.declared.AccessAt.{AccessAt}
use Rattle.ds_plain.specs.declared.AccessAt.TheVariants.{StoreWord, CombineWord, ReplaceWord, LoadPart}
use Rattle.ds_plain.specs.declared.Change.{Change}
use Rattle.ds_plain.specs.declared.Change.TheVariants.{Put, Combine, Replace}
use Rattle.ds_plain.specs.declared.Position.TheVariants.{NoRow}
use Rattle.ds_plain.specs.declared.Position.TheVariants as positions
use Rattle.ds_plain.specs.Asking.{IsWithin, IsAskedWithin}
use Rattle.ds_plain.specs.Behaviour.{Outcome, Goes, Wants, Stops, Stuck, Asked, Asks, Silent, asked_by, ask, one_more}
use Rattle.ds_plain.specs.Behaviour.{behaviour}
use Rattle.ds_plain.specs.Parts.{is_whole}
use Rattle.ds_plain.specs.Accessing.{changing_at, IsAccessAt}
use Rattle.ds_plain.specs.declared.NoteAt.TheVariants as noting
use Rattle.ds_plain.specs.declared.FreeAt.TheVariants as freeing
use Rattle.ds_plain.specs.Noting.{is_notable}
use Rattle.ds_plain.specs.Freeing.{is_freeable}
use Rattle.ds_plain.specs.Reached.{AreCursors}
use Rattle.ds_plain.specs.Table.{looking_for, position_of, end_by}
use Rattle.ds_alloc_laws.specs.Laws.{ClassesAreFew, MallocsBegin}
use Rattle.ds_meaning.specs.Control.{ReturnValue}
use Rattle.ds_meaning.specs.Memory.{access_at}
use Rattle.ds_code.specs.declared.frames.Waiting.{Waiting}
use Rattle.ds_code.specs.declared.sources.Copying.{Copying}
use Rattle.ds_code.specs.declared.ops.Edge.{Edge}
use Rattle.ds_code.specs.declared.ops.MemoryOp.{MemoryOp}
use Rattle.ds_code.specs.declared.ops.MemoryOp.TheVariants.{Load, Store, Rmw, Cmpxchg}
use Rattle.ds_code.specs.declared.ops.ExternalOp.{ExternalOp}
use Rattle.ds_code.specs.declared.ops.ExternalOp.TheVariants.{Malloc, Free, Print, Spawn, Join, Note}
use Rattle.ds_code.specs.declared.ops.CodeOp.{CodeOp}
use Rattle.ds_code.specs.declared.ops.CodeOp.TheVariants.{Compute, Alloca, Memory, External, Skip, Call, Ret, Branch}
use Rattle.ds_code.specs.declared.ops.CodeOp.TheVariants.{Unreachable, Unknown}
use Rattle.ds_code.specs.declared.ops.CodeInstr.{CodeInstr}
use Rattle.ds_code.specs.declared.functions.CodeFunction.{CodeFunction}
use Rattle.ds_code.specs.Machine.{Running, Machine, at_hand, top, place_of, input, value, copied}
use Rattle.ds_code.specs.CodeMeaning.{computed, computes, allocates, judged_by, judged, located, requested}
use Rattle.ds_code.specs.CodeMeaning.{type_at, address_in, frees, noted, asks, chosen, branches, calls, returned}
use Rattle.ds_code.specs.CodeMeaning.{returns, waiting, traps, act, act_at, step, results, on}
use Rattle.ds_code.specs.CodeProgram.{start, fits, overflows, behaves}

-- WHERE AN ADDRESS LIES

abbrev LocWithin : Bounds → Option ℕ → Type 0
LocWithin lim None = Unit {0}
LocWithin lim (Some loc) = loc < program_words lim

region_within : (lim : Bounds) (region : Region) (address : ℕ) → region.location + region.count ≤ program_words lim
    → lies_in region address ≡ true → location_in region address < program_words lim
region_within lim region address le e =
    let both = and_parts (nat_le region.start address) (nat_lt address (region.start + 8 * region.count)) e in
    let low : region.start ≤ address = grind (arith, nat_tests, both.0) in
    let high : address < region.start + 8 * region.count = grind (arith, nat_tests, both.1) in
    omega (arith, low, high, le)

within_by : (lim : Bounds) (region : Region) (address : ℕ) (other : Option ℕ) (b : Bool)
    → lies_in region address ≡ b → region.location + region.count ≤ program_words lim → LocWithin lim other
    → LocWithin lim (if b then Some (location_in region address) else other)
within_by lim region address other true e le rest = region_within lim region address le e
within_by lim region address other false e le rest = rest

location_within : (lim : Bounds) (address : ℕ) → LocWithin lim (location_of lim address)
location_within lim address =
    within_by lim globals address _ (lies_in globals address) refl (omega arith)
    (within_by lim stacks address _ (lies_in stacks address) refl (omega arith)
    (within_by lim (heap lim) address _ (lies_in (heap lim) address) refl (omega arith) tt))

-- ACCESSES

-- the access is of bits of a word that is there
record IsLocated (lim : Bounds) (access : Access) : Type 0 where
  loc : access.loc < program_words lim
  inside : access.shift + access.bits ≤ 64

abbrev AccessWithin : Bounds → Option Access → Type 0
AccessWithin lim None = Unit {0}
AccessWithin lim (Some access) = IsLocated lim access

mapped : (lim : Bounds) (shift bits : ℕ) (loc : Option ℕ) → shift + bits ≤ 64 → LocWithin lim loc
    → AccessWithin lim (option_map (λ (loc : ℕ). record { loc = loc; shift = shift; bits = bits }) loc)
mapped lim shift bits None inside h = tt
mapped lim shift bits (Some loc) inside h = record { loc = h; inside = inside }

-- a value at a multiple of its size ends within its word
aligned : (ty : Scalar) (address : ℕ) → address % scalar_size ty ≡ 0 → 8 * (address % 8) + 8 * scalar_size ty ≤ 64
aligned I1 address e = omega arith
aligned I8 address e = omega arith
aligned I16 address e = omega (arith, e)
aligned I32 address e = omega (arith, e)
aligned I64 address e = omega (arith, e)
aligned Ptr address e = omega (arith, e)

pub by_test : {A : Type 0} (P : A → Type 0) (b : Bool) (x y : A) → P x → P y → P (if b then x else y)
by_test P true x y p q = p
by_test P false x y p q = q

access_by : (lim : Bounds) (ty : Scalar) (address : ℕ) (b : Bool) → (address % scalar_size ty == 0) ≡ b
    → AccessWithin lim (if b then
    option_map (λ (loc : ℕ). record { loc = loc; shift = 8 * (address % 8); bits = 8 * scalar_size ty })
    (location_of lim address)
    else None)
access_by lim ty address true e =
    mapped lim (8 * (address % 8)) (8 * scalar_size ty) (location_of lim address)
    (aligned ty address (eqb-true (address % scalar_size ty) 0 e)) (location_within lim address)
access_by lim ty address false e = tt

access_within : (lim : Bounds) (ty : Scalar) (address : ℕ) → AccessWithin lim (access_at lim ty address)
access_within lim ty address = access_by lim ty address (address % scalar_size ty == 0) refl

-- of bits that are not all those of a word there are fewer
narrow : (shift bits : ℕ) (s b : Bool) → (shift == 0) ≡ s → (bits == 64) ≡ b → (s && b) ≡ false
    → shift + bits ≤ 64 → bits < 64
narrow shift bits true true is_s is_b e inside = absurd (cc (e))
narrow shift bits true false is_s is_b e inside = grind (arith, nat_tests, is_b, inside)
narrow shift bits false b is_s is_b e inside =
    let some : 0 < shift = grind (arith, nat_tests, is_s) in
    omega (arith, some, inside)

changing_by : (lim : Bounds) (access : Access) (whole : AccessAt) (change : Change) (b : Bool) → is_whole access ≡ b
    → IsLocated lim access → IsAccessAt lim whole → IsAccessAt lim (if b then whole else LoadPart access change)
changing_by lim access whole change true e h reached = reached
changing_by lim access whole change false e h reached = record {
  loc = h.loc;
  narrow = narrow access.shift access.bits (access.shift == 0) (access.bits == 64) refl refl e h.inside;
  inside = h.inside;
}

-- a change of a word begins at a position that is reached
changing : (lim : Bounds) (access : Access) (whole : AccessAt) (change : Change) → IsLocated lim access
    → IsAccessAt lim whole → IsAccessAt lim (changing_at access whole change)
changing lim access whole change h reached =
    changing_by lim access whole change (is_whole access) refl h reached

abbrev JudgedWithin : Bounds → Result Access TrapKind → Type 0
JudgedWithin lim (Ok access) = IsLocated lim access
JudgedWithin lim (Err kind) = Unit {0}

judged_by_within : (lim : Bounds) (address : ℕ) (found : Option Access) → AccessWithin lim found
    → JudgedWithin lim (judged_by address found)
judged_by_within lim address None h = tt
judged_by_within lim address (Some access) h = h

judged_within : (lim : Bounds) (ty : Scalar) (address : ℕ) → JudgedWithin lim (judged lim ty address)
judged_within lim ty address =
    by_test (JudgedWithin lim) (is_marked address) (Err (kinds.UseAfterFree address)) _ tt
    (judged_by_within lim address (access_at lim ty address) (access_within lim ty address))

-- INSTRUCTIONS

-- the position of a request works on words that are there, wherever the thread looks for blocks
abbrev RequestWithin : Bounds → Request → Type 0
RequestWithin lim request =
    (cursors : List ℕ) → AreCursors lim cursors → IsWithin lim (position_of lim cursors request)

-- what is asked works on words that are there
abbrev Fits : Bounds → Outcome Machine → Type 0
Fits lim (Goes q) = Unit {0}
Fits lim (Wants place request answered) = RequestWithin lim request
Fits lim (Stops place stop) = Unit {0}
Fits lim Stuck = Unit {0}

module _ (few : ClassesAreFew) (begins : MallocsBegin) (r : Running) (range : IsInRange r.lim) (q : Machine) (i : CodeInstr) where
  located_fits : (found : Result Access TrapKind) (go : Access → Outcome Machine) → JudgedWithin r.lim found
      → ((access : Access) → IsLocated r.lim access → Fits r.lim (go access))
      → Fits r.lim (located q i found go)
  located_fits (Ok access) go h all = all access h
  located_fits (Err kind) go h all = tt

  requested_within : (access : Access) (op : MemoryOp) → IsLocated r.lim access
      → RequestWithin r.lim (requested q access op)
  requested_within access (Load ty at) h = λ cursors looks. h.loc
  requested_within access (Store ty v at) h = λ cursors looks.
      changing r.lim access (StoreWord access.loc (value q ty v)) (Put (value q ty v)) h h.loc
  requested_within access (Rmw op at ty v) h = λ cursors looks.
      changing r.lim access (CombineWord access.loc op (value q ty v)) (Combine op (value q ty v)) h h.loc
  requested_within access (Cmpxchg at ty expected new exchanged) h = λ cursors looks.
      changing r.lim access (ReplaceWord access.loc (value q ty expected) (value q ty new))
      (Replace (value q ty expected) (value q ty new)) h h.loc

  -- a malloc begins at a place of its class
  looking_within : (cursors : List ℕ) (class : Option ℕ) → AreCursors r.lim cursors
      → ((c : ℕ) → class ≡ Some c → c < 15) → IsWithin r.lim (looking_for cursors class)
  looking_within cursors None looks below = tt
  looking_within cursors (Some class) looks below =
      (begins r.lim class (slice_index cursors class) range (looks.each class (below class refl))).0

  noting_within : (b : Bool) (loc v : ℕ) → is_notable r.lim loc v ≡ b
      → IsWithin r.lim (if b then positions.Note (noting.LoadPage loc v) else NoRow)
  noting_within true loc v e = e
  noting_within false loc v e = tt

  freeing_within : (b : Bool) (address : ℕ) → is_freeable r.lim address ≡ b
      → IsWithin r.lim (if b then positions.Free (freeing.LoadPage address) else NoRow)
  freeing_within true address e = e
  freeing_within false address e = tt

  moves_or_traps : (b : Bool) (to : Machine) (kind : TrapKind)
      → Fits r.lim (if b then Goes to else traps q i kind)
  moves_or_traps true to kind = tt
  moves_or_traps false to kind = tt

  moves_or_asks : (b : Bool) (to : Machine) (place : Place) (request : Request) (answered : ℕ → Machine)
      → RequestWithin r.lim request → Fits r.lim (if b then Goes to else Wants place request answered)
  moves_or_asks true to place request answered h = tt
  moves_or_asks false to place request answered h = h

  asks_or_traps : (b : Bool) (place : Place) (request : Request) (answered : ℕ → Machine) (kind : TrapKind)
      → RequestWithin r.lim request → Fits r.lim (if b then Wants place request answered else traps q i kind)
  asks_or_traps true place request answered kind h = h
  asks_or_traps false place request answered kind h = tt

  computes_fits : (found : Result ℕ ArithFault) → Fits r.lim (computes q i found)
  computes_fits (Ok n) = tt
  computes_fits (Err fault) = tt

  noted_fits : (loc v : ℕ) → Fits r.lim (noted r q i loc v)
  noted_fits loc v =
      moves_or_asks (is_marked v || not (lies_in (heap r.lim) v)) (on q) (place_of q i) (requests.Note loc v)
      (λ z. on q) (λ cursors looks. noting_within (is_notable r.lim loc v) loc v refl)

  abbrev frees_whole : ℕ → Outcome Machine
  frees_whole address =
      if lies_in (heap r.lim) address && address % 8 == 0 then
      Wants (place_of q i) (requests.Free address) (λ z. on q)
      else traps q i (kinds.BadFree address)

  abbrev frees_marked : ℕ → Outcome Machine
  frees_marked address = if is_marked address then traps q i (kinds.MarkedFree address) else frees_whole address

  frees_fits : (address : ℕ) → Fits r.lim (frees r q i address)
  frees_fits address =
      by_test (Fits r.lim) (address == 0) (Goes (on q)) (frees_marked address) tt
      (by_test (Fits r.lim) (is_marked address) (traps q i (kinds.MarkedFree address)) (frees_whole address) tt
      (asks_or_traps (lies_in (heap r.lim) address && address % 8 == 0) (place_of q i) (requests.Free address)
      (λ z. on q) (kinds.BadFree address)
      (λ cursors looks. freeing_within (is_freeable r.lim address) address refl)))

  asks_fits : (op : ExternalOp) → Fits r.lim (asks r q i op)
  asks_fits (Malloc bytes) =
      moves_or_asks (nat_lt 4095 (input q bytes)) (results q i.to 0) (place_of q i)
      (requests.Malloc (input q bytes)) (λ address. results q i.to address)
      (λ cursors looks. looking_within cursors (class_of (input q bytes)) looks (few (input q bytes)))
  asks_fits (Free at) = frees_fits (input q at)
  asks_fits (Print v) = λ cursors looks. tt
  asks_fits (Spawn at function argument) =
      located_fits (judged r.lim Ptr (input q at)) _ (judged_within r.lim Ptr (input q at))
      (λ access h. λ cursors looks. h.loc)
  asks_fits (Join thread) = λ cursors looks. tt
  asks_fits (Note at v) =
      located_fits (judged r.lim Ptr (value q Ptr at)) _ (judged_within r.lim Ptr (value q Ptr at))
      (λ access h. noted_fits access.loc (value q Ptr v))

  allocates_fits : (words : ℕ) → Fits r.lim (allocates r q i words)
  allocates_fits words =
      moves_or_traps (nat_le (q.taken + words) (stack r.thread).count)
      (record (results q i.to ((stack r.thread).start + 8 * q.taken)) { taken = q.taken + words }) kinds.StackLimit

  branches_fits : (edge : Option Edge) → Fits r.lim (branches q edge)
  branches_fits None = tt
  branches_fits (Some e) = tt

  calls_fits : (number : ℕ) (arguments : List Copying) (f : Option CodeFunction)
      → Fits r.lim (calls r q i number arguments f)
  calls_fits number arguments None = tt
  calls_fits number arguments (Some f) =
      moves_or_traps (nat_le (top r q + f.cells) 65536 && nat_lt (length (waiting q i)) 1024)
      (record {
        function = number;
        at = 0;
        base = top r q;
        taken = q.taken;
        cells = copied q (top r q) arguments;
        below = waiting q i;
      }) kinds.StackLimit

  returns_fits : (v : ReturnValue) (below : List Waiting) → Fits r.lim (returns q i v below)
  returns_fits v [] = tt
  returns_fits v (w ∷ ws) = tt

  act_fits : (op : CodeOp) → Fits r.lim (act r q i op)
  act_fits (Compute op) = computes_fits (computed q op)
  act_fits (Alloca size count) = allocates_fits (rounded (input q count * size) 8 / 8)
  act_fits (Memory op) =
      located_fits (judged r.lim (type_at op) (value q Ptr (address_in op))) _
      (judged_within r.lim (type_at op) (value q Ptr (address_in op))) (λ access h. requested_within access op h)
  act_fits (External op) = asks_fits op
  act_fits Skip = tt
  act_fits (Call function arguments) = calls_fits function arguments (slice_get r.code.functions function)
  act_fits (Ret v) = returns_fits (returned q v) q.below
  act_fits (Branch op) = branches_fits (chosen q op)
  act_fits Unreachable = tt
  act_fits Unknown = tt

act_at_fits : ClassesAreFew → MallocsBegin → (r : Running) → IsInRange r.lim → (q : Machine) (i : Option CodeInstr)
    → Fits r.lim (act_at r q i)
act_at_fits few begins r range q None = tt
act_at_fits few begins r range q (Some i) = act_fits few begins r range q i i.op

step_fits : ClassesAreFew → MallocsBegin → (r : Running) → IsInRange r.lim → (q : Machine) → Fits r.lim (step r q)
step_fits few begins r range q = act_at_fits few begins r range q (at_hand r q)

-- WHAT IS ASKED

more_within : (lim : Bounds) (asked : Asked) → IsAskedWithin lim asked → IsAskedWithin lim (one_more asked)
more_within lim (Asks begun place request) h = h
more_within lim Silent h = tt

stop_within : (lim : Bounds) (stop : Stop) → IsWithin lim (end_by stop)
stop_within lim Idle = tt
stop_within lim stops.Running = tt
stop_within lim (Returned value) = tt
stop_within lim (Trap trap) = tt
stop_within lim (Full place what) = tt
stop_within lim Fuel = tt

by_outcome : (lim : Bounds) (go : Machine → Asked) (o : Outcome Machine) → ((q : Machine) → IsAskedWithin lim (go q))
    → Fits lim o → IsAskedWithin lim (asked_by go o)
by_outcome lim go (Goes q) all h = more_within lim (go q) (all q)
by_outcome lim go (Wants place request answered) all h = h
by_outcome lim go (Stops place stop) all h = λ cursors looks. stop_within lim stop
by_outcome lim go Stuck all h = tt

pub ask_within : ClassesAreFew → MallocsBegin → (r : Running) → IsInRange r.lim → (n : ℕ) (q : Machine)
    → IsAskedWithin r.lim (ask (step r) n q)
ask_within few begins r range zero q = tt
ask_within few begins r range (suc n) q =
    by_outcome r.lim (ask (step r) n) (step r q) (λ q'. ask_within few begins r range n q') (step_fits few begins r range q)

overflow_within : (lim : Bounds) (function n : ℕ) → IsAskedWithin lim (ask (overflows function) n tt)
overflow_within lim function zero = tt
overflow_within lim function (suc n) = λ cursors looks. tt

pub begin_within : ClassesAreFew → MallocsBegin → (r : Running) → IsInRange r.lim → (function argument : ℕ)
    → IsAskedWithin r.lim (behaves r function argument [])
begin_within few begins r range function argument = by_fit (fits r.code function)
  where
    by_fit : (b : Bool) → IsAskedWithin r.lim ((if b then behaviour (step r) r.lim.fuel (start r.code function argument)
        else behaviour (overflows function) r.lim.fuel tt) [])
    by_fit true = ask_within few begins r range r.lim.fuel (start r.code function argument)
    by_fit false = overflow_within r.lim function r.lim.fuel
