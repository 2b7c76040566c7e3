-- A module with its notes does, one instruction at a time, what the module does whose stores note by themselves.
use Rattle.std.proofs.Common.{◌≡◌, ℕ, suc, ◌+◌, ◌*◌, ◌%◌, ◌^◌, ◌&&◌, ◌||◌, ◌==◌, Bool, true, false, not}
use Rattle.std.proofs.Common.{if◌then◌else◌, nat_le, nat_lt, List, [], ◌∷◌, ◌⊎◌, inl, inr, Result, Ok, Err}
use Rattle.std.proofs.Common.{length, Option, Some, None, slice_get, refl, ap, sym, ◌∙◌, subst}
use Rattle.std.specs.Option.{option_map}
use Rattle.ds_arith.specs.declared.fault.ArithFault.{ArithFault}
use Rattle.ds_arith.specs.Operations.{outcome}
use Rattle.ds_arith.specs.Comparisons.{holds}
use Rattle.ds_ast.specs.declared.name.Name.{Name}
use Rattle.ds_ast.specs.declared.value.Value.{Value}
use Rattle.ds_ast.specs.declared.value.Value.TheVariants.{Int, Null, Undef, Local, Global}
use Rattle.ds_ast.specs.declared.operand.Operand.{Operand}
use Rattle.ds_ast.specs.declared.ty.Ty.{Ty}
use Rattle.ds_ast.specs.declared.ty.Scalar.{Scalar}
use Rattle.ds_ast.specs.declared.ty.Scalar.TheVariants.{I1, I8, I16, I32, I64, Ptr}
use Rattle.ds_ast.specs.declared.words.RmwOp.{RmwOp}
use Rattle.ds_ast.specs.declared.words.RmwOp.TheVariants.{Xchg, Add, Sub, And, Or, Xor, Umax, Umin}
use Rattle.ds_ast.specs.declared.instr.Op.{Op}
use Rattle.ds_ast.specs.declared.instr.Op.TheVariants.{Bin, Icmp, Select, Cast, Alloca, Load, Store, Gep, Call, Phi}
use Rattle.ds_ast.specs.declared.instr.Op.TheVariants.{Rmw, Cmpxchg, Extract, Fence, Ret, Br, CondBr, Switch}
use Rattle.ds_ast.specs.declared.instr.Op.TheVariants.{Unreachable}
use Rattle.ds_ast.specs.declared.instr.Instr.{Instr}
use Rattle.ds_ast.specs.declared.module.Module.{Module}
use Rattle.ds_ast.specs.declared.module.Function.{Function}
use Rattle.ds_ast.specs.declared.module.Block.{Block}
use Rattle.ds_ast.specs.Bounds.{width}
use Rattle.ds_map.specs.Bounds.{Bounds}
use Rattle.ds_map.specs.Regions.{heap, lies_in, stack}
use Rattle.ds_map.specs.Blocks.{is_marked}
use Rattle.ds_plain.specs.declared.Access.{Access}
use Rattle.ds_plain.specs.declared.Request.TheVariants as requests
use Rattle.ds_plain.specs.declared.TrapKind.TheVariants as kinds
use Rattle.ds_plain.specs.Parts.{part}
use Rattle.ds_plain.specs.Behaviour.{Outcome, Goes, Wants}
use Rattle.ds_shape.specs.Sizes.{◌>>=◌}
use Rattle.ds_shape.specs.Address.{Step, address_steps, bytes_added}
use Rattle.ds_shape.specs.Site.{function_number}
use Rattle.ds_meaning.specs.Values.{Environment, Values, operand, bound, part_in, truth, converted}
use Rattle.ds_meaning.specs.Frames.{Context, Frame, Caller, State, Runs, Notes, TooLarge, first_frame, block_labelled}
use Rattle.ds_meaning.specs.Frames.{block_among, blocks_in, cells_of, cell_count, cells_below, has_room}
use Rattle.ds_meaning.specs.Steps.{Current, given_by, given, behind, on, results, traps}
use Rattle.ds_meaning.specs.Memory.{access_at, located_by, located, after_store, after_rmw, notes_at, allocates}
use Rattle.ds_meaning.specs.Memory.{words_for}
use Rattle.ds_meaning.specs.Memory.{offset_by}
use Rattle.ds_meaning.specs.Callees.{Callee, Defined, Declared, Unknown, External, Malloc, Free, PrintI64}
use Rattle.ds_meaning.specs.Callees.{PthreadCreate, PthreadJoin, DsNote, callee_of}
use Rattle.ds_meaning.specs.Calls.{mallocs, frees, function_in, creates, one_of, two_of, four_of, asks, calls}
use Rattle.ds_meaning.specs.Control.{phi_values, arrives, goes_to, case_for, arguments, waiting, enters, entered}
use Rattle.ds_meaning.specs.Control.{ReturnValue, returns}
use Rattle.ds_meaning.specs.Meaning.{computes, act}
use Rattle.ds_meaning.specs.Program.{context}
use Rattle.ds_code_laws.proofs.Simulated.{Agree}
use Rattle.ds_pass.specs.Noted.{note_name, note, note_of, notes_behind, noted_block, noted_function, noted}
use Rattle.ds_pass_laws.proofs.Shifted.{past, shifted, next_shifted, NoNotes}
use Rattle.ds_pass_laws.proofs.Shifted.{block_noted, entry_noted}
use Rattle.ds_pass_laws.proofs.Called.{number_kept, function_kept, blocks_noted, noted_callee, callee_noted}
use Rattle.ds_pass_laws.proofs.Same.{operand_same, indices_same, arguments_same, phis_same, cells_same}

-- WHERE THREADS STAND

abbrev pub code_in : Option Block → List Instr
code_in None = []
code_in (Some b) = b.code

-- the instructions of a frame's block
abbrev pub code_at : Module → Frame → List Instr
code_at m fr = code_in (block_labelled m fr.function fr.block)

-- the frame where its instruction stands among the notes
abbrev pub moved : Module → Frame → Frame
moved m fr = record fr { index = shifted (code_at m fr) fr.index }

abbrev pub all_moved : Module → List Caller → List Caller
all_moved m [] = []
all_moved m (c ∷ cs) = record { frame = moved m c.frame; gives = c.gives } ∷ all_moved m cs

-- a frame is one of a function of the module
abbrev pub IsThere : Module → Frame → Type 0
IsThere m fr = (f : Function) × (slice_get m.functions fr.function ≡ Some f)

abbrev pub AllThere : Module → List Caller → Type 0
AllThere m [] = Unit {0}
AllThere m (c ∷ cs) = IsThere m c.frame × AllThere m cs

-- a thread stands at the same instruction of the module with its notes; where it notes by itself, that is the note
abbrev pub Follows : Module → State → State → Type 0
Follows m (Runs fr below) t = AllThere m below × (t ≡ Runs (moved m fr) (all_moved m below))
Follows m (Notes at value fr below) t =
    AllThere m below
    × (t ≡ Runs (record (moved m fr) { index = suc (shifted (code_at m fr) fr.index) }) (all_moved m below))
    × (i : Instr) × (slice_get (code_at m fr) fr.index ≡ Some i) × (notes_behind i.op ≡ note at value ∷ [])
Follows m (TooLarge function) t = t ≡ TooLarge function

-- no instruction of these blocks is a call of ds_note
abbrev pub AreQuiet : Module → List Block → Type 0
AreQuiet m [] = Unit {0}
AreQuiet m (b ∷ bs) = NoNotes m b.code × NoNotes (noted m) b.code × AreQuiet m bs

-- nothing of the module is named ds_note
pub record IsQuiet (m : Module) : Type 0 where
  pub unnamed : function_number m note_name ≡ None
  pub uncalled : (n : ℕ) (f : Function) → slice_get m.functions n ≡ Some f → AreQuiet m f.blocks

-- ROOM

cells_both : (m : Module) (cs : List Caller) → AllThere m cs → cells_below (noted m) (all_moved m cs) ≡ cells_below m cs
cells_both m [] there = refl
cells_both m (c ∷ cs) there =
    let count : cell_count (slice_get (noted m).functions c.frame.function)
    ≡ cell_count (slice_get m.functions c.frame.function) =
    ap cell_count (function_kept m c.frame.function there.0.0 there.0.1)
    ∙ ap length (cells_same there.0.0)
    ∙ sym (ap cell_count there.0.1) in
    ap (λ n. n + cell_count (slice_get (noted m).functions c.frame.function)) (cells_both m cs there.1)
    ∙ ap (λ n. cells_below m cs + n) count

long_both : (m : Module) (cs : List Caller) → length (all_moved m cs) ≡ length cs
long_both m [] = refl
long_both m (c ∷ cs) = ap suc (long_both m cs)

pub room_both : (m : Module) (cs : List Caller) (f : Function) → AllThere m cs
    → has_room (noted m) (all_moved m cs) (noted_function f) ≡ has_room m cs f
room_both m cs f there =
    ap (λ n. nat_le (n + length (cells_of (noted_function f))) 65536 && nat_lt (length (all_moved m cs)) 1024)
    (cells_both m cs there)
    ∙ ap (λ (xs : List (Name × ℕ)). nat_le (cells_below m cs + length xs) 65536
    && nat_lt (length (all_moved m cs)) 1024) (cells_same f)
    ∙ ap (λ n. nat_le (cells_below m cs + length (cells_of f)) 65536 && nat_lt n 1024) (long_both m cs)

-- INSTRUCTIONS

module _ (m : Module) (lim : Bounds) (thread : ℕ) where
  abbrev c : Context
  c = context true lim m thread

  abbrev d : Context
  d = context false lim (noted m) thread

  abbrev Both : Outcome State → Outcome State → Type 0
  Both o o' = Agree (Follows m) o o'

  -- the instruction at hand, among the notes
  abbrev twin : Current → Current
  twin s = record { frame = moved m s.frame; below = all_moved m s.below; gives = s.gives; place = s.place }

  given_too : {A : Type 0} (o : Option A) (go go' : A → Outcome State) → ((x : A) → Both (go x) (go' x))
      → Both (given_by o go) (given_by o go')
  given_too None go go' h = tt
  given_too (Some x) go go' h = h x

  given_both : (s : Current) (k : ℕ) (below : List Caller) (ty : Scalar) (v : Value) (go go' : ℕ → Outcome State)
      → ((x : ℕ) → Both (go x) (go' x))
      → Both (given c s ty v go)
      (given d (record { frame = record s.frame { index = k }; below = below; gives = s.gives; place = s.place }) ty
      v go')
  given_both s k below ty v go go' h =
      subst (λ o. Both (given c s ty v go) (given_by o go')) (sym (operand_same m s.frame.env ty v))
      (given_too (operand m s.frame.env ty v) go go' h)

  located_both : (s : Current) (k : ℕ) (below : List Caller) (ty : Scalar) (a : ℕ) (go go' : Access → Outcome State)
      → ((x : Access) → Both (go x) (go' x))
      → Both (located c s ty a go)
      (located d (record { frame = record s.frame { index = k }; below = below; gives = s.gives; place = s.place })
      ty a go')
  located_both s k below ty a go go' h = by_mark (is_marked a)
    where
      s' : Current
      s' = record { frame = record s.frame { index = k }; below = below; gives = s.gives; place = s.place }

      by_access : (o : Option Access) → Both (located_by s a o go) (located_by s' a o go')
      by_access None = (refl, refl)
      by_access (Some access) = h access

      by_mark : (t : Bool)
          → Both (if t then traps s (kinds.UseAfterFree a) else located_by s a (access_at lim ty a) go)
          (if t then traps s' (kinds.UseAfterFree a) else located_by s' a (access_at lim ty a) go')
      by_mark true = (refl, refl)
      by_mark false = by_access (access_at lim ty a)

  -- a note, behind which both go on
  pub notes_both : (s : Current) (k : ℕ) (below : List Caller) (at value : Value)
      → Follows m (on s) (Runs (record s.frame { index = suc k }) below)
      → Both (notes_at c s at value)
      (notes_at d (record { frame = record s.frame { index = k }; below = below; gives = s.gives; place = s.place })
      at value)
  notes_both s k below at value next =
      given_both s k below Ptr at _ _ (λ a. given_both s k below Ptr value _ _ (λ v.
      located_both s k below Ptr a _ _ (λ access. by_test access.loc v (is_marked v || not (lies_in (heap lim) v)))))
    where
      s' : Current
      s' = record { frame = record s.frame { index = k }; below = below; gives = s.gives; place = s.place }

      by_test : (loc v : ℕ) (t : Bool)
          → Both (if t then Goes (on s) else Wants s.place (requests.Note loc v) (λ z. on s))
          (if t then Goes (on s') else Wants s.place (requests.Note loc v) (λ z. on s'))
      by_test loc v true = next
      by_test loc v false = (refl, refl, λ z. next)

  -- THE INSTRUCTION AT HAND

  module _ (quiet : IsQuiet m) (s : Current) (i : Instr)
      (stands : slice_get (code_at m s.frame) s.frame.index ≡ Some i) (there : AllThere m s.below)
      (known : IsThere m s.frame) where
    -- where the next instruction stands, behind no note
    goes_on : notes_behind i.op ≡ []
        → shifted (code_at m s.frame) (suc s.frame.index) ≡ suc (shifted (code_at m s.frame) s.frame.index)
    goes_on e =
        next_shifted (code_at m s.frame) s.frame.index i stands
        ∙ ap (λ (notes : List Instr). suc (past notes (shifted (code_at m s.frame) s.frame.index))) e

    -- at the next instruction, where names stand for this and so many words are taken
    next_both : notes_behind i.op ≡ [] → (env : Environment) (taken : ℕ)
        → Follows m (behind s (record s.frame { env = env; taken = taken }))
        (behind (twin s) (record (moved m s.frame) { env = env; taken = taken }))
    next_both e env taken = (
      there,
      ap (λ (n : ℕ). Runs (record s.frame { index = n; env = env; taken = taken }) (all_moved m s.below))
          (sym (goes_on e)),
    )

    -- behind what stores, or may
    after_both : (ty : Scalar) (at value : Value) → notes_behind i.op ≡ note_of ty at value → (env : Environment)
        → Follows m (after_store c s ty at value (record s.frame { env = env }))
        (after_store d (twin s) ty at value (record (moved m s.frame) { env = env }))
    after_both I1 at value e env = next_both e env s.frame.taken
    after_both I8 at value e env = next_both e env s.frame.taken
    after_both I16 at value e env = next_both e env s.frame.taken
    after_both I32 at value e env = next_both e env s.frame.taken
    after_both I64 at value e env = next_both e env s.frame.taken
    after_both Ptr at value e env = (there, refl, i, stands, e)

    rmw_both : (op : RmwOp) (ty : Scalar) (at value : Value) → notes_behind i.op ≡ notes_behind (Rmw op at ty value)
        → (env : Environment)
        → Follows m (after_rmw c s op ty at value (record s.frame { env = env }))
        (after_rmw d (twin s) op ty at value (record (moved m s.frame) { env = env }))
    rmw_both Xchg ty at value e env = after_both ty at value e env
    rmw_both Add ty at value e env = next_both e env s.frame.taken
    rmw_both Sub ty at value e env = next_both e env s.frame.taken
    rmw_both And ty at value e env = next_both e env s.frame.taken
    rmw_both Or ty at value e env = next_both e env s.frame.taken
    rmw_both Xor ty at value e env = next_both e env s.frame.taken
    rmw_both Umax ty at value e env = next_both e env s.frame.taken
    rmw_both Umin ty at value e env = next_both e env s.frame.taken

    abbrev k : ℕ
    k = shifted (code_at m s.frame) s.frame.index

    abbrev cs : List Caller
    cs = all_moved m s.below

    computes_both : notes_behind i.op ≡ [] → (r : Result ℕ ArithFault) → Both (computes s r) (computes (twin s) r)
    computes_both e (Ok n) = next_both e (bound s.gives 0 n s.frame.env) s.frame.taken
    computes_both e (Err fault) = (refl, refl)

    allocates_both : notes_behind i.op ≡ [] → (words : ℕ) → Both (allocates c s words) (allocates d (twin s) words)
    allocates_both e words = by_test (nat_le (s.frame.taken + words) (stack thread).count)
      where
        env : Environment
        env = bound s.gives 0 ((stack thread).start + 8 * s.frame.taken) s.frame.env

        by_test : (t : Bool)
            → Both (if t then Goes (behind s (record s.frame { env = env; taken = s.frame.taken + words }))
            else traps s kinds.StackLimit)
            (if t then Goes (behind (twin s) (record (moved m s.frame) { env = env; taken = s.frame.taken + words }))
            else traps (twin s) kinds.StackLimit)
        by_test true = next_both e env (s.frame.taken + words)
        by_test false = (refl, refl)

    -- EDGES

    edge_both : (label : Name) → Both (goes_to c s label) (goes_to d (twin s) label)
    edge_both label =
        subst (λ o. Both (goes_to c s label) (arrives (twin s) label (o >>= (λ (b : Block).
        phi_values d s.frame.env s.frame.block b.code)))) (sym found)
        (by_block (block_labelled m s.frame.function label))
      where
        found : block_labelled (noted m) s.frame.function label
            ≡ option_map noted_block (block_labelled m s.frame.function label)
        found =
            ap (λ (bs : List Block). block_among bs label) (blocks_noted m s.frame.function)
            ∙ block_noted (blocks_in (slice_get m.functions s.frame.function)) label

        by_values : (o : Option Values) → Both (arrives s label o) (arrives (twin s) label o)
        by_values None = tt
        by_values (Some values) = (there, refl)

        by_block : (o : Option Block)
            → Both (arrives s label (o >>= (λ (b : Block). phi_values c s.frame.env s.frame.block b.code)))
            (arrives (twin s) label (option_map noted_block o >>= (λ (b : Block).
            phi_values d s.frame.env s.frame.block b.code)))
        by_block None = tt
        by_block (Some b) =
            subst (λ o. Both (arrives s label (phi_values c s.frame.env s.frame.block b.code))
            (arrives (twin s) label o)) (sym (phis_same m lim thread s.frame.env s.frame.block b.code))
            (by_values (phi_values c s.frame.env s.frame.block b.code))

    -- CALLS AND RETURNS

    returns_both : (value : ReturnValue) (below : List Caller) → AllThere m below
        → Both (returns s value below) (returns (twin s) value (all_moved m below))
    returns_both value [] all = (refl, refl)
    returns_both value (caller ∷ callers) all = (all.1, refl)

    entered_both : notes_behind i.op ≡ [] → (args : List Operand) (n : ℕ) (f : Function)
        → Both (entered c s args n f) (entered d (twin s) args n (noted_function f))
    entered_both e args n f =
        subst (λ o. Both (entered c s args n f) (given_by o (enters d (twin s) n (noted_function f))))
        (sym (arguments_same m lim thread s.frame.env f.params args))
        (given_too (arguments c s.frame.env f.params args) (enters c s n f) (enters d (twin s) n (noted_function f))
        by_values)
      where
        callers : waiting (twin s) ≡ all_moved m (waiting s)
        callers =
            ap (λ (j : ℕ). record { frame = record s.frame { index = j }; gives = s.gives } ∷ all_moved m s.below)
            (sym (goes_on e))

        room : has_room (noted m) (waiting (twin s)) (noted_function f) ≡ has_room m (waiting s) f
        room =
            ap (λ (xs : List Caller). has_room (noted m) xs (noted_function f)) callers
            ∙ room_both m (waiting s) f (known, there)

        by_values : (values : Values)
            → Both (enters c s n f values) (enters d (twin s) n (noted_function f) values)
        by_values values =
            subst (λ t. Both (enters c s n f values)
            (if t then Goes (Runs (first_frame n (noted_function f) values s.frame.taken) (waiting (twin s)))
            else traps (twin s) kinds.StackLimit)) (sym room) (by_room (has_room m (waiting s) f))
          where
            by_room : (t : Bool)
                → Both (if t then Goes (Runs (first_frame n f values s.frame.taken) (waiting s))
                else traps s kinds.StackLimit)
                (if t then Goes (Runs (first_frame n (noted_function f) values s.frame.taken) (waiting (twin s)))
                else traps (twin s) kinds.StackLimit)
            by_room true = (
              (known, there),
              ap (λ (name : Name). Runs (record (first_frame n f values s.frame.taken) { block = name }) (waiting
                  (twin s)))
                  (entry_noted f.blocks)
                  ∙ ap (λ (xs : List Caller). Runs (first_frame n f values s.frame.taken) xs) callers,
            )
            by_room false = (refl, refl)

    -- EXTERNALS

    one_both : (args : List Operand) (go go' : Operand → Outcome State) → ((o : Operand) → Both (go o) (go' o))
        → Both (one_of args go) (one_of args go')
    one_both [] go go' h = tt
    one_both (o ∷ []) go go' h = h o
    one_both (o ∷ p ∷ rest) go go' h = tt

    two_both : (args : List Operand) (go go' : Operand → Operand → Outcome State)
        → ((o p : Operand) → Both (go o p) (go' o p)) → Both (two_of args go) (two_of args go')
    two_both [] go go' h = tt
    two_both (o ∷ rest) go go' h = one_both rest (go o) (go' o) (h o)

    four_both : (args : List Operand) (go go' : Operand → Operand → Operand → Operand → Outcome State)
        → ((o p q r : Operand) → Both (go o p q r) (go' o p q r)) → Both (four_of args go) (four_of args go')
    four_both [] go go' h = tt
    four_both (o ∷ []) go go' h = tt
    four_both (o ∷ p ∷ rest) go go' h = two_both rest (go o p) (go' o p) (h o p)

    mallocs_both : notes_behind i.op ≡ [] → (bytes : ℕ) → Both (mallocs s bytes) (mallocs (twin s) bytes)
    mallocs_both e bytes = by_test (nat_lt 4095 bytes)
      where
        next : (v : ℕ) → Follows m (results s v) (results (twin s) v)
        next v = next_both e (bound s.gives 0 v s.frame.env) s.frame.taken

        by_test : (t : Bool)
            → Both (if t then Goes (results s 0)
            else Wants s.place (requests.Malloc bytes) (λ address. results s address))
            (if t then Goes (results (twin s) 0)
            else Wants s.place (requests.Malloc bytes) (λ address. results (twin s) address))
        by_test true = next 0
        by_test false = (refl, refl, next)

    frees_both : notes_behind i.op ≡ [] → (address : ℕ) → Both (frees c s address) (frees d (twin s) address)
    frees_both e address = by_null (address == 0)
      where
        next : Follows m (on s) (on (twin s))
        next = next_both e s.frame.env s.frame.taken

        by_heap : (t : Bool)
            → Both (if t then Wants s.place (requests.Free address) (λ z. on s) else traps s (kinds.BadFree address))
            (if t then Wants s.place (requests.Free address) (λ z. on (twin s))
            else traps (twin s) (kinds.BadFree address))
        by_heap true = (refl, refl, λ z. next)
        by_heap false = (refl, refl)

        by_mark : (t : Bool)
            → Both (if t then traps s (kinds.MarkedFree address)
            else (if lies_in (heap lim) address && address % 8 == 0
            then Wants s.place (requests.Free address) (λ z. on s) else traps s (kinds.BadFree address)))
            (if t then traps (twin s) (kinds.MarkedFree address)
            else (if lies_in (heap lim) address && address % 8 == 0
            then Wants s.place (requests.Free address) (λ z. on (twin s)) else traps (twin s) (kinds.BadFree address)))
        by_mark true = (refl, refl)
        by_mark false = by_heap (lies_in (heap lim) address && address % 8 == 0)

        by_null : (t : Bool)
            → Both (if t then Goes (on s) else (if is_marked address then traps s (kinds.MarkedFree address)
            else (if lies_in (heap lim) address && address % 8 == 0
            then Wants s.place (requests.Free address) (λ z. on s) else traps s (kinds.BadFree address))))
            (if t then Goes (on (twin s)) else (if is_marked address then traps (twin s) (kinds.MarkedFree address)
            else (if lies_in (heap lim) address && address % 8 == 0
            then Wants s.place (requests.Free address) (λ z. on (twin s)) else traps (twin s) (kinds.BadFree address))))
        by_null true = next
        by_null false = by_mark (is_marked address)

    -- the number of the function that a value names
    function_both : (v : Value) (go go' : ℕ → Outcome State) → ((n : ℕ) → Both (go n) (go' n))
        → Both (given_by (function_in c v) go) (given_by (function_in d v) go')
    function_both (Int n) go go' h = tt
    function_both Null go go' h = tt
    function_both Undef go go' h = tt
    function_both (Local name) go go' h = tt
    function_both (Global name) go go' h = by_number (function_number m name) refl
      where
        by_number : (o : Option ℕ) → function_number m name ≡ o
            → Both (given_by o go) (given_by (function_number (noted m) name) go')
        by_number None e = tt
        by_number (Some n) e =
            subst (λ o. Both (go n) (given_by o go')) (sym (number_kept m name n e)) (h n)

    creates_both : notes_behind i.op ≡ [] → (at function argument : Operand)
        → Both (creates c s at function argument) (creates d (twin s) at function argument)
    creates_both e at function argument =
        given_both s k cs at.ty at.value _ _ (λ a. given_both s k cs argument.ty argument.value _ _ (λ x.
        function_both function.value _ _ (λ f. located_both s k cs Ptr a _ _ (λ access.
        (refl, refl, λ answer. next_both e (bound s.gives 0 answer s.frame.env) s.frame.taken)))))

    asks_both : notes_behind i.op ≡ [] → (args : List Operand) (external : External)
        → Both (asks c s args external) (asks d (twin s) args external)
    asks_both e args Malloc =
        one_both args _ _ (λ n. given_both s k cs n.ty n.value _ _ (λ bytes. mallocs_both e bytes))
    asks_both e args Free =
        one_both args _ _ (λ p. given_both s k cs p.ty p.value _ _ (λ address. frees_both e address))
    asks_both e args PrintI64 =
        one_both args _ _ (λ v. given_both s k cs v.ty v.value _ _ (λ n.
        (refl, refl, λ z. next_both e s.frame.env s.frame.taken)))
    asks_both e args PthreadCreate =
        four_both args _ _ (λ at attributes function argument. creates_both e at function argument)
    asks_both e args PthreadJoin =
        two_both args _ _ (λ t value. given_both s k cs t.ty t.value _ _ (λ n.
        (refl, refl, λ answer. next_both e (bound s.gives 0 answer s.frame.env) s.frame.taken)))
    asks_both e args DsNote =
        two_both args _ _ (λ at value.
        notes_both s k cs at.value value.value (next_both e s.frame.env s.frame.taken))

    calls_both : notes_behind i.op ≡ [] → (args : List Operand) (name : Name)
        → Both (calls c s args (callee_of m name)) (calls d (twin s) args (callee_of (noted m) name))
    calls_both e args name = by_callee (callee_noted m name)
      where
        by_noted : (callee : Callee) → Both (calls c s args callee) (calls d (twin s) args (noted_callee callee))
        by_noted (Defined n f) = entered_both e args n f
        by_noted (Declared external) = asks_both e args external
        by_noted Unknown = tt

        by_callee : (callee_of m name ≡ Unknown) ⊎ (callee_of (noted m) name ≡ noted_callee (callee_of m name))
            → Both (calls c s args (callee_of m name)) (calls d (twin s) args (callee_of (noted m) name))
        by_callee (inl unknown) =
            subst (λ callee. Both (calls c s args callee) (calls d (twin s) args (callee_of (noted m) name)))
            (sym unknown) tt
        by_callee (inr same) =
            subst (λ callee. Both (calls c s args (callee_of m name)) (calls d (twin s) args callee)) (sym same)
            (by_noted (callee_of m name))

    -- ONE INSTRUCTION

    offset_both : (ty : Ty) (indices : List Operand)
        → offset_by d s.frame.env ty indices ≡ offset_by c s.frame.env ty indices
    offset_both ty indices =
        ap (λ (o : Option (List ℕ)). address_steps m.structs ty indices
        >>= (λ (steps : List Step). option_map (bytes_added steps) o)) (indices_same m lim thread s.frame.env indices)

    pub act_both : (op : Op) → i.op ≡ op → Both (act c s op) (act d (twin s) op)
    act_both (Bin op ty a b) is =
        given_both s k cs ty a _ _ (λ x. given_both s k cs ty b _ _ (λ y.
        computes_both (ap notes_behind is) (outcome op (width ty) x y)))
    act_both (Icmp cond ty a b) is =
        given_both s k cs ty a _ _ (λ x. given_both s k cs ty b _ _ (λ y.
        next_both (ap notes_behind is) (bound s.gives 0 (truth (holds cond (width ty) x y)) s.frame.env) s.frame.taken))
    act_both (Select cond ty a b) is =
        given_both s k cs I1 cond _ _ (λ n. given_both s k cs ty a _ _ (λ x. given_both s k cs ty b _ _ (λ y.
        next_both (ap notes_behind is) (bound s.gives 0 (if n == 0 then y else x) s.frame.env) s.frame.taken)))
    act_both (Cast op from a to) is =
        given_both s k cs from a _ _ (λ x.
        next_both (ap notes_behind is) (bound s.gives 0 (converted op from to x) s.frame.env) s.frame.taken)
    act_both (Alloca ty None) is = allocates_both (ap notes_behind is) (words_for c ty 1)
    act_both (Alloca ty (Some o)) is =
        given_both s k cs o.ty o.value _ _ (λ n. allocates_both (ap notes_behind is) (words_for c ty n))
    act_both (Load ty at) is =
        given_both s k cs Ptr at _ _ (λ a. located_both s k cs ty a _ _ (λ access. (
          refl,
          refl,
          λ word.
              next_both (ap notes_behind is) (bound s.gives 0 (part access word) s.frame.env) s.frame.taken,
        )))
    act_both (Store ty value at) is =
        given_both s k cs ty value _ _ (λ v. given_both s k cs Ptr at _ _ (λ a. located_both s k cs ty a _ _ (λ access.
        (refl, refl, λ z. after_both ty at value (ap notes_behind is) s.frame.env))))
    act_both (Gep ty base indices) is =
        given_both s k cs Ptr base _ _ (λ a.
        subst (λ o. Both (given_by (offset_by c s.frame.env ty indices) (λ bytes.
        Goes (results s ((a + bytes) % 2 ^ 64)))) (given_by o (λ bytes. Goes (results (twin s) ((a + bytes) % 2 ^
        64)))))
        (sym (offset_both ty indices))
        (given_too (offset_by c s.frame.env ty indices) _ _ (λ bytes.
        next_both (ap notes_behind is) (bound s.gives 0 ((a + bytes) % 2 ^ 64) s.frame.env) s.frame.taken)))
    act_both (Call result callee args) is = calls_both (ap notes_behind is) args callee
    act_both (Phi ty arms) is = next_both (ap notes_behind is) s.frame.env s.frame.taken
    act_both (Rmw op at ty value) is =
        given_both s k cs Ptr at _ _ (λ a. given_both s k cs ty value _ _ (λ v. located_both s k cs ty a _ _ (λ
        access. (
          refl,
          refl,
          λ word.
              rmw_both op ty at value (ap notes_behind is) (bound s.gives 0 (part access word) s.frame.env),
        ))))
    act_both (Cmpxchg at ty expected new) is =
        given_both s k cs Ptr at _ _ (λ a. given_both s k cs ty expected _ _ (λ x. given_both s k cs ty new _ _ (λ v.
        located_both s k cs ty a _ _ (λ access. (
          refl,
          refl,
          λ word.
              after_both ty at new (ap notes_behind is) (bound s.gives 1 (truth (part access word == x))
              (bound s.gives 0 (part access word) s.frame.env)),
        )))))
    act_both (Extract ty of index) is =
        given_too (part_in s.frame.env of index) _ _ (λ x.
        next_both (ap notes_behind is) (bound s.gives 0 x s.frame.env) s.frame.taken)
    act_both Fence is = next_both (ap notes_behind is) s.frame.env s.frame.taken
    act_both (Ret None) is = returns_both None s.below there
    act_both (Ret (Some o)) is =
        given_both s k cs o.ty o.value _ _ (λ v. returns_both (Some (o.ty, v)) s.below there)
    act_both (Br label) is = edge_both label
    act_both (CondBr cond first second) is =
        given_both s k cs I1 cond _ _ (λ n. edge_both (if n == 0 then second else first))
    act_both (Switch ty value other cases) is =
        given_both s k cs ty value _ _ (λ n. edge_both (case_for n cases other))
    act_both Unreachable is = (refl, refl)
