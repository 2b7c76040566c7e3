-- What comes of an instruction of an accepted module, and of the note behind it: what it asks has a row.
use Rattle.std.proofs.Common.{◌≡◌, ℕ, ◌+◌, ◌*◌, ◌<◌, Bool, true, false, ◌==◌, ◌||◌, if◌then◌else◌}
use Rattle.std.proofs.Common.{not, suc, nat_le, nat_lt, List, [], ◌∷◌, ◌++◌, Option, Some, None, slice_get}
use Rattle.std.proofs.Common.{refl, sym, subst, arith, inl, inr}
use Rattle.std.proofs.lemmas.Bool.{and_from, lt-ltb}
use Rattle.std.proofs.lemmas.Bool.Decides.{nat_tests}
use Rattle.std.specs.Prelude.{Result, Ok, Err, All}
use Rattle.ds_ast.specs.declared.name.Name.{Name}
use Rattle.ds_ast.specs.declared.ty.Scalar.{Scalar}
use Rattle.ds_ast.specs.declared.ty.Scalar.TheVariants.{I1, Ptr}
use Rattle.ds_ast.specs.declared.ty.Ty.{Ty}
use Rattle.ds_ast.specs.declared.value.Value.{Value}
use Rattle.ds_ast.specs.declared.operand.Operand.{Operand}
use Rattle.ds_ast.specs.declared.instr.Op.{Op}
use Rattle.ds_ast.specs.declared.instr.Op.TheVariants.{Bin, Icmp, Select, Cast, Alloca, Load, Store, Gep, Call, Phi}
use Rattle.ds_ast.specs.declared.instr.Op.TheVariants.{Rmw, Cmpxchg, Extract, Fence, Ret, Br, CondBr, Switch}
use Rattle.ds_ast.specs.declared.instr.Op.TheVariants.{Unreachable}
use Rattle.ds_ast.specs.declared.module.Module.{Module}
use Rattle.ds_ast.specs.declared.module.Function.{Function}
use Rattle.ds_ast.specs.declared.module.Block.{Block}
use Rattle.ds_ast.specs.Bounds.{width}
use Rattle.ds_arith.specs.declared.fault.ArithFault.{ArithFault}
use Rattle.ds_arith.specs.Operations.{outcome}
use Rattle.ds_map.specs.Bounds.{Bounds}
use Rattle.ds_map.specs.Blocks.{is_marked, first_above}
use Rattle.ds_map.specs.Regions.{stack, heap, lies_in, program_words}
use Rattle.ds_shape.specs.Site.{function_number}
use Rattle.ds_shape.specs.Accepted.{IsGoodExternal}
use Rattle.ds_shape.specs.Externals.{HasOneOf, externals as signatures}
use Rattle.ds_plain.specs.declared.Access.{Access}
use Rattle.ds_plain.specs.declared.FreeAt.TheVariants.{LoadPage}
use Rattle.ds_plain.specs.declared.NoteAt.TheVariants as notes
use Rattle.ds_plain.specs.declared.Position.TheVariants as positions
use Rattle.ds_plain.specs.declared.Position.TheVariants.{NoRow}
use Rattle.ds_plain.specs.declared.TrapKind.TheVariants as kinds
use Rattle.ds_plain.specs.declared.Request.TheVariants as requests
use Rattle.ds_plain.specs.Asking.{has_row}
use Rattle.ds_plain.specs.Behaviour.{Asks, Outcome, Goes, Wants, Stops, Stuck}
use Rattle.ds_plain.specs.Freeing.{is_freeable}
use Rattle.ds_plain.specs.Table.{looking_for, position_of, is_over}
use Rattle.ds_meaning.specs.Values.{Values, part_in}
use Rattle.ds_meaning.specs.Frames.{Context, Caller, State, Runs, first_frame, has_room}
use Rattle.ds_meaning.specs.Steps.{Current, given, given_by, behind, on, with_result, results, traps}
use Rattle.ds_meaning.specs.Memory.{located, located_by, access_at, noted, notes_at, allocates, words_for, offset_by}
use Rattle.ds_meaning.specs.Control.{arrives, goes_to, case_for, waiting, enters, arguments}
use Rattle.ds_meaning.specs.Control.{ReturnValue, returns}
use Rattle.ds_meaning.specs.Callees.{External, Malloc, Free, PrintI64, PthreadCreate, PthreadJoin, DsNote}
use Rattle.ds_meaning.specs.Callees.{Callee, Defined, Declared, Unknown}
use Rattle.ds_meaning.specs.Callees.{externals, external_among, callee_of, callee_at, callee_by, callee_numbered}
use Rattle.ds_meaning.specs.Calls.{mallocs, frees, function_in, creates, one_of, two_of, four_of, asks, calls}
use Rattle.ds_meaning.specs.Meaning.{computes, act}
use Rattle.ds_meaning.specs.Program.{context}
use Rattle.ds_row_laws.proofs.Lists.{item_has}
use Rattle.ds_row_laws.proofs.Located.{AccessWithin, access_within}

-- what is asked has a row for a thread that looks for blocks there
abbrev pub Fits : Bounds → (cursors : List ℕ) → Outcome State → Type 0
Fits lim cursors (Goes s) = Unit {0}
Fits lim cursors (Wants place request answered) = has_row lim cursors (Asks 1 place request) ≡ true
Fits lim cursors (Stops place stop) = has_row lim cursors (Asks 1 place (requests.Stop stop)) ≡ true
Fits lim cursors Stuck = Unit {0}

-- a malloc has a row, since the last size is more than 4,095 bytes
malloc_row : (lim : Bounds) (cursors : List ℕ) (bytes : ℕ) → nat_lt 4095 bytes ≡ false
    → not (is_over (position_of lim cursors (requests.Malloc bytes))) ≡ true
malloc_row lim cursors bytes few =
    found 0 (2 ∷ 4 ∷ 6 ∷ 8 ∷ 12 ∷ 16 ∷ 24 ∷ 32 ∷ 48 ∷ 64 ∷ 96 ∷ 128 ∷ 192 ∷ 256 ∷ [])
  where
    found : (class : ℕ) (sizes : List ℕ)
        → not (is_over (looking_for cursors (first_above bytes class (sizes ++ 512 ∷ [])))) ≡ true
    found class [] = by_test (nat_lt bytes (8 * 512)) refl
      where
        by_test : (t : Bool) → nat_lt bytes (8 * 512) ≡ t
            → not (is_over (looking_for cursors (if t then Some class else None))) ≡ true
        by_test true e = refl
        by_test false e = absurd (grind (arith, nat_tests))
    found class (words ∷ sizes) = by_test (nat_lt bytes (8 * words)) (found (suc class) sizes)
      where
        by_test : (t : Bool)
            → not (is_over (looking_for cursors (first_above bytes (suc class) (sizes ++ 512 ∷ [])))) ≡ true
            → not (is_over (looking_for cursors
            (if t then Some class else first_above bytes (suc class) (sizes ++ 512 ∷ [])))) ≡ true
        by_test true rec = refl
        by_test false rec = rec

-- so has a free of an address that is tested
free_row : (lim : Bounds) (cursors : List ℕ) (address : ℕ) → is_freeable lim address ≡ true
    → not (is_over (position_of lim cursors (requests.Free address))) ≡ true
free_row lim cursors address e =
    subst (λ t. not (is_over (if t then positions.Free (LoadPage address) else NoRow)) ≡ true) (sym e) refl

-- so has a note of a value of the heap at a location
note_row : (lim : Bounds) (cursors : List ℕ) (loc value : ℕ) → loc < program_words lim
    → lies_in (heap lim) value ≡ true
    → not (is_over (position_of lim cursors (requests.Note loc value))) ≡ true
note_row lim cursors loc value there e =
    subst (λ t. not (is_over (if t then positions.Note (notes.LoadPage loc value) else NoRow)) ≡ true)
    (sym (and_from (nat_lt loc (program_words lim)) (lies_in (heap lim) value)
    (lt-ltb loc (program_words lim) there) e)) refl

-- a value that is not left out lies in the heap
left_in : (marked inside : Bool) → (marked || not inside) ≡ false → inside ≡ true
left_in true inside e = absurd (cc (e))
left_in false true e = refl
left_in false false e = absurd (cc (e))

module _ (noting : Bool) (m : Module) (lim : Bounds) (cursors : List ℕ) (thread : ℕ) (s : Current) where
  abbrev c : Context
  c = context noting lim m thread

  -- OPERANDS AND ACCESSES

  given_by_fits : {A : Type 0} (o : Option A) (go : A → Outcome State) → ((x : A) → Fits lim cursors (go x))
      → Fits lim cursors (given_by o go)
  given_by_fits None go h = tt
  given_by_fits (Some x) go h = h x

  given_fits : (ty : Scalar) (v : Value) (go : ℕ → Outcome State) → ((x : ℕ) → Fits lim cursors (go x))
      → Fits lim cursors (given c s ty v go)
  given_fits ty v go h = given_by_fits _ go h

  located_fits : (ty : Scalar) (a : ℕ) (go : Access → Outcome State)
      → ((access : Access) → access.loc < program_words lim → Fits lim cursors (go access))
      → Fits lim cursors (located c s ty a go)
  located_fits ty a go h = by_mark (is_marked a)
    where
      by_place : (o : Option Access) → AccessWithin lim o → Fits lim cursors (located_by s a o go)
      by_place None there = refl
      by_place (Some access) there = h access there

      by_mark : (t : Bool)
          → Fits lim cursors (if t then traps s (kinds.UseAfterFree a) else located_by s a (access_at lim ty a) go)
      by_mark true = refl
      by_mark false = by_place (access_at lim ty a) (access_within lim ty a)

  -- NOTES

  noted_fits : (loc value : ℕ) → loc < program_words lim → Fits lim cursors (noted c s loc value)
  noted_fits loc value there = by_test (is_marked value || not (lies_in (heap lim) value)) refl
    where
      by_test : (t : Bool) → (is_marked value || not (lies_in (heap lim) value)) ≡ t
          → Fits lim cursors (if t then Goes (on s) else Wants s.place (requests.Note loc value) (λ z. on s))
      by_test true e = tt
      by_test false e =
          note_row lim cursors loc value there (left_in (is_marked value) (lies_in (heap lim) value) e)

  pub notes_fits : (at value : Value) → Fits lim cursors (notes_at c s at value)
  notes_fits at value =
      given_fits Ptr at _ (λ a. given_fits Ptr value _ (λ v. located_fits Ptr a _ (λ access there.
      noted_fits access.loc v there)))

  computes_fits : (o : Result ℕ ArithFault) → Fits lim cursors (computes s o)
  computes_fits (Ok n) = tt
  computes_fits (Err fault) = refl

  allocates_fits : (words : ℕ) → Fits lim cursors (allocates c s words)
  allocates_fits words = by_test (nat_le (s.frame.taken + words) (stack thread).count)
    where
      by_test : (t : Bool)
          → Fits lim cursors (if t
          then Goes (behind s (record (with_result s ((stack thread).start + 8 * s.frame.taken)) {
            taken = s.frame.taken + words;
          })) else traps s kinds.StackLimit)
      by_test true = tt
      by_test false = refl

  -- BRANCHES AND RETURNS

  arrives_fits : (label : Name) (o : Option Values) → Fits lim cursors (arrives s label o)
  arrives_fits label None = tt
  arrives_fits label (Some values) = tt

  goes_fits : (label : Name) → Fits lim cursors (goes_to c s label)
  goes_fits label = arrives_fits label _

  returns_fits : (value : ReturnValue) (cs : List Caller) → Fits lim cursors (returns s value cs)
  returns_fits value [] = refl
  returns_fits value (d ∷ ds) = tt

  -- CALLS

  enters_fits : (n : ℕ) (f : Function) (vs : Values) → Fits lim cursors (enters c s n f vs)
  enters_fits n f vs = by_test (has_room m (waiting s) f)
    where
      by_test : (t : Bool)
          → Fits lim cursors (if t then Goes (Runs (first_frame n f vs s.frame.taken) (waiting s))
          else traps s kinds.StackLimit)
      by_test true = tt
      by_test false = refl

  one_fits : (args : List Operand) (go : Operand → Outcome State) → ((o : Operand) → Fits lim cursors (go o))
      → Fits lim cursors (one_of args go)
  one_fits [] go h = tt
  one_fits (o ∷ []) go h = h o
  one_fits (o ∷ p ∷ rest) go h = tt

  print_fits : (args : List Operand) → Fits lim cursors (asks c s args PrintI64)
  print_fits args = one_fits args _ (λ v. given_fits v.ty v.value _ (λ n. refl))

  mallocs_fits : (bytes : ℕ) → Fits lim cursors (mallocs s bytes)
  mallocs_fits bytes = by_test (nat_lt 4095 bytes) refl
    where
      by_test : (t : Bool) → nat_lt 4095 bytes ≡ t
          → Fits lim cursors (if t then Goes (results s 0)
          else Wants s.place (requests.Malloc bytes) (λ address. results s address))
      by_test true e = tt
      by_test false e = malloc_row lim cursors bytes e

  malloc_fits : (args : List Operand) → Fits lim cursors (asks c s args Malloc)
  malloc_fits args = one_fits args _ (λ n. given_fits n.ty n.value _ mallocs_fits)

  frees_fits : (address : ℕ) → Fits lim cursors (frees c s address)
  frees_fits address = by_null (address == 0)
    where
      by_test : (t : Bool) → is_freeable lim address ≡ t
          → Fits lim cursors (if t then Wants s.place (requests.Free address) (λ z. on s)
          else traps s (kinds.BadFree address))
      by_test true e = free_row lim cursors address e
      by_test false e = refl

      by_mark : (t : Bool)
          → Fits lim cursors (if t then traps s (kinds.MarkedFree address) else
          (if is_freeable lim address then Wants s.place (requests.Free address) (λ z. on s)
          else traps s (kinds.BadFree address)))
      by_mark true = refl
      by_mark false = by_test (is_freeable lim address) refl

      by_null : (t : Bool)
          → Fits lim cursors (if t then Goes (on s) else
          (if is_marked address then traps s (kinds.MarkedFree address) else
          (if is_freeable lim address then Wants s.place (requests.Free address) (λ z. on s)
          else traps s (kinds.BadFree address))))
      by_null true = tt
      by_null false = by_mark (is_marked address)

  free_fits : (args : List Operand) → Fits lim cursors (asks c s args Free)
  free_fits args = one_fits args _ (λ p. given_fits p.ty p.value _ frees_fits)

  two_fits : (args : List Operand) (go : Operand → Operand → Outcome State)
      → ((o p : Operand) → Fits lim cursors (go o p)) → Fits lim cursors (two_of args go)
  two_fits [] go h = tt
  two_fits (o ∷ rest) go h = one_fits rest (go o) (h o)

  four_fits : (args : List Operand) (go : Operand → Operand → Operand → Operand → Outcome State)
      → ((o p q r : Operand) → Fits lim cursors (go o p q r)) → Fits lim cursors (four_of args go)
  four_fits [] go h = tt
  four_fits (o ∷ []) go h = tt
  four_fits (o ∷ p ∷ rest) go h = two_fits rest (go o p) (h o p)

  creates_fits : (at attributes function argument : Operand) → Fits lim cursors (creates c s at function argument)
  creates_fits at attributes function argument =
      given_fits at.ty at.value _ (λ a. given_fits argument.ty argument.value _ (λ x.
      given_by_fits (function_in c function.value) _ (λ f. located_fits Ptr a _ (λ access there. refl))))

  -- the external can be called
  abbrev Served : External → Type 0
  Served Malloc = Unit {0}
  Served Free = Unit {0}
  Served PrintI64 = Unit {0}
  Served PthreadCreate = Unit {0}
  Served PthreadJoin = Unit {0}
  Served DsNote = ⊥

  -- what is called, where it is only declared, is such an external
  abbrev CallsServed : Callee → Type 0
  CallsServed (Defined number f) = Unit {0}
  CallsServed (Declared external) = Served external
  CallsServed Unknown = Unit {0}

  asks_fits : (args : List Operand) (external : External) → Served external
      → Fits lim cursors (asks c s args external)
  asks_fits args Malloc h = malloc_fits args
  asks_fits args Free h = free_fits args
  asks_fits args PrintI64 h = print_fits args
  asks_fits args PthreadCreate h = four_fits args _ creates_fits
  asks_fits args PthreadJoin h =
      two_fits args _ (λ number value. given_fits number.ty number.value _ (λ n. refl))
  asks_fits args DsNote h = absurd h

  calls_fits : (args : List Operand) (k : Callee) → CallsServed k → Fits lim cursors (calls c s args k)
  calls_fits args (Defined number f) h =
      given_by_fits (arguments c s.frame.env f.params args) (enters c s number f) (λ vs. enters_fits number f vs)
  calls_fits args (Declared external) h = asks_fits args external h
  calls_fits args Unknown h = tt

  served : (f : Function) → HasOneOf signatures f → CallsServed (external_among externals f.name)
  served f (inl h) = subst (λ x. CallsServed (external_among externals x)) (sym h.called) tt
  served f (inr (inl h)) = subst (λ x. CallsServed (external_among externals x)) (sym h.called) tt
  served f (inr (inr (inl h))) = subst (λ x. CallsServed (external_among externals x)) (sym h.called) tt
  served f (inr (inr (inr (inl h)))) = subst (λ x. CallsServed (external_among externals x)) (sym h.called) tt
  served f (inr (inr (inr (inr (inl h))))) = subst (λ x. CallsServed (external_among externals x)) (sym h.called) tt
  served f (inr (inr (inr (inr (inr h))))) = absurd h

  calls_served : All IsGoodExternal m.functions → (name : Name) → CallsServed (callee_of m name)
  calls_served good name = by_number (function_number m name)
    where
      by_blocks : (n : ℕ) (f : Function) → IsGoodExternal f → (bs : List Block) → f.blocks ≡ bs
          → CallsServed (callee_by n f bs)
      by_blocks n f h [] e = served f (h.1 e)
      by_blocks n f h (b ∷ bs) e = tt

      by_function : (n : ℕ) (o : Option Function) → slice_get m.functions n ≡ o → CallsServed (callee_at n o)
      by_function n None e = tt
      by_function n (Some f) e = by_blocks n f (item_has IsGoodExternal m.functions n f e good) f.blocks refl

      by_number : (o : Option ℕ) → CallsServed (callee_numbered m o)
      by_number None = tt
      by_number (Some n) = by_function n (slice_get m.functions n) refl

  -- INSTRUCTIONS

  alloca_fits : (ty : Ty) (count : Option Operand) → Fits lim cursors (act c s (Alloca ty count))
  alloca_fits ty None = allocates_fits (words_for c ty 1)
  alloca_fits ty (Some o) = given_fits o.ty o.value _ (λ n. allocates_fits (words_for c ty n))

  ret_fits : (value : Option Operand) → Fits lim cursors (act c s (Ret value))
  ret_fits None = returns_fits None s.below
  ret_fits (Some o) = given_fits o.ty o.value _ (λ v. returns_fits (Some (o.ty, v)) s.below)

  pub act_fits : All IsGoodExternal m.functions → (op : Op) → Fits lim cursors (act c s op)
  act_fits good (Bin op ty a b) =
      given_fits ty a _ (λ x. given_fits ty b _ (λ y. computes_fits (outcome op (width ty) x y)))
  act_fits good (Icmp cond ty a b) = given_fits ty a _ (λ x. given_fits ty b _ (λ y. tt))
  act_fits good (Select cond ty a b) =
      given_fits I1 cond _ (λ n. given_fits ty a _ (λ x. given_fits ty b _ (λ y. tt)))
  act_fits good (Cast op from a to) = given_fits from a _ (λ x. tt)
  act_fits good (Alloca ty count) = alloca_fits ty count
  act_fits good (Load ty at) = given_fits Ptr at _ (λ a. located_fits ty a _ (λ access there. refl))
  act_fits good (Store ty value at) =
      given_fits ty value _ (λ v. given_fits Ptr at _ (λ a. located_fits ty a _ (λ access there. refl)))
  act_fits good (Gep ty base indices) =
      given_fits Ptr base _ (λ a. given_by_fits (offset_by c s.frame.env ty indices) _ (λ bytes. tt))
  act_fits good (Call result callee args) = calls_fits args (callee_of m callee) (calls_served good callee)
  act_fits good (Phi ty arms) = tt
  act_fits good (Rmw op at ty value) =
      given_fits Ptr at _ (λ a. given_fits ty value _ (λ v. located_fits ty a _ (λ access there. refl)))
  act_fits good (Cmpxchg at ty expected new) =
      given_fits Ptr at _ (λ a. given_fits ty expected _ (λ x. given_fits ty new _ (λ v.
      located_fits ty a _ (λ access there. refl))))
  act_fits good (Extract ty of index) = given_by_fits (part_in s.frame.env of index) _ (λ x. tt)
  act_fits form Fence = tt
  act_fits good (Ret value) = ret_fits value
  act_fits good (Br label) = goes_fits label
  act_fits good (CondBr cond first second) =
      given_fits I1 cond _ (λ n. goes_fits (if n == 0 then second else first))
  act_fits good (Switch ty value other cases) =
      given_fits ty value _ (λ n. goes_fits (case_for n cases other))
  act_fits form Unreachable = refl
