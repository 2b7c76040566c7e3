-- Each instruction at hand has a meaning, where its operands stand for values and it keeps its rule.
use Rattle.std.proofs.Common.{◌≡◌, ℕ, suc, ◌+◌, ◌*◌, ◌%◌, ◌^◌, Bool, true, false, not, ◌==◌, ◌&&◌, ◌||◌}
use Rattle.std.proofs.Common.{if◌then◌else◌, nat_lt, nat_le, List, [], ◌∷◌, length}
use Rattle.std.proofs.Common.{map, Option, Some, None, slice_get, codes}
use Rattle.std.proofs.Common.{refl, ap, sym, ◌∙◌, subst, arith, is_some, true≢false, inl, inr, ◌⊎◌}
use Rattle.std.specs.Prelude.{Result, Ok, Err, IsSome}
use Rattle.std.specs.Option.{option_map}
use Rattle.std.proofs.lemmas.List.{length-map}
use Rattle.ds_ast.specs.declared.name.Name.{Name}
use Rattle.ds_ast.specs.declared.name.Name.TheVariants.{Text}
use Rattle.ds_ast.specs.declared.ty.Scalar.{Scalar}
use Rattle.ds_ast.specs.declared.ty.Scalar.TheVariants.{I1, I64, Ptr}
use Rattle.ds_ast.specs.declared.ty.Ty.{Ty, Void, One, Struct, Array'}
use Rattle.ds_ast.specs.declared.value.Value.{Value}
use Rattle.ds_ast.specs.declared.value.Value.TheVariants.{Int, Null, Undef, Local, Global}
use Rattle.ds_ast.specs.declared.operand.Operand.{Operand}
use Rattle.ds_ast.specs.declared.words.RmwOp.{RmwOp}
use Rattle.ds_ast.specs.declared.instr.Op.{Op}
use Rattle.ds_ast.specs.declared.instr.Op.TheVariants.{Bin, Icmp, Select, Cast, Alloca, Load, Store, Gep, Call, Phi}
use Rattle.ds_ast.specs.declared.instr.Op.TheVariants.{Rmw, Cmpxchg, Extract, Fence, Ret, Br, CondBr, Switch}
use Rattle.ds_ast.specs.declared.instr.Op.TheVariants.{Unreachable}
use Rattle.ds_ast.specs.declared.module.Module.{Module}
use Rattle.ds_ast.specs.declared.module.Function.{Function}
use Rattle.ds_ast.specs.declared.module.Param.{Param}
use Rattle.ds_ast.specs.declared.module.Block.{Block}
use Rattle.ds_ast.specs.Bounds.{width, has_values, has_result, is_terminator}
use Rattle.ds_arith.specs.declared.fault.ArithFault.{ArithFault}
use Rattle.ds_arith.specs.Operations.{outcome}
use Rattle.ds_arith.specs.Comparisons.{holds}
use Rattle.ds_map.specs.Blocks.{is_marked}
use Rattle.ds_map.specs.Regions.{stack, heap, lies_in}
use Rattle.ds_shape.specs.declared.local.LocalType.TheVariants.{Plain, Pair}
use Rattle.ds_shape.specs.Address.{Step, address_steps, bytes_added}
use Rattle.ds_shape.specs.Breaches.{each_standing}
use Rattle.ds_shape.specs.Externals.{Signature, HasSignature, HasOneOf, IsDeclaredFrom, IsExternal}
use Rattle.ds_shape.specs.Flow.{targets_of}
use Rattle.ds_shape.specs.Operands.{uses_of}
use Rattle.ds_shape.specs.Site.{function_number}
use Rattle.ds_shape.specs.Sizes.{◌>>=◌}
use Rattle.ds_shape.specs.Types.{Stands, result_type, register_type, part_type, KeepsRule, ArePassed, IsThreadStart}
use Rattle.ds_shape.specs.Accepted.{IsWellFormed}
use Rattle.ds_plain.specs.declared.Access.{Access}
use Rattle.ds_plain.specs.declared.TrapKind.TheVariants as kinds
use Rattle.ds_plain.specs.declared.Request.TheVariants as requests
use Rattle.ds_plain.specs.Behaviour.{Outcome, Goes, Wants}
use Rattle.ds_plain.specs.Parts.{part}
use Rattle.ds_meaning.specs.Values.{Environment, Values, bound, all_bound, cut}
use Rattle.ds_meaning.specs.Values.{truth, converted, sign_extended, is_pointer}
use Rattle.ds_meaning.specs.Frames.{Context, Frame, Caller, State, Runs, Notes, first_frame, has_room}
use Rattle.ds_meaning.specs.Steps.{Current, given, given_by, on, behind, results, with_result, with_pair, traps}
use Rattle.ds_meaning.specs.Memory.{located, located_by, access_at, after_store}
use Rattle.ds_meaning.specs.Memory.{after_rmw, is_exchange, noted, notes_at}
use Rattle.ds_meaning.specs.Memory.{allocates, words_for, indices_in}
use Rattle.ds_meaning.specs.Control.{Choice, choice_of, goes_to, case_for, ReturnValue, returns, with_returned}
use Rattle.ds_meaning.specs.Control.{waiting, enters, entered}
use Rattle.ds_meaning.specs.Callees.{External, Callee, external_among, callee_of, callee_at, callee_by, callee_numbered}
use Rattle.ds_meaning.specs.Callees as callees
use Rattle.ds_meaning.specs.Calls.{mallocs, frees, function_in, creates, one_of, two_of, four_of, asks, calls}
use Rattle.ds_meaning.specs.Meaning.{computes, act}
use Rattle.ds_safe_laws.specs.Laws.{known_externals, DeclaresKnown}
use Rattle.ds_safe_laws.proofs.Lists.{stands_head, stands_tail, stands_cases, stands_map, item_at}
use Rattle.ds_safe_laws.proofs.Held.{Bound, Keeps, keeps_same, keeps_bound}
use Rattle.ds_safe_laws.proofs.Held.{keeps_through, Given, given_keeps, operand_is}
use Rattle.ds_safe_laws.proofs.Held.{Held, held_plain, held_pair, held_none, arguments_given}
use Rattle.ds_safe_laws.proofs.Placed.{nameless}
use Rattle.ds_safe_laws.proofs.Reached.{Safe, Reached, AllWait, Inv, function_found, entry_reached}

-- what an instruction at hand needs
pub record Ready (c : Context) (s : Current) (f : Function) (op : Op) : Type 0 where
  pub uses : (v : Value) → Stands v (uses_of op) → Given c.code s.frame.env v
  pub rule : KeepsRule c.code f op
  pub named : is_some s.gives ≡ has_result op
  pub next : is_terminator op ≡ false → (env : Environment) → Keeps s.frame.env env → Held env s.gives op
      → Reached c.code s.frame.function s.frame.block (suc s.frame.index) env
  pub phi : (ch : Choice) → choice_of op ≡ Some ch → Held s.frame.env s.gives op
  pub edges : (to : Name) → Stands to (targets_of op) → Safe (Inv c.code) (goes_to c s to)
  pub parts : (ty : Scalar) (of : Name) (index : ℕ) → op ≡ Extract ty of index → Bound s.frame.env of index

-- a type of a register is no pair
plain : (ty s : Scalar) → Some (Plain ty) ≡ Some (Pair s) → ⊥
plain ty s e = cc

register_plain : (t : Ty) (s : Scalar) → register_type t ≡ Some (Pair s) → ⊥
register_plain Void s e = cc
register_plain (One ty) s e = cc
register_plain (Array' count _ of) s e = cc
register_plain (Struct name) s e = cc

-- the label of the case that is taken is one of them
case_stands : (n : ℕ) (cases : List (ℕ × Name)) (other : Name)
    → Stands (case_for n cases other) (other ∷ map (λ (x : ℕ × Name). x.1) cases)
case_stands n [] other = stands_head other []
case_stands n (x ∷ cases) other = by_test (case_stands n cases other) (x.0 == n)
  where
    rest : List Name
    rest = map (λ (y : ℕ × Name). y.1) cases

    wider : (l : Name) → (other ≡ l) ⊎ Stands l rest → Stands l (other ∷ x.1 ∷ rest)
    wider l (inl same) = subst (λ y. Stands y (other ∷ x.1 ∷ rest)) same (stands_head other (x.1 ∷ rest))
    wider l (inr s) = stands_tail l other (x.1 ∷ rest) (stands_tail l x.1 rest s)

    by_test : Stands (case_for n cases other) (other ∷ rest) → (t : Bool)
        → Stands (if t then x.1 else case_for n cases other) (other ∷ x.1 ∷ rest)
    by_test rec true = stands_tail x.1 other (x.1 ∷ rest) (stands_head x.1 rest)
    by_test rec false = wider (case_for n cases other) (stands_cases (case_for n cases other) other rest rec)

module _ (c : Context) (s : Current) where
  abbrev m : Module
  m = c.code

  abbrev fr : Frame
  fr = s.frame

  abbrev I : State → Type 0
  I = Inv c.code

  -- OPERANDS AND ACCESSES

  given_safe : (ty : Scalar) (v : Value) (go : ℕ → Outcome State) → Given m fr.env v → ((x : ℕ) → Safe I (go x))
      → Safe I (given c s ty v go)
  given_safe ty v go g h = subst (λ o. Safe I (given_by o go)) (sym (operand_is m fr.env ty v g)) (h (cut ty g.value))

  located_safe : (ty : Scalar) (a : ℕ) (go : Access → Outcome State) → ((access : Access) → Safe I (go access))
      → Safe I (located c s ty a go)
  located_safe ty a go h = by_mark (is_marked a)
    where
      by_access : (o : Option Access) → Safe I (located_by s a o go)
      by_access None = tt
      by_access (Some access) = h access

      by_mark : (t : Bool)
          → Safe I (if t then traps s (kinds.UseAfterFree a) else located_by s a (access_at c.lim ty a) go)
      by_mark true = tt
      by_mark false = by_access (access_at c.lim ty a)

  -- NOTES

  noted_safe : I (on s) → (loc v : ℕ) → Safe I (noted c s loc v)
  noted_safe next loc v = by_test (is_marked v || not (lies_in (heap c.lim) v))
    where
      by_test : (t : Bool) → Safe I (if t then Goes (on s) else Wants s.place (requests.Note loc v) (λ z. on s))
      by_test true = next
      by_test false = λ z. next

  pub notes_safe : I (on s) → (at value : Value) → Given m fr.env at → Given m fr.env value
      → Safe I (notes_at c s at value)
  notes_safe next at value ga gv =
      given_safe Ptr at _ ga (λ a. given_safe Ptr value _ gv (λ v.
      located_safe Ptr a _ (λ access. noted_safe next access.loc v)))

  -- behind a store
  stored_safe : (ty : Scalar) (at value : Value) (to : Frame) → Given m to.env at → Given m to.env value
      → I (behind s to) → I (after_store c s ty at value to)
  stored_safe ty at value to ga gv next = by_test (c.noting && is_pointer ty)
    where
      by_test : (t : Bool) → I (if t then Notes at value to s.below else behind s to)
      by_test true = (ga, gv, next)
      by_test false = next

  rmw_safe : (op : RmwOp) (ty : Scalar) (at value : Value) (to : Frame) → Given m to.env at → Given m to.env value
      → I (behind s to) → I (after_rmw c s op ty at value to)
  rmw_safe op ty at value to ga gv next = by_test (is_exchange op)
    where
      by_test : (t : Bool) → I (if t then after_store c s ty at value to else behind s to)
      by_test true = stored_safe ty at value to ga gv next
      by_test false = next

  -- INDICES

  indices_given : (os : List Operand) → ((o : Operand) → Stands o os → Given m fr.env o.value)
      → (vs : List ℕ) × (indices_in c fr.env os ≡ Some vs)
  indices_given [] h = ([], refl)
  indices_given (o ∷ os) h =
      let g = h o (stands_head o os) in
      let rest = indices_given os (λ x t. h x (stands_tail x o os t)) in (
        sign_extended o.ty I64 (cut o.ty g.value) ∷ rest.0,
        ap (λ x. x >>= (λ v. option_map (λ (vs : List ℕ). sign_extended o.ty I64 v ∷ vs) (indices_in c fr.env os)))
            (operand_is m fr.env o.ty o.value g)
            ∙ ap (λ x. option_map (λ (vs : List ℕ). sign_extended o.ty I64 (cut o.ty g.value) ∷ vs) x) rest.1,
      )

  -- ARGUMENTS

  one_safe : (args : List Operand) (go : Operand → Outcome State) → length args ≡ 1
      → ((o : Operand) → args ≡ o ∷ [] → Safe I (go o)) → Safe I (one_of args go)
  one_safe [] go e h = absurd (omega arith)
  one_safe (o ∷ []) go e h = h o refl
  one_safe (o ∷ p ∷ rest) go e h = absurd (omega arith)

  two_safe : (args : List Operand) (go : Operand → Operand → Outcome State) → length args ≡ 2
      → ((o p : Operand) → args ≡ o ∷ p ∷ [] → Safe I (go o p)) → Safe I (two_of args go)
  two_safe [] go e h = absurd (omega arith)
  two_safe (o ∷ rest) go e h = one_safe rest (go o) (omega arith) (λ p same. h o p (ap (λ x. o ∷ x) same))

  four_safe : (args : List Operand) (go : Operand → Operand → Operand → Operand → Outcome State) → length args ≡ 4
      → ((o p x y : Operand) → args ≡ o ∷ p ∷ x ∷ y ∷ [] → Safe I (go o p x y)) → Safe I (four_of args go)
  four_safe [] go e h = absurd (omega arith)
  four_safe (o ∷ []) go e h = absurd (omega arith)
  four_safe (o ∷ p ∷ rest) go e h =
      two_safe rest (go o p) (omega arith) (λ x y same. h o p x y (ap (λ z. o ∷ p ∷ z) same))

  module _ (well : IsWellFormed c.code) (known : DeclaresKnown c.code) (f : Function)
      (is : slice_get c.code.functions s.frame.function ≡ Some f)
      (waits : AllWait c.code s.frame.function s.below) where
    -- at the next instruction, where the result has a value
    result_next : (op : Op) → Ready c s f op → is_terminator op ≡ false
        → ((t : Scalar) → result_type op ≡ Some (Pair t) → ⊥) → (v : ℕ) → I (results s v)
    result_next op r going single v = (
      r.next going (bound s.gives 0 v fr.env) (keeps_bound fr.env s.gives 0 v)
          (held_plain fr.env s.gives op v single),
      waits,
    )

    -- and where there is no result
    silent_next : (op : Op) → Ready c s f op → is_terminator op ≡ false → has_result op ≡ false → I (on s)
    silent_next op r going silent = (
      r.next going fr.env (keeps_same fr.env)
          (held_none fr.env s.gives op (nameless s.gives (r.named ∙ silent))),
      waits,
    )

    computes_safe : (o : Result ℕ ArithFault) → ((v : ℕ) → I (results s v)) → Safe I (computes s o)
    computes_safe (Ok n) next = next n
    computes_safe (Err fault) next = tt

    allocates_safe : (words : ℕ) → ((v : ℕ) → I (results s v)) → Safe I (allocates c s words)
    allocates_safe words next = by_test (nat_le (fr.taken + words) (stack c.thread).count)
      where
        by_test : (t : Bool)
            → Safe I (if t then Goes (behind s (record (with_result s ((stack c.thread).start + 8 * fr.taken)) {
              taken = fr.taken + words;
            })) else traps s kinds.StackLimit)
        by_test true = next ((stack c.thread).start + 8 * fr.taken)
        by_test false = tt

    -- RETURNS

    returns_safe : (value : ReturnValue) → (value ≡ None → f.result ≡ Void) → (cs : List Caller)
        → AllWait m fr.function cs → Safe I (returns s value cs)
    returns_safe value h [] w = tt
    returns_safe value h (d ∷ ds) w =
        let one : f ≡ w.0.f = (let both : Some f ≡ Some w.0.f = sym is ∙ w.0.is in cc) in
        (w.0.back value (λ e. subst (λ (g : Function). g.result ≡ Void) one (h e)), w.1)

    -- CALLS

    module _ (result : Ty) (callee : Name) (args : List Operand) (r : Ready c s f (Call result callee args))
        (g : Function) (there : Stands g c.code.functions) (gives : result ≡ g.result)
        (passed : ArePassed c.code f g args) where
      arg_given : (o : Operand) → Stands o args → Given m fr.env o.value
      arg_given o t =
          r.uses o.value (stands_tail o.value (Global callee) (map (λ (x : Operand). x.value) args)
          (stands_map (λ (x : Operand). x.value) o args t))

      call_next : (v : ℕ) → I (results s v)
      call_next v = result_next (Call result callee args) r refl (λ t e. register_plain result t e) v

      call_silent : g.result ≡ Void → I (on s)
      call_silent e = silent_next (Call result callee args) r refl (ap has_values (gives ∙ e))

      -- the frame of the call goes on behind it
      call_returns : (value : ReturnValue) → (value ≡ None → g.result ≡ Void)
          → Reached m fr.function fr.block (suc fr.index) (with_returned s.gives value fr.env)
      call_returns None h = (call_silent (h refl)).0
      call_returns (Some v) h = (call_next v.1).0

      entered_safe : (n : ℕ) → slice_get m.functions n ≡ Some g → (b : Block) (bs : List Block) → g.blocks ≡ b ∷ bs
          → Safe I (entered c s args n g)
      entered_safe n at b bs same =
          let vs = arguments_given c fr.env g.params args passed.0 arg_given in
          subst (λ o. Safe I (given_by o (enters c s n g))) (sym vs.are)
          (by_room vs.values (vs.named []) (has_room m (waiting s) g))
        where
          by_room : (vs : Values) → ((p : Param) → Stands p g.params → Bound (all_bound vs []) p.name 0) → (t : Bool)
              → Safe I (if t then Goes (Runs (first_frame n g vs fr.taken) (waiting s)) else traps s kinds.StackLimit)
          by_room vs named true = (
            entry_reached m well n g at b bs same (all_bound vs []) named,
            (record { f = g; is = at; back = λ value h. call_returns value h }, waits),
          )
          by_room vs named false = tt

      -- EXTERNALS

      -- so many arguments
      many : (sig : Signature) → HasSignature g sig → length args ≡ length sig.parameters
      many sig h = passed.0 ∙ sym (length-map g.params (λ (p : Param). p.ty)) ∙ ap length h.takes

      mallocs_safe : (bytes : ℕ) → Safe I (mallocs s bytes)
      mallocs_safe bytes = by_test (nat_lt 4095 bytes)
        where
          by_test : (t : Bool)
              → Safe I (if t then Goes (results s 0)
              else Wants s.place (requests.Malloc bytes) (λ address. results s address))
          by_test true = call_next 0
          by_test false = λ address. call_next address

      frees_safe : I (on s) → (a : ℕ) → Safe I (frees c s a)
      frees_safe next a = by_null (a == 0)
        where
          good : Bool
          good = lies_in (heap c.lim) a && a % 8 == 0

          by_heap : (t : Bool)
              → Safe I (if t then Wants s.place (requests.Free a) (λ z. on s) else traps s (kinds.BadFree a))
          by_heap true = λ z. next
          by_heap false = tt

          by_mark : (t : Bool)
              → Safe I (if t then traps s (kinds.MarkedFree a)
              else (if good then Wants s.place (requests.Free a) (λ z. on s) else traps s (kinds.BadFree a)))
          by_mark true = tt
          by_mark false = by_heap good

          by_null : (t : Bool)
              → Safe I (if t then Goes (on s) else (if is_marked a then traps s (kinds.MarkedFree a)
              else (if good then Wants s.place (requests.Free a) (λ z. on s) else traps s (kinds.BadFree a))))
          by_null true = next
          by_null false = by_mark (is_marked a)

      -- the function that a thread runs has a number
      start_found : (v : Value) → IsThreadStart m v → (n : ℕ) × (function_in c v ≡ Some n)
      start_found (Int n) t = absurd t
      start_found Null t = absurd t
      start_found Undef t = absurd t
      start_found (Local name) t = absurd t
      start_found (Global name) t =
          let n = function_found m well t.0 t.1 in
          (n.0, subst (λ x. function_number m x ≡ Some n.0) t.2 n.1)

      creates_safe : (at attributes function argument : Operand) → args ≡ at ∷ attributes ∷ function ∷ argument ∷ []
          → IsThreadStart m function.value → Safe I (creates c s at function argument)
      creates_safe at attributes function argument same starts =
          let n = start_found function.value starts in
          given_safe at.ty at.value _
          (arg_given at (subst (λ (x : List Operand). Stands at x) (sym same) (stands_head _ _))) (λ a.
          given_safe argument.ty argument.value _
          (arg_given argument (subst (λ (x : List Operand). Stands argument x) (sym same)
          (stands_tail _ _ _ (stands_tail _ _ _ (stands_tail _ _ _ (stands_head _ _)))))) (λ x.
          subst (λ o. Safe I (given_by o (λ k. located c s Ptr a (λ access.
          Wants s.place (requests.Spawn access.loc k x) (λ answer. results s answer))))) (sym n.1)
          (located_safe Ptr a _ (λ access answer. call_next answer))))

      -- a call of the name, where the name is this text
      named_safe : (bytes : List ℕ) → g.name ≡ Text bytes
          → Safe I (calls c s args (external_among callees.externals (Text bytes)))
          → Safe I (calls c s args (external_among callees.externals g.name))
      named_safe bytes called h =
          subst (λ x. Safe I (calls c s args (external_among callees.externals x))) (sym called) h

      note_safe : g.result ≡ Void → length args ≡ 2 → Safe I (asks c s args callees.DsNote)
      note_safe silent long = two_safe args _ long (λ at value same.
          notes_safe (call_silent silent) at.value value.value
          (arg_given at (subst (λ (x : List Operand). Stands at x) (sym same) (stands_head at (value ∷ []))))
          (arg_given value (subst (λ (x : List Operand). Stands value x) (sym same)
          (stands_tail value at (value ∷ []) (stands_head value [])))))

      only_given : (o : Operand) → args ≡ o ∷ [] → Given m fr.env o.value
      only_given o same = arg_given o (subst (λ (x : List Operand). Stands o x) (sym same) (stands_head o []))

      malloc_safe : length args ≡ 1 → Safe I (asks c s args callees.Malloc)
      malloc_safe long = one_safe args _ long (λ n same.
          given_safe n.ty n.value _ (only_given n same) (λ bytes. mallocs_safe bytes))

      free_safe : g.result ≡ Void → length args ≡ 1 → Safe I (asks c s args callees.Free)
      free_safe silent long = one_safe args _ long (λ p same.
          given_safe p.ty p.value _ (only_given p same) (λ a. frees_safe (call_silent silent) a))

      print_safe : g.result ≡ Void → length args ≡ 1 → Safe I (asks c s args callees.PrintI64)
      print_safe silent long = one_safe args _ long (λ v same.
          given_safe v.ty v.value _ (only_given v same) (λ n z. call_silent silent))

      create_safe : IsExternal (codes "pthread_create") g → length args ≡ 4 → length g.params ≡ 4
          → Safe I (asks c s args callees.PthreadCreate)
      create_safe external long params = four_safe args _ long (λ at attributes function argument same.
          let third = item_at g.params 2 (omega arith) in
          let get : slice_get args 2 ≡ Some function = ap (λ (x : List Operand). slice_get x 2) same in
          creates_safe at attributes function argument same
          ((passed.1 2 function third.0 get third.1).1.0 (refl, external)))

      join_safe : length args ≡ 2 → Safe I (asks c s args callees.PthreadJoin)
      join_safe long = two_safe args _ long (λ thread value same.
          given_safe thread.ty thread.value _
          (arg_given thread (subst (λ (x : List Operand). Stands thread x) (sym same)
          (stands_head thread (value ∷ []))))
          (λ n answer. call_next answer))

      external_safe : g.blocks ≡ [] → HasOneOf known_externals g
          → Safe I (calls c s args (external_among callees.externals g.name))
      external_safe none (inl h) = named_safe (codes "ds_note") h.called (note_safe h.gives (many _ h))
      external_safe none (inr (inl h)) = named_safe (codes "malloc") h.called (malloc_safe (many _ h))
      external_safe none (inr (inr (inl h))) = named_safe (codes "free") h.called (free_safe h.gives (many _ h))
      external_safe none (inr (inr (inr (inl h)))) =
          named_safe (codes "print_i64") h.called (print_safe h.gives (many _ h))
      external_safe none (inr (inr (inr (inr (inl h))))) =
          named_safe (codes "pthread_create") h.called
          (create_safe (h.called, none) (many _ h) (sym passed.0 ∙ many _ h))
      external_safe none (inr (inr (inr (inr (inr (inl h)))))) =
          named_safe (codes "pthread_join") h.called (join_safe (many _ h))
      external_safe none (inr (inr (inr (inr (inr (inr bad)))))) = absurd bad

      -- what is called is the function, or the external that it declares
      calls_safe : g.name ≡ callee → Safe I (calls c s args (callee_of m callee))
      calls_safe called =
          let n = function_found m well g there in
          let callee_is : callee_of m callee ≡ callee_by n.0 g g.blocks =
          ap (λ x. callee_of m x) (sym called) ∙ ap (callee_numbered m) n.1 ∙ ap (callee_at n.0) n.2 in
          subst (λ k. Safe I (calls c s args k)) (sym callee_is) (by_blocks n.0 n.2 g.blocks refl)
        where
          by_blocks : (n : ℕ) → slice_get m.functions n ≡ Some g → (bs : List Block) → g.blocks ≡ bs
              → Safe I (calls c s args (callee_by n g bs))
          by_blocks n at [] none =
              external_safe none (each_standing (IsDeclaredFrom known_externals) m.functions known g there none)
          by_blocks n at (b ∷ bs) same = entered_safe n at b bs same

    -- INSTRUCTIONS

    ret_safe : (v : Option Operand) → Ready c s f (Ret v) → Safe I (act c s (Ret v))
    ret_safe None r = returns_safe None (λ e. r.rule) s.below waits
    ret_safe (Some o) r =
        given_safe o.ty o.value _ (r.uses o.value (stands_head o.value [])) (λ v.
        returns_safe (Some (o.ty, v)) (λ e. absurd (let bad : Some (o.ty, v) ≡ None = e in cc)) s.below waits)

    alloca_safe : (ty : Ty) (count : Option Operand) → Ready c s f (Alloca ty count)
        → Safe I (act c s (Alloca ty count))
    alloca_safe ty None r =
        allocates_safe (words_for c ty 1) (λ v. result_next (Alloca ty None) r refl (λ t e. plain Ptr t e) v)
    alloca_safe ty (Some o) r =
        given_safe o.ty o.value _ (r.uses o.value (stands_head o.value [])) (λ n.
        allocates_safe (words_for c ty n) (λ v. result_next (Alloca ty (Some o)) r refl (λ t e. plain Ptr t e) v))

    gep_safe : (ty : Ty) (base : Value) (indices : List Operand) → Ready c s f (Gep ty base indices)
        → Safe I (act c s (Gep ty base indices))
    gep_safe ty base indices r =
        let vs = indices_given indices (λ o t. r.uses o.value (stands_tail o.value base
        (map (λ (x : Operand). x.value) indices) (stands_map (λ (x : Operand). x.value) o indices t))) in
        given_safe Ptr base _ (r.uses base (stands_head base (map (λ (x : Operand). x.value) indices))) (λ a.
        by_steps a vs.0 vs.1 (address_steps m.structs ty indices) r.rule.2)
      where
        by_steps : (a : ℕ) (vs : List ℕ) → indices_in c fr.env indices ≡ Some vs → (o : Option (List Step)) → IsSome o
            → Safe I (given_by (o >>= (λ (steps : List Step).
            option_map (bytes_added steps) (indices_in c fr.env indices)))
            (λ bytes. Goes (results s ((a + bytes) % 2 ^ 64))))
        by_steps a vs e None some = absurd (true≢false (sym some))
        by_steps a vs e (Some steps) some =
            subst (λ o. Safe I (given_by (option_map (bytes_added steps) o)
            (λ bytes. Goes (results s ((a + bytes) % 2 ^ 64))))) (sym e)
            (result_next (Gep ty base indices) r refl (λ t e. plain Ptr t e) ((a + bytes_added steps vs) % 2 ^ 64))

    either_safe : (first second : Name) → Safe I (goes_to c s first) → Safe I (goes_to c s second) → (t : Bool)
        → Safe I (goes_to c s (if t then second else first))
    either_safe first second h k true = k
    either_safe first second h k false = h

    pub act_safe : (op : Op) → Ready c s f op → Safe I (act c s op)
    act_safe (Bin op ty a b) r =
        given_safe ty a _ (r.uses a (stands_head a (b ∷ []))) (λ x.
        given_safe ty b _ (r.uses b (stands_tail b a (b ∷ []) (stands_head b []))) (λ y.
        computes_safe (outcome op (width ty) x y) (λ v.
        result_next (Bin op ty a b) r refl (λ t e. plain ty t e) v)))
    act_safe (Icmp cond ty a b) r =
        given_safe ty a _ (r.uses a (stands_head a (b ∷ []))) (λ x.
        given_safe ty b _ (r.uses b (stands_tail b a (b ∷ []) (stands_head b []))) (λ y.
        result_next (Icmp cond ty a b) r refl (λ t e. plain I1 t e) (truth (holds cond (width ty) x y))))
    act_safe (Select cond ty a b) r =
        given_safe I1 cond _ (r.uses cond (stands_head cond (a ∷ b ∷ []))) (λ n.
        given_safe ty a _ (r.uses a (stands_tail a cond (a ∷ b ∷ []) (stands_head a (b ∷ [])))) (λ x.
        given_safe ty b _
        (r.uses b (stands_tail b cond (a ∷ b ∷ []) (stands_tail b a (b ∷ []) (stands_head b [])))) (λ y.
        result_next (Select cond ty a b) r refl (λ t e. plain ty t e) (if n == 0 then y else x))))
    act_safe (Cast op from a to) r =
        given_safe from a _ (r.uses a (stands_head a [])) (λ x.
        result_next (Cast op from a to) r refl (λ t e. plain to t e) (converted op from to x))
    act_safe (Alloca ty count) r = alloca_safe ty count r
    act_safe (Load ty at) r =
        given_safe Ptr at _ (r.uses at (stands_head at [])) (λ a.
        located_safe ty a _ (λ access word. result_next (Load ty at) r refl (λ t e. plain ty t e) (part access word)))
    act_safe (Store ty value at) r =
        let gv = r.uses value (stands_head value (at ∷ [])) in
        let ga = r.uses at (stands_tail at value (at ∷ []) (stands_head at [])) in
        given_safe ty value _ gv (λ v. given_safe Ptr at _ ga (λ a. located_safe ty a _ (λ access z.
        stored_safe ty at value fr ga gv (silent_next (Store ty value at) r refl refl))))
    act_safe (Gep ty base indices) r = gep_safe ty base indices r
    act_safe (Call result callee args) r =
        let g = r.rule in calls_safe result callee args r g.0 g.1 g.3 g.4 g.2
    act_safe (Phi ty arms) r =
        (r.next refl fr.env (keeps_same fr.env) (r.phi (record { ty = ty; arms = arms }) refl), waits)
    act_safe (Rmw op at ty value) r =
        let ga = r.uses at (stands_head at (value ∷ [])) in
        let gv = r.uses value (stands_tail value at (value ∷ []) (stands_head value [])) in
        given_safe Ptr at _ ga (λ a. given_safe ty value _ gv (λ v. located_safe ty a _ (λ access word.
        let to = with_result s (part access word) in
        let k = keeps_bound fr.env s.gives 0 (part access word) in
        rmw_safe op ty at value to (given_keeps m fr.env to.env at k ga) (given_keeps m fr.env to.env value k gv)
        (result_next (Rmw op at ty value) r refl (λ t e. plain ty t e) (part access word)))))
    act_safe (Cmpxchg at ty expected new) r =
        let ga = r.uses at (stands_head at (expected ∷ new ∷ [])) in
        let ge = r.uses expected (stands_tail expected at (expected ∷ new ∷ []) (stands_head expected (new ∷ []))) in
        let gn = r.uses new (stands_tail new at (expected ∷ new ∷ [])
        (stands_tail new expected (new ∷ []) (stands_head new []))) in
        given_safe Ptr at _ ga (λ a. given_safe ty expected _ ge (λ x. given_safe ty new _ gn (λ v.
        located_safe ty a _ (λ access word. pair_safe ga gn (part access word) (truth (part access word == x))))))
      where
        pair_safe : Given m fr.env at → Given m fr.env new → (v w : ℕ) → I (after_store c s ty at new (with_pair s v w))
        pair_safe ga gn v w =
            let first = bound s.gives 0 v fr.env in
            let env = bound s.gives 1 w first in
            let k = keeps_through fr.env first env (keeps_bound fr.env s.gives 0 v) (keeps_bound first s.gives 1 w) in
            stored_safe ty at new (with_pair s v w) (given_keeps m fr.env env at k ga)
            (given_keeps m fr.env env new k gn)
            (r.next refl env k (held_pair fr.env s.gives (Cmpxchg at ty expected new) v w), waits)
    act_safe (Extract ty of index) r =
        let b = r.parts ty of index refl in
        subst (λ o. Safe I (given_by o (λ x. Goes (results s x)))) (sym b.is)
        (result_next (Extract ty of index) r refl (λ t e. plain (part_type ty index) t e) b.value)
    act_safe Fence r = silent_next Fence r refl refl
    act_safe (Ret v) r = ret_safe v r
    act_safe (Br label) r = r.edges label (stands_head label [])
    act_safe (CondBr cond first second) r =
        given_safe I1 cond _ (r.uses cond (stands_head cond [])) (λ n.
        either_safe first second (r.edges first (stands_head first (second ∷ [])))
        (r.edges second (stands_tail second first (second ∷ []) (stands_head second []))) (n == 0))
    act_safe (Switch ty value other cases) r =
        given_safe ty value _ (r.uses value (stands_head value [])) (λ n.
        r.edges (case_for n cases other) (case_stands n cases other))
    act_safe Unreachable r = tt
