-- Each instruction does by cells what it does by names.
use Rattle.std.proofs.Common.{◌≡◌, ℕ, suc, ◌+◌, ◌*◌, ◌/◌, ◌%◌, ◌^◌, ◌≤◌, Bool, true, false, not, ◌==◌}
use Rattle.std.proofs.Common.{◌&&◌, ◌||◌}
use Rattle.std.proofs.Common.{if◌then◌else◌, nat_lt, nat_le, List, [], ◌∷◌, length, map, take, Option, Some, None}
use Rattle.std.proofs.Common.{slice_get, slice_index, refl, ap, sym, ◌∙◌, subst, arith}
use Rattle.std.specs.Prelude.{Result, Ok, Err}
use Rattle.std.specs.Option.{option_map}
use Rattle.std.proofs.lemmas.Bool.Decides.{nat_tests}
use Rattle.std.proofs.lemmas.Option.{slice_get-map}
use Rattle.ds_ast.specs.declared.name.Name.{Name}
use Rattle.ds_ast.specs.declared.ty.Scalar.{Scalar}
use Rattle.ds_ast.specs.declared.ty.Scalar.TheVariants.{I1, I64, Ptr}
use Rattle.ds_ast.specs.declared.value.Value.{Value}
use Rattle.ds_ast.specs.declared.value.Value.TheVariants.{Int, Null, Undef, Local, Global}
use Rattle.ds_ast.specs.declared.operand.Operand.{Operand}
use Rattle.ds_ast.specs.declared.instr.Op.{Op}
use Rattle.ds_ast.specs.declared.instr.Op.TheVariants.{Bin, Icmp, Select, Cast, Alloca, Load, Store, Gep, Call, Phi}
use Rattle.ds_ast.specs.declared.instr.Op.TheVariants.{Rmw, Cmpxchg, Extract, Fence, Ret, Br, CondBr, Switch}
use Rattle.ds_ast.specs.declared.instr.Op.TheVariants.{Unreachable}
use Rattle.ds_ast.specs.declared.instr.Instr.{Instr}
use Rattle.ds_ast.specs.declared.module.Module.{Module}
use Rattle.ds_ast.specs.declared.module.Function.{Function}
use Rattle.ds_ast.specs.declared.module.Block.{Block}
use Rattle.ds_ast.specs.declared.name.Name.TheVariants.{Text}
use Rattle.ds_ast.specs.Bounds.{is_name, width}
use Rattle.ds_arith.specs.declared.fault.ArithFault.{ArithFault}
use Rattle.ds_arith.specs.Operations.{outcome}
use Rattle.ds_arith.specs.Comparisons.{holds}
use Rattle.ds_map.specs.Bounds.{Bounds}
use Rattle.ds_map.specs.Blocks.{is_marked}
use Rattle.ds_map.specs.Regions.{stack, heap, lies_in}
use Rattle.ds_names.specs.Names.{AreDistinct}
use Rattle.ds_shape.specs.Address.{Step, address_steps}
use Rattle.ds_shape.specs.Address as address
use Rattle.ds_shape.specs.Site.{function_number}
use Rattle.ds_shape.specs.Sizes.{◌>>=◌, rounded, layout_of}
use Rattle.ds_plain.specs.declared.Access.{Access}
use Rattle.ds_plain.specs.declared.Place.{Place}
use Rattle.ds_plain.specs.declared.Stop.TheVariants.{Trap}
use Rattle.ds_plain.specs.declared.TrapKind.{TrapKind}
use Rattle.ds_plain.specs.declared.TrapKind.TheVariants as kinds
use Rattle.ds_plain.specs.declared.Request.TheVariants as requests
use Rattle.ds_plain.specs.Behaviour.{Outcome, Goes, Wants, Stuck}
use Rattle.ds_plain.specs.Parts.{part}
use Rattle.ds_meaning.specs.Values.{Values, bound, operand, part_in, truth, converted}
use Rattle.ds_meaning.specs.Values.{sign_extended}
use Rattle.ds_meaning.specs.Frames.{Context, Frame, Caller, State, Runs, blocks_in, block_among}
use Rattle.ds_meaning.specs.Frames.{first_frame, has_room, cells_of}
use Rattle.ds_meaning.specs.Steps as s
use Rattle.ds_meaning.specs.Steps.{Current, given_by, given}
use Rattle.ds_meaning.specs.Memory as memory
use Rattle.ds_meaning.specs.Memory.{access_at}
use Rattle.ds_meaning.specs.Control as control
use Rattle.ds_meaning.specs.Control.{ReturnValue, with_returned, phi_values, arguments}
use Rattle.ds_meaning.specs.Callees.{Callee, Defined, Declared, callee_of, callee_at, callee_by, callee_numbered}
use Rattle.ds_meaning.specs.Callees as callees
use Rattle.ds_meaning.specs.Calls as calls
use Rattle.ds_meaning.specs.Meaning as meaning
use Rattle.ds_meaning.specs.Program.{context}
use Rattle.ds_code.specs.declared.frames.Waiting.{Waiting}
use Rattle.ds_code.specs.declared.sources.Copying.{Copying}
use Rattle.ds_code.specs.declared.ops.Edge.{Edge}
use Rattle.ds_code.specs.declared.ops.CodeInstr.{CodeInstr}
use Rattle.ds_code.specs.declared.functions.CodeFunction.{CodeFunction}
use Rattle.ds_code.specs.declared.functions.CodeParts.{CodeParts}
use Rattle.ds_code.specs.Machine.{Running, Machine, cells_in, top, place_of, value, input, written, all_read}
use Rattle.ds_code.specs.Machine.{copied}
use Rattle.ds_code.specs.CodeMeaning as code
use Rattle.ds_code.specs.Cells.{Cells, cells_for, cell_total, cell_of, result_cell, parameter_names}
use Rattle.ds_code.specs.Lowering.{source_of, operand_of, block_number, edge_by, edge_of, copies_into}
use Rattle.ds_code.specs.Lowering.{phis_copied, strides_of, with_one, with_two, with_four, spawn_of, external_of}
use Rattle.ds_code.specs.Lowering.{call_of}
use Rattle.ds_code.specs.Lowering.{count_of, switch_labels, case_of, edge_number}
use Rattle.ds_code.specs.Callees.{known_as, called_as}
use Rattle.ds_code.specs.declared.ops.CodeOp.{CodeOp}
use Rattle.ds_code.specs.Lowering.{gep_of, arguments_of, function_named, lowered_op, lowered_instr, lowered_function}
use Rattle.ds_code_laws.proofs.Simulated.{Agree}
use Rattle.ds_code_laws.proofs.Held.{HasCellToo, below_through, holds_all, holds_none, holds_written}
use Rattle.ds_code_laws.proofs.Held.{reads}
use Rattle.ds_code_laws.proofs.Held.{all_written_below, written_below}
use Rattle.ds_code_laws.proofs.Copied.{phis_match, arguments_match, through}
use Rattle.ds_code_laws.proofs.Found.{total, block_found, entry_there}
use Rattle.ds_code_laws.proofs.Celled.{Parted, phis_named, parameters_named, same_cells}
use Rattle.ds_code_laws.proofs.Edges.{switch_edge}
use Rattle.ds_code_laws.proofs.Related.{FrameStands, CallersStand, Standing, Related, callers_below}
use Rattle.ds_code_laws.proofs.Related.{callers_take, on_stands, changed_stands, frame_room, next_there, results_stand}

-- what is run, and what it was lowered to
pub record Lowered : Type 0 where
  pub m : Module
  pub lim : Bounds
  pub thread : ℕ
  pub code : CodeParts
  pub functions : code.functions ≡ map (lowered_function m) m.functions
  pub distinct : (n : ℕ) (f : Function) → slice_get m.functions n ≡ Some f → AreDistinct (parameter_names f)

abbrev pub ctx : Lowered → Context
ctx l = context false l.lim l.m l.thread

abbrev pub run : Lowered → Running
run l = record { code = l.code; lim = l.lim; thread = l.thread }

-- no external is a function that is defined
never_defined : (number : ℕ) (g : Function) (es : List (List ℕ × callees.External)) (x : Name)
    → callees.external_among es x ≡ Defined number g → ⊥
never_defined number g [] x f = cc
never_defined number g (y ∷ es) x f = by_test (λ h. never_defined number g es x h) (is_name (Text y.0) x) f
  where
    by_test : (callees.external_among es x ≡ Defined number g → ⊥) → (t : Bool)
        → (if t then Declared y.1 else callees.external_among es x) ≡ Defined number g → ⊥
    by_test rec true f = cc
    by_test rec false f = rec f

-- an instruction at hand, on both sides
module _ (l : Lowered) (fr : Frame) (below : List Caller) (q : Machine) (st : Standing l.m fr below q) (number : ℕ)
    (instr : Instr) (place : Place) (at : place ≡ record { function = q.function; instruction = number }) where
  abbrev R : State → Machine → Type 0
  R = Related l.m

  abbrev c : Cells
  c = cells_for st.frame.f

  abbrev now : Current
  now = record { frame = fr; below = below; gives = instr.result; place = place }

  abbrev i : CodeInstr
  i = lowered_instr l.m st.frame.f fr.block number instr

  -- the two agree with the operand's value, if there is one
  given_agrees : (ty : Scalar) (v : Value) (go : ℕ → Outcome State) (go' : ℕ → Outcome Machine)
      → ((x : ℕ) → Agree R (go x) (go' x)) → Agree R (given (ctx l) now ty v go) (go' (value q ty (source_of l.m c v)))
  given_agrees ty v go go' h = by_value (operand l.m fr.env ty v) refl
    where
      by_value : (o : Option ℕ) → operand l.m fr.env ty v ≡ o
          → Agree R (given_by o go) (go' (value q ty (source_of l.m c v)))
      by_value None e = tt
      by_value (Some x) e =
          subst (λ y. Agree R (go x) (go' y)) (sym (reads l.m c q.base q.cells fr.env ty v x st.frame.holds e)) (h x)

  traps_agree : (kind : TrapKind) → Agree R (s.traps now kind) (code.traps q i kind)
  traps_agree kind = (at, ap (λ (p : Place). Trap (record { place = p; kind = kind })) at)

  on_agrees : R (s.on now) (code.on q)
  on_agrees = on_stands l.m fr below q st

  -- the result has its value
  results_agree : HasCellToo c instr.result 0 → (v : ℕ) → R (s.results now v) (code.results q i.to v)
  results_agree named v = results_stand l.m fr below q st instr.result v named

  computes_agree : HasCellToo c instr.result 0 → (o : Result ℕ ArithFault)
      → Agree R (meaning.computes now o) (code.computes q i o)
  computes_agree named (Ok n) = results_agree named n
  computes_agree named (Err fault) = traps_agree (meaning.trap_of fault)

  -- an access
  located_agrees : (ty : Scalar) (a : ℕ) (go : Access → Outcome State) (go' : Access → Outcome Machine)
      → ((access : Access) → Agree R (go access) (go' access))
      → Agree R (memory.located (ctx l) now ty a go) (code.located q i (code.judged l.lim ty a) go')
  located_agrees ty a go go' h = by_mark (is_marked a)
    where
      by_access : (o : Option Access) → Agree R (memory.located_by now a o go) (code.located q i (code.judged_by a o)
          go')
      by_access None = traps_agree (kinds.BadAddress a)
      by_access (Some access) = h access

      by_mark : (t : Bool)
          → Agree R (if t then s.traps now (kinds.UseAfterFree a)
          else memory.located_by now a (access_at l.lim ty a) go)
          (code.located q i (if t then Err (kinds.UseAfterFree a) else code.judged_by a (access_at l.lim ty a)) go')
      by_mark true = traps_agree (kinds.UseAfterFree a)
      by_mark false = by_access (access_at l.lim ty a)

  allocates_agree : HasCellToo c instr.result 0 → (words : ℕ)
      → Agree R (memory.allocates (ctx l) now words) (code.allocates (run l) q i words)
  allocates_agree named words =
      subst (λ n. Agree R (memory.allocates (ctx l) now words)
      (if nat_le (n + words) (stack l.thread).count then
      Goes (record (code.results q i.to ((stack l.thread).start + 8 * n)) { taken = n + words })
      else code.traps q i kinds.StackLimit)) (sym st.frame.words) (by_test (nat_le (fr.taken + words) (stack
      l.thread).count))
    where
      by_test : (t : Bool)
          → Agree R (if t then Goes (s.behind now (record (s.with_result now ((stack l.thread).start + 8 * fr.taken)) {
            taken = fr.taken + words;
          })) else s.traps now kinds.StackLimit)
          (if t then Goes (record (code.results q i.to ((stack l.thread).start + 8 * fr.taken)) {
            taken = fr.taken + words;
          }) else code.traps q i kinds.StackLimit)
      by_test true =
          changed_stands l.m fr below q st fr.block (suc fr.index) (suc q.at) (fr.taken + words) (fr.taken + words) _ _
          (next_there l.m fr below q st) refl
          (written_below c q.base q.cells instr.result 0 ((stack l.thread).start + 8 * fr.taken))
          (holds_written c q.base q.cells fr.env instr.result 0 ((stack l.thread).start + 8 * fr.taken) named
          (frame_room l.m fr below q st) st.frame.holds)
      by_test false = traps_agree kinds.StackLimit

  -- a pair of results
  pair_agrees : HasCellToo c instr.result 0 → HasCellToo c instr.result 1 → (v w : ℕ)
      → R (s.behind now (s.with_pair now v w)) (code.pair_results q i.to (result_cell c instr.result 1) v w)
  pair_agrees first second v w =
      let cells = written q.base (result_cell c instr.result 0) v q.cells in
      let under = written_below c q.base q.cells instr.result 0 v in
      let more = written_below c q.base cells instr.result 1 w in
      let room : q.base + cell_total c ≤ length cells =
      subst (λ n. q.base + cell_total c ≤ n) (sym under.many) (frame_room l.m fr below q st) in
      changed_stands l.m fr below q st fr.block (suc fr.index) (suc q.at) fr.taken q.taken _ _
      (next_there l.m fr below q st) st.frame.words (below_through q.base q.cells cells _ under more)
      (holds_written c q.base cells (bound instr.result 0 v fr.env) instr.result 1 w second room
      (holds_written c q.base q.cells fr.env instr.result 0 v first (frame_room l.m fr below q st) st.frame.holds))

  -- ADDRESSES

  -- the values of indices add what the code adds
  bytes_agree : (steps : List Step) (indices : List Operand) (vs : List ℕ)
      → memory.indices_in (ctx l) fr.env indices ≡ Some vs
      → code.bytes_added q (strides_of l.m c steps indices) ≡ address.bytes_added steps vs
  bytes_agree [] indices vs e = refl
  bytes_agree (p ∷ ps) [] vs e = let none : [] ≡ vs = cc in subst (λ u. 0 ≡ address.bytes_added (p ∷ ps) u) none refl
  bytes_agree (p ∷ ps) (o ∷ os) vs e =
      let a = through (operand l.m fr.env o.ty o.value)
      (λ v. option_map (λ (us : List ℕ). sign_extended o.ty I64 v ∷ us) (memory.indices_in (ctx l) fr.env os)) vs e in
      by_rest (λ us f. bytes_agree ps os us f) a.0 a.1 (memory.indices_in (ctx l) fr.env os) refl a.2
    where
      by_rest : ((us : List ℕ) → memory.indices_in (ctx l) fr.env os ≡ Some us
          → code.bytes_added q (strides_of l.m c ps os) ≡ address.bytes_added ps us)
          → (v : ℕ) → operand l.m fr.env o.ty o.value ≡ Some v → (r : Option (List ℕ))
          → memory.indices_in (ctx l) fr.env os ≡ r
          → option_map (λ (us : List ℕ). sign_extended o.ty I64 v ∷ us) r ≡ Some vs
          → code.bytes_added q (strides_of l.m c (p ∷ ps) (o ∷ os)) ≡ address.bytes_added (p ∷ ps) vs
      by_rest rec v is None f g = absurd (cc)
      by_rest rec v is (Some us) f g =
          let same : sign_extended o.ty I64 v ∷ us ≡ vs = cc in
          let read : input q (operand_of l.m c o) ≡ v = reads l.m c q.base q.cells fr.env o.ty o.value v
          st.frame.holds is in
          ap (λ x. p.fixed + p.scale * sign_extended o.ty I64 x + code.bytes_added q (strides_of l.m c ps os)) read
          ∙ ap (λ x. p.fixed + p.scale * sign_extended o.ty I64 v + x) (rec us f)
          ∙ ap (λ (u : List ℕ). address.bytes_added (p ∷ ps) u) same

  gep_agrees : HasCellToo c instr.result 0 → (base : Value) (indices : List Operand) (a : ℕ)
      → value q Ptr (source_of l.m c base) ≡ a
      → (o : Option (List Step))
      → Agree R (given_by (o >>= (λ (steps : List Step). option_map (address.bytes_added steps)
      (memory.indices_in (ctx l) fr.env indices))) (λ bytes. Goes (s.results now ((a + bytes) % 2 ^ 64))))
      (code.act (run l) q i (gep_of l.m c base indices o))
  gep_agrees named base indices a is None = tt
  gep_agrees named base indices a is (Some steps) = by_values (memory.indices_in (ctx l) fr.env indices) refl
    where
      by_values : (r : Option (List ℕ)) → memory.indices_in (ctx l) fr.env indices ≡ r
          → Agree R (given_by (option_map (address.bytes_added steps) r) (λ bytes. Goes (s.results now ((a + bytes) %
          2 ^ 64))))
          (code.computes q i (Ok ((value q Ptr (source_of l.m c base) + code.bytes_added q (strides_of l.m c steps
          indices)) % 2 ^ 64)))
      by_values None e = tt
      by_values (Some vs) e =
          let sum : (a + address.bytes_added steps vs) % 2 ^ 64
          ≡ (value q Ptr (source_of l.m c base) + code.bytes_added q (strides_of l.m c steps indices)) % 2 ^ 64 =
          ap (λ x. (x + address.bytes_added steps vs) % 2 ^ 64) (sym is)
          ∙ ap (λ x. (value q Ptr (source_of l.m c base) + x) % 2 ^ 64) (sym (bytes_agree steps indices vs e)) in
          subst (λ n. R (s.results now ((a + address.bytes_added steps vs) % 2 ^ 64)) (code.results q i.to n)) sum
          (results_agree named ((a + address.bytes_added steps vs) % 2 ^ 64))

  -- EDGES

  -- to the block of a label, whose phis take their values
  edge_agrees : (label : Name)
      → Agree R (control.goes_to (ctx l) now label)
      (code.branches q (Some (edge_of l.m st.frame.f fr.block label)))
  edge_agrees label =
      subst (λ o. Agree R (control.arrives now label (block_among (blocks_in o) label
      >>= (λ (b : Block). phi_values (ctx l) fr.env fr.block b.code)))
      (code.branches q (Some (edge_of l.m st.frame.f fr.block label)))) (sym st.frame.is)
      (by_block (block_among st.frame.f.blocks label) refl)
    where
      f : Function
      f = st.frame.f

      goes : Edge → Outcome Machine
      goes e = code.branches q (Some e)

      by_values : (n : ℕ) (b : Block) → block_number f label ≡ Some n → slice_get f.blocks n ≡ Some b
          → (o : Option Values)
          → phi_values (ctx l) fr.env fr.block b.code ≡ o
          → Agree R (control.arrives now label o)
          (goes (record { target = total (take n f.blocks); copies = phis_copied l.m c fr.block b.code }))
      by_values n b is stands None e = tt
      by_values n b is stands (Some vs) e =
          let cs = phis_copied l.m c fr.block b.code in
          changed_stands l.m fr below q st label 0 (total (take n f.blocks)) fr.taken q.taken _ _
          (λ k same. let one : n ≡ k = (let both : Some n ≡ Some k = sym is ∙ same in cc) in
          ap (λ j. total (take j f.blocks)) one ∙ (let z : total (take k f.blocks)
          ≡ total (take k f.blocks) + 0 = omega arith in z))
          st.frame.words
          (all_written_below q.base cs (all_read q cs) q.cells)
          (holds_all c q.base vs cs (all_read q cs) q.cells fr.env
          (phis_match (ctx l) c q fr.env fr.block b.code vs st.frame.holds (phis_named f n b stands) e)
          (frame_room l.m fr below q st) st.frame.holds)

      by_block : (o : Option Block) → block_among f.blocks label ≡ o
          → Agree R (control.arrives now label (o >>= (λ (b : Block). phi_values (ctx l) fr.env fr.block b.code)))
          (goes (edge_of l.m f fr.block label))
      by_block None e = tt
      by_block (Some b) e =
          let n = block_found f.blocks label b e in
          subst (λ o. Agree R (control.arrives now label (phi_values (ctx l) fr.env fr.block b.code))
          (goes (edge_by l.m f fr.block o))) (sym n.is)
          (subst (λ o. Agree R (control.arrives now label (phi_values (ctx l) fr.env fr.block b.code))
          (goes (record { target = total (take n.number f.blocks); copies = copies_into l.m c fr.block o })))
          (sym n.stands)
          (by_values n.number b n.is n.stands (phi_values (ctx l) fr.env fr.block b.code) refl))

  either_agrees : (first second : Name) (t : Bool)
      → Agree R (control.goes_to (ctx l) now (if t then second else first))
      (code.branches q (Some (if t then edge_of l.m st.frame.f fr.block second else edge_of l.m st.frame.f fr.block
      first)))
  either_agrees first second true = edge_agrees second
  either_agrees first second false = edge_agrees first

  -- CALLS

  -- the first cell above the frame
  top_is : top (run l) q ≡ st.limit
  top_is =
      let t = st.frame in let up = t.up_to in
      let e : cells_in (slice_get l.code.functions q.function) ≡ cell_total (cells_for t.f) =
      ap (λ (fs : List CodeFunction). cells_in (slice_get fs q.function)) l.functions
      ∙ ap (λ n. cells_in (slice_get (map (lowered_function l.m) l.m.functions) n)) t.same
      ∙ ap cells_in (slice_get-map (lowered_function l.m) l.m.functions fr.function)
      ∙ ap (λ o. cells_in (option_map (lowered_function l.m) o)) t.is in
      omega arith

  -- the frame of the call waits
  waits_agree : HasCellToo c instr.result 0 → CallersStand l.m (control.waiting now) (code.waiting q i) st.limit q.cells
  waits_agree named =
      let t = st.frame in (
        record {
          stands = record {
            f = t.f;
            is = t.is;
            same = t.same;
            there = λ n e. next_there l.m fr below q st n e;
            up_to = t.up_to;
            words = t.words;
            holds = t.holds;
          };
          to = refl;
          named = named;
        },
        st.callers,
      )

  -- a new frame above the callers
  enters_agree : HasCellToo c instr.result 0 → (number : ℕ) (g : Function) → slice_get l.m.functions number ≡ Some g
      → (args : List Operand) (vs : Values) → arguments (ctx l) fr.env g.params args ≡ Some vs
      → Agree R (control.enters (ctx l) now number g vs)
      (code.calls (run l) q i number (arguments_of l.m c 0 args) (Some (lowered_function l.m g)))
  enters_agree named number g is args vs e =
      subst (λ t. Agree R (if t then Goes (Runs (first_frame number g vs fr.taken) (control.waiting now))
      else s.traps now kinds.StackLimit) (entering (top (run l) q))) (sym tests)
      (subst (λ b. Agree R (if nat_le (st.limit + cell_total (cells_for g)) 65536
      && nat_lt (length (code.waiting q i)) 1024 then Goes (Runs (first_frame number g vs fr.taken) (control.waiting
      now))
      else s.traps now kinds.StackLimit) (entering b)) (sym top_is)
      (by_room (nat_le (st.limit + cell_total (cells_for g)) 65536) (nat_lt (length (code.waiting q i)) 1024) refl))
    where
      cs : List Copying
      cs = arguments_of l.m c 0 args

      entered : ℕ → Machine
      entered base = record {
        function = number;
        at = 0;
        base = base;
        taken = q.taken;
        cells = copied q base cs;
        below = code.waiting q i;
      }

      entering : ℕ → Outcome Machine
      entering base =
          if nat_le (base + cell_total (cells_for g)) 65536 && nat_lt (length (code.waiting q i)) 1024
          then Goes (entered base) else code.traps q i kinds.StackLimit

      waits : CallersStand l.m (control.waiting now) (code.waiting q i) st.limit q.cells
      waits = waits_agree named

      tests : has_room l.m (control.waiting now) g
          ≡ nat_le (st.limit + cell_total (cells_for g)) 65536 && nat_lt (length (code.waiting q i)) 1024
      tests =
          let take = callers_take l.m (control.waiting now) (code.waiting q i) st.limit q.cells waits in
          ap (λ n. nat_le (n + length (cells_of g)) 65536 && nat_lt (length (control.waiting now)) 1024) take.0
          ∙ ap (λ n. nat_le (st.limit + n) 65536 && nat_lt (length (control.waiting now)) 1024) (sym (same_cells g))
          ∙ ap (λ n. nat_le (st.limit + cell_total (cells_for g)) 65536 && nat_lt n 1024) take.1

      by_room : (cells frames : Bool) → nat_le (st.limit + cell_total (cells_for g)) 65536 ≡ cells
          → Agree R (if cells && frames then Goes (Runs (first_frame number g vs fr.taken) (control.waiting now))
          else s.traps now kinds.StackLimit)
          (if cells && frames then Goes (entered st.limit) else code.traps q i kinds.StackLimit)
      by_room false frames f = traps_agree kinds.StackLimit
      by_room true false f = traps_agree kinds.StackLimit
      by_room true true f =
          let room : st.limit + cell_total (cells_for g) ≤ 65536 = grind (arith, nat_tests) in
          let under = all_written_below st.limit cs (all_read q cs) q.cells in
          let fits : st.limit + cell_total (cells_for g) ≤ length q.cells =
          subst (λ n. st.limit + cell_total (cells_for g) ≤ n) (sym st.many) room in
          record {
            limit = st.limit + cell_total (cells_for g);
            frame = record {
              f = g;
              is = is;
              same = refl;
              there = λ n e. entry_there g.blocks n e;
              up_to = refl;
              words = st.frame.words;
              holds = holds_all (cells_for g) st.limit vs cs (all_read q cs) q.cells []
                  (arguments_match (ctx l) c (cells_for g) q fr.env 0 g.params args vs st.frame.holds
                  (parameters_named g (l.distinct number g is)) e) fits
                  (holds_none (cells_for g) st.limit q.cells);
            };
            callers = callers_below l.m (control.waiting now) (code.waiting q i) st.limit st.limit q.cells _ (omega
                arith)
                under waits;
            many = under.many ∙ st.many;
            room = room;
          }

  -- a call of a function that the module defines
  entered_agrees : HasCellToo c instr.result 0 → (number : ℕ) (g : Function) → slice_get l.m.functions number ≡ Some g
      → (args : List Operand)
      → Agree R (control.entered (ctx l) now args number g)
      (code.calls (run l) q i number (arguments_of l.m c 0 args) (slice_get l.code.functions number))
  entered_agrees named number g is args =
      let e : slice_get l.code.functions number ≡ Some (lowered_function l.m g) =
      ap (λ (fs : List CodeFunction). slice_get fs number) l.functions
      ∙ slice_get-map (lowered_function l.m) l.m.functions number
      ∙ ap (λ o. option_map (lowered_function l.m) o) is in
      subst (λ o. Agree R (control.entered (ctx l) now args number g)
      (code.calls (run l) q i number (arguments_of l.m c 0 args) o)) (sym e)
      (by_values (arguments (ctx l) fr.env g.params args) refl)
    where
      by_values : (o : Option Values) → arguments (ctx l) fr.env g.params args ≡ o
          → Agree R (given_by o (control.enters (ctx l) now number g))
          (code.calls (run l) q i number (arguments_of l.m c 0 args) (Some (lowered_function l.m g)))
      by_values None e = tt
      by_values (Some vs) e = enters_agree named number g is args vs e

  -- RETURNS

  -- what is returned is the same on both sides
  returns_agree : (v : ReturnValue) (cs : List Caller) (ws : List Waiting) → CallersStand l.m cs ws q.base q.cells
      → Agree R (control.returns now v cs) (code.returns q i v ws)
  returns_agree v [] [] stand = (at, refl)
  returns_agree v [] (w ∷ ws) stand = absurd stand
  returns_agree v (d ∷ ds) [] stand = absurd stand
  returns_agree v (d ∷ ds) (w ∷ ws) stand = by_value v
    where
      t : FrameStands l.m d.frame w.function w.at w.base q.base w.taken q.cells
      t = stand.0.stands

      back : Machine
      back = record { function = w.function; at = w.at; base = w.base; taken = w.taken; cells = q.cells; below = ws }

      under : Standing l.m d.frame ds back
      under =
          let up = st.frame.up_to in let room = st.room in
          record { limit = q.base; frame = t; callers = stand.1; many = st.many; room = omega arith }

      by_value : (v : ReturnValue) → R (Runs (record d.frame { env = with_returned d.gives v d.frame.env }) ds)
          (record back { cells = code.given_back w.base w.to v q.cells })
      by_value None = under
      by_value (Some x) =
          subst (λ o. R (Runs (record d.frame { env = bound d.gives 0 x.1 d.frame.env }) ds)
          (record back { cells = written w.base o x.1 q.cells })) (sym stand.0.to)
          (changed_stands l.m d.frame ds back under d.frame.block d.frame.index w.at d.frame.taken w.taken _ _
          t.there t.words (written_below (cells_for t.f) w.base q.cells d.gives 0 x.1)
          (holds_written (cells_for t.f) w.base q.cells d.frame.env d.gives 0 x.1 stand.0.named
          (frame_room l.m d.frame ds back under) t.holds))

  -- EXTERNALS

  mallocs_agree : HasCellToo c instr.result 0 → (bytes : ℕ) → Agree R (calls.mallocs now bytes) (code.mallocs q i bytes)
  mallocs_agree named bytes = by_test (nat_lt 4095 bytes)
    where
      by_test : (t : Bool)
          → Agree R (if t then Goes (s.results now 0)
          else Wants place (requests.Malloc bytes) (λ address. s.results now address))
          (if t then Goes (code.results q i.to 0)
          else Wants (place_of q i) (requests.Malloc bytes) (λ address. code.results q i.to address))
      by_test true = results_agree named 0
      by_test false = (at, refl, λ address. results_agree named address)

  frees_agree : (a : ℕ) → Agree R (calls.frees (ctx l) now a) (code.frees (run l) q i a)
  frees_agree a = by_null (a == 0)
    where
      by_heap : (t : Bool)
          → Agree R (if t then Wants place (requests.Free a) (λ z. s.on now) else s.traps now (kinds.BadFree a))
          (if t then Wants (place_of q i) (requests.Free a) (λ z. code.on q) else code.traps q i (kinds.BadFree a))
      by_heap true = (at, refl, λ z. on_agrees)
      by_heap false = traps_agree (kinds.BadFree a)

      good : Bool
      good = lies_in (heap l.lim) a && a % 8 == 0

      by_mark : (t : Bool)
          → Agree R (if t then s.traps now (kinds.MarkedFree a)
          else (if good then Wants place (requests.Free a) (λ z. s.on now) else s.traps now (kinds.BadFree a)))
          (if t then code.traps q i (kinds.MarkedFree a)
          else (if good then Wants (place_of q i) (requests.Free a) (λ z. code.on q) else code.traps q i
          (kinds.BadFree a)))
      by_mark true = traps_agree (kinds.MarkedFree a)
      by_mark false = by_heap good

      by_null : (t : Bool)
          → Agree R (if t then Goes (s.on now) else (if is_marked a then s.traps now (kinds.MarkedFree a)
          else (if good then Wants place (requests.Free a) (λ z. s.on now) else s.traps now (kinds.BadFree a))))
          (if t then Goes (code.on q) else (if is_marked a then code.traps q i (kinds.MarkedFree a)
          else (if good then Wants (place_of q i) (requests.Free a) (λ z. code.on q) else code.traps q i
          (kinds.BadFree a))))
      by_null true = on_agrees
      by_null false = by_mark (is_marked a)

  noted_agrees : (loc v : ℕ) → Agree R (memory.noted (ctx l) now loc v) (code.noted (run l) q i loc v)
  noted_agrees loc v = by_test (is_marked v || not (lies_in (heap l.lim) v))
    where
      by_test : (t : Bool)
          → Agree R (if t then Goes (s.on now) else Wants place (requests.Note loc v) (λ z. s.on now))
          (if t then Goes (code.on q) else Wants (place_of q i) (requests.Note loc v) (λ z. code.on q))
      by_test true = on_agrees
      by_test false = (at, refl, λ z. on_agrees)

  -- a call with one argument
  one_agrees : (args : List Operand) (go : Operand → Outcome State) (go' : Operand → CodeOp)
      → ((o : Operand) → Agree R (go o) (code.act (run l) q i (go' o)))
      → Agree R (calls.one_of args go) (code.act (run l) q i (with_one args go'))
  one_agrees [] go go' h = tt
  one_agrees (o ∷ []) go go' h = h o
  one_agrees (o ∷ p ∷ rest) go go' h = tt

  two_agree : (args : List Operand) (go : Operand → Operand → Outcome State) (go' : Operand → Operand → CodeOp)
      → ((o p : Operand) → Agree R (go o p) (code.act (run l) q i (go' o p)))
      → Agree R (calls.two_of args go) (code.act (run l) q i (with_two args go'))
  two_agree [] go go' h = tt
  two_agree (o ∷ rest) go go' h = one_agrees rest (go o) (go' o) (h o)

  four_agree : (args : List Operand) (go : Operand → Operand → Operand → Operand → Outcome State)
      (go' : Operand → Operand → Operand → Operand → CodeOp)
      → ((o p x y : Operand) → Agree R (go o p x y) (code.act (run l) q i (go' o p x y)))
      → Agree R (calls.four_of args go) (code.act (run l) q i (with_four args go'))
  four_agree [] go go' h = tt
  four_agree (o ∷ []) go go' h = tt
  four_agree (o ∷ p ∷ rest) go go' h = two_agree rest (go o p) (go' o p) (h o p)

  function_same : (v : Value) → calls.function_in (ctx l) v ≡ function_named l.m v
  function_same (Int n) = refl
  function_same Null = refl
  function_same Undef = refl
  function_same (Local name) = refl
  function_same (Global name) = refl

  spawn_agrees : HasCellToo c instr.result 0 → (at' argument : Operand) (o : Option ℕ)
      → Agree R (given (ctx l) now at'.ty at'.value (λ a. given (ctx l) now argument.ty argument.value (λ x.
      given_by o (λ f. memory.located (ctx l) now Ptr a (λ access.
      Wants place (requests.Spawn access.loc f x) (λ answer. s.results now answer))))))
      (code.act (run l) q i (spawn_of l.m c at' argument o))
  spawn_agrees named at' argument None =
      given_agrees at'.ty at'.value _ (λ a. Stuck) (λ a. given_agrees argument.ty argument.value _ (λ x. Stuck) (λ x.
      tt))
  spawn_agrees named at' argument (Some f) =
      given_agrees at'.ty at'.value _ (λ a. code.located q i (code.judged l.lim Ptr a) (λ access.
      Wants (place_of q i) (requests.Spawn access.loc f (input q (operand_of l.m c argument)))
      (λ answer. code.results q i.to answer))) (λ a.
      given_agrees argument.ty argument.value _ (λ x. code.located q i (code.judged l.lim Ptr a) (λ access.
      Wants (place_of q i) (requests.Spawn access.loc f x) (λ answer. code.results q i.to answer))) (λ x.
      located_agrees Ptr a _ _ (λ access. (at, refl, λ answer. results_agree named answer))))

  asks_agree : HasCellToo c instr.result 0 → (args : List Operand) (external : callees.External)
      → Agree R (calls.asks (ctx l) now args external)
      (code.act (run l) q i (external_of l.m c args (known_as external)))
  asks_agree named args callees.Malloc = one_agrees args _ _ (λ n.
      given_agrees n.ty n.value _ (λ bytes. code.mallocs q i bytes) (λ bytes. mallocs_agree named bytes))
  asks_agree named args callees.Free = one_agrees args _ _ (λ p.
      given_agrees p.ty p.value _ (λ a. code.frees (run l) q i a) (λ a. frees_agree a))
  asks_agree named args callees.PrintI64 = one_agrees args _ _ (λ v.
      given_agrees v.ty v.value _ (λ n. Wants (place_of q i) (requests.Print n) (λ z. code.on q))
      (λ n. (at, refl, λ z. on_agrees)))
  asks_agree named args callees.PthreadCreate = four_agree args _ _ (λ at' attributes function argument.
      subst (λ o. Agree R (calls.creates (ctx l) now at' function argument)
      (code.act (run l) q i (spawn_of l.m c at' argument o))) (function_same function.value)
      (spawn_agrees named at' argument (calls.function_in (ctx l) function.value)))
  asks_agree named args callees.PthreadJoin = two_agree args _ _ (λ thread v.
      given_agrees thread.ty thread.value _
      (λ n. Wants (place_of q i) (requests.Join n) (λ answer. code.results q i.to answer))
      (λ n. (at, refl, λ answer. results_agree named answer)))
  asks_agree named args callees.DsNote = two_agree args _ _ (λ at' v.
      given_agrees Ptr at'.value _ (λ a. code.located q i (code.judged l.lim Ptr a) (λ access.
      code.noted (run l) q i access.loc (value q Ptr (source_of l.m c v.value)))) (λ a.
      given_agrees Ptr v.value _ (λ w. code.located q i (code.judged l.lim Ptr a) (λ access.
      code.noted (run l) q i access.loc w)) (λ w.
      located_agrees Ptr a _ _ (λ access. noted_agrees access.loc w))))

  -- what is called as a function that the module defines is one
  defined_is : (name : Name) (number : ℕ) (g : Function) → callee_of l.m name ≡ Defined number g
      → slice_get l.m.functions number ≡ Some g
  defined_is name number g e = by_number (function_number l.m name) e
    where
      by_blocks : (n : ℕ) (h : Function) (bs : List Block) → slice_get l.m.functions n ≡ Some h
          → callee_by n h bs ≡ Defined number g → slice_get l.m.functions number ≡ Some g
      by_blocks n h [] is f = absurd (never_defined number g callees.externals h.name f)
      by_blocks n h (b ∷ bs) is f =
          let same : n ≡ number = cc in
          let one : h ≡ g = cc in
          subst (λ k. slice_get l.m.functions k ≡ Some g) same (is ∙ ap (λ (x : Function). Some x) one)

      by_function : (n : ℕ) (o : Option Function) → slice_get l.m.functions n ≡ o → callee_at n o ≡ Defined number g
          → slice_get l.m.functions number ≡ Some g
      by_function n None is f = absurd (cc)
      by_function n (Some h) is f = by_blocks n h h.blocks is f

      by_number : (o : Option ℕ) → callee_numbered l.m o ≡ Defined number g → slice_get l.m.functions number ≡ Some g
      by_number None f = absurd (cc)
      by_number (Some n) f = by_function n (slice_get l.m.functions n) refl f

  calls_agree : HasCellToo c instr.result 0 → (args : List Operand) (callee : Callee)
      → ((number : ℕ) (g : Function) → callee ≡ Defined number g → slice_get l.m.functions number ≡ Some g)
      → Agree R (calls.calls (ctx l) now args callee) (code.act (run l) q i (call_of l.m c args (called_as callee)))
  calls_agree named args (Defined number g) is = entered_agrees named number g (is number g refl) args
  calls_agree named args (Declared external) is = asks_agree named args external
  calls_agree named args callees.Unknown is = tt

  -- INSTRUCTIONS

  extract_agrees : HasCellToo c instr.result 0 → (of : Name) (index : ℕ)
      → Agree R (given_by (part_in fr.env of index) (λ x. Goes (s.results now x)))
      (Goes (code.results q i.to (slice_index q.cells (q.base + cell_of c of index))))
  extract_agrees named of index = by_value (part_in fr.env of index) refl
    where
      by_value : (o : Option ℕ) → part_in fr.env of index ≡ o
          → Agree R (given_by o (λ x. Goes (s.results now x)))
          (Goes (code.results q i.to (slice_index q.cells (q.base + cell_of c of index))))
      by_value None e = tt
      by_value (Some x) e =
          subst (λ y. R (s.results now x) (code.results q i.to y)) (sym (st.frame.holds.each of index x e).1)
          (results_agree named x)

  count_agrees : (count : Option Operand) (go : ℕ → Outcome State) (go' : ℕ → Outcome Machine)
      → ((n : ℕ) → Agree R (go n) (go' n))
      → Agree R (meaning.counted_by (ctx l) now count go) (go' (input q (count_of l.m c count)))
  count_agrees None go go' h = h 1
  count_agrees (Some o) go go' h = given_agrees o.ty o.value go go' h

  ret_agrees : (v : Option Operand)
      → Agree R (meaning.act (ctx l) now (Ret v))
      (code.returns q i (code.returned q (option_map (operand_of l.m c) v)) q.below)
  ret_agrees None = returns_agree None below q.below st.callers
  ret_agrees (Some o) =
      given_agrees o.ty o.value _ (λ v. code.returns q i (Some (o.ty, v)) q.below) (λ v.
      returns_agree (Some (o.ty, v)) below q.below st.callers)

  pub act_agrees : (op : Op) → Parted c instr.result op
      → Agree R (meaning.act (ctx l) now op)
      (code.act (run l) q i (lowered_op l.m st.frame.f fr.block instr.result op))
  act_agrees (Bin op ty a b) p =
      given_agrees ty a _ (λ x. code.computes q i (outcome op (width ty) x (value q ty (source_of l.m c b)))) (λ x.
      given_agrees ty b _ (λ y. code.computes q i (outcome op (width ty) x y)) (λ y.
      computes_agree (p.first (omega arith)) (outcome op (width ty) x y)))
  act_agrees (Icmp cond ty a b) p =
      given_agrees ty a _ (λ x. Goes (code.results q i.to
      (truth (holds cond (width ty) x (value q ty (source_of l.m c b)))))) (λ x.
      given_agrees ty b _ (λ y. Goes (code.results q i.to (truth (holds cond (width ty) x y)))) (λ y.
      results_agree (p.first (omega arith)) (truth (holds cond (width ty) x y))))
  act_agrees (Select cond ty a b) p =
      given_agrees I1 cond _ (λ n. Goes (code.results q i.to
      (if n == 0 then value q ty (source_of l.m c b) else value q ty (source_of l.m c a)))) (λ n.
      given_agrees ty a _ (λ x. Goes (code.results q i.to (if n == 0 then value q ty (source_of l.m c b) else x))) (λ x.
      given_agrees ty b _ (λ y. Goes (code.results q i.to (if n == 0 then y else x))) (λ y.
      results_agree (p.first (omega arith)) (if n == 0 then y else x))))
  act_agrees (Cast op from a to) p =
      given_agrees from a _ (λ x. Goes (code.results q i.to (converted op from to x))) (λ x.
      results_agree (p.first (omega arith)) (converted op from to x))
  act_agrees (Alloca ty count) p =
      count_agrees count _ (λ n. code.allocates (run l) q i (rounded (n * (layout_of l.m.structs ty).size) 8 / 8)) (λ n.
      allocates_agree (p.first (omega arith)) (rounded (n * (layout_of l.m.structs ty).size) 8 / 8))
  act_agrees (Load ty at') p =
      given_agrees Ptr at' _ (λ a. code.located q i (code.judged l.lim ty a) (λ access.
      Wants (place_of q i) (requests.Load access) (λ word. code.results q i.to (part access word)))) (λ a.
      located_agrees ty a _ _ (λ access. (at, refl, λ word. results_agree (p.first (omega arith)) (part access word))))
  act_agrees (Store ty v at') p =
      given_agrees ty v _ (λ x. code.located q i (code.judged l.lim ty (value q Ptr (source_of l.m c at'))) (λ access.
      Wants (place_of q i) (requests.Store access x) (λ z. code.on q))) (λ x.
      given_agrees Ptr at' _ (λ a. code.located q i (code.judged l.lim ty a) (λ access.
      Wants (place_of q i) (requests.Store access x) (λ z. code.on q))) (λ a.
      located_agrees ty a _ _ (λ access. (at, refl, λ z. on_agrees))))
  act_agrees (Gep ty base indices) p = by_base (operand l.m fr.env Ptr base) refl
    where
      by_base : (o : Option ℕ) → operand l.m fr.env Ptr base ≡ o
          → Agree R (given_by o (λ a. given_by (memory.offset_by (ctx l) fr.env ty indices) (λ bytes.
          Goes (s.results now ((a + bytes) % 2 ^ 64)))))
          (code.act (run l) q i (gep_of l.m c base indices (address_steps l.m.structs ty indices)))
      by_base None e = tt
      by_base (Some a) e =
          gep_agrees (p.first (omega arith)) base indices a
          (reads l.m c q.base q.cells fr.env Ptr base a st.frame.holds e) (address_steps l.m.structs ty indices)
  act_agrees (Call result callee args) p =
      calls_agree (p.first (omega arith)) args (callee_of l.m callee) (λ number g e. defined_is callee number g e)
  act_agrees (Phi ty arms) p = on_agrees
  act_agrees (Rmw op at' ty v) p =
      given_agrees Ptr at' _ (λ a. code.located q i (code.judged l.lim ty a) (λ access.
      Wants (place_of q i) (requests.Rmw access op (value q ty (source_of l.m c v)))
      (λ word. code.results q i.to (part access word)))) (λ a.
      given_agrees ty v _ (λ x. code.located q i (code.judged l.lim ty a) (λ access.
      Wants (place_of q i) (requests.Rmw access op x) (λ word. code.results q i.to (part access word)))) (λ x.
      located_agrees ty a _ _ (λ access. (at, refl, λ word. by_exchange (memory.is_exchange op) access word))))
    where
      by_exchange : (t : Bool) (access : Access) (word : ℕ)
          → R (if t then memory.after_store (ctx l) now ty at' v (s.with_result now (part access word))
          else s.behind now (s.with_result now (part access word))) (code.results q i.to (part access word))
      by_exchange true access word = results_agree (p.first (omega arith)) (part access word)
      by_exchange false access word = results_agree (p.first (omega arith)) (part access word)
  act_agrees (Cmpxchg at' ty expected written') p =
      given_agrees Ptr at' _ (λ a. code.located q i (code.judged l.lim ty a) (λ access.
      Wants (place_of q i) (requests.Cas access (value q ty (source_of l.m c expected)) (value q ty (source_of l.m c
      written')))
      (λ word. code.pair_results q i.to (result_cell c instr.result 1) (part access word)
      (truth (part access word == value q ty (source_of l.m c expected)))))) (λ a.
      given_agrees ty expected _ (λ x. code.located q i (code.judged l.lim ty a) (λ access.
      Wants (place_of q i) (requests.Cas access x (value q ty (source_of l.m c written')))
      (λ word. code.pair_results q i.to (result_cell c instr.result 1) (part access word)
      (truth (part access word == x))))) (λ x.
      given_agrees ty written' _ (λ v. code.located q i (code.judged l.lim ty a) (λ access.
      Wants (place_of q i) (requests.Cas access x v)
      (λ word. code.pair_results q i.to (result_cell c instr.result 1) (part access word)
      (truth (part access word == x))))) (λ v.
      located_agrees ty a _ _ (λ access. (
        at,
        refl,
        λ word.
            pair_agrees (p.first (omega arith)) (p.second (omega arith)) (part access word) (truth (part access word
            == x)),
      )))))
  act_agrees (Extract ty of index) p = extract_agrees (p.first (omega arith)) of index
  act_agrees Fence p = on_agrees
  act_agrees (Ret v) p = ret_agrees v
  act_agrees (Br label) p = edge_agrees label
  act_agrees (CondBr cond first second) p =
      given_agrees I1 cond _ (λ n. code.branches q (Some (if n == 0 then edge_of l.m st.frame.f fr.block second
      else edge_of l.m st.frame.f fr.block first))) (λ n. either_agrees first second (n == 0))
  act_agrees (Switch ty v other cases) p =
      given_agrees ty v _ (λ n. code.branches q (slice_get (map (edge_of l.m st.frame.f fr.block) (switch_labels other
      cases))
      (code.case_in n (map (case_of (switch_labels other cases)) cases) (edge_number (switch_labels other cases)
      other)))) (λ n.
      subst (λ o. Agree R (control.goes_to (ctx l) now (control.case_for n cases other)) (code.branches q o))
      (sym (switch_edge l.m st.frame.f fr.block n cases other)) (edge_agrees (control.case_for n cases other)))
  act_agrees Unreachable p = traps_agree kinds.Unreachable
