-- What code means: what comes of each instruction, by cells and offsets. An instruction takes its operands' values cut
-- to their types; what is not there has no meaning.
use Rattle.std.specs.Prelude.{ℕ, suc, ◌+◌, ◌*◌, ◌/◌, ◌%◌, ◌^◌, not, ◌==◌, ◌&&◌, ◌||◌, if◌then◌else◌, nat_lt}
use Rattle.std.specs.Prelude.{nat_le}
use Rattle.std.specs.Prelude.{List, [], ◌∷◌, length, Option, Some, None, slice_get, slice_index, Result, Ok, Err}
use Rattle.ds_ast.specs.declared.ty.Scalar.{Scalar}
use Rattle.ds_ast.specs.declared.ty.Scalar.TheVariants.{I1, I64, Ptr}
use Rattle.ds_ast.specs.Bounds.{width}
use Rattle.ds_arith.specs.declared.fault.ArithFault.{ArithFault}
use Rattle.ds_arith.specs.Operations.{outcome}
use Rattle.ds_arith.specs.Comparisons.{holds}
use Rattle.ds_map.specs.Bounds.{Bounds}
use Rattle.ds_map.specs.Blocks.{is_marked}
use Rattle.ds_map.specs.Regions.{stack, heap, lies_in}
use Rattle.ds_shape.specs.Sizes.{rounded}
use Rattle.ds_plain.specs.declared.Access.{Access}
use Rattle.ds_plain.specs.declared.Stop.TheVariants.{Returned, Trap}
use Rattle.ds_plain.specs.declared.TrapKind.{TrapKind}
use Rattle.ds_plain.specs.declared.TrapKind.TheVariants as kinds
use Rattle.ds_plain.specs.declared.Request.{Request}
use Rattle.ds_plain.specs.declared.Request.TheVariants as requests
use Rattle.ds_plain.specs.Behaviour.{Outcome, Goes, Wants, Stops, Stuck}
use Rattle.ds_plain.specs.Parts.{part}
use Rattle.ds_meaning.specs.Values.{truth, converted, sign_extended}
use Rattle.ds_meaning.specs.Memory.{access_at}
use Rattle.ds_meaning.specs.Control.{ReturnValue, returned_bits}
use Rattle.ds_meaning.specs.Meaning.{trap_of}
use Rattle.ds_code.specs.declared.frames.Waiting.{Waiting}
use Rattle.ds_code.specs.declared.sources.Source.{Source}
use Rattle.ds_code.specs.declared.sources.Input.{Input}
use Rattle.ds_code.specs.declared.sources.Copying.{Copying}
use Rattle.ds_code.specs.declared.ops.Edge.{Edge}
use Rattle.ds_code.specs.declared.ops.Case.{Case}
use Rattle.ds_code.specs.declared.ops.Stride.{Stride}
use Rattle.ds_code.specs.declared.ops.ValueOp.{ValueOp}
use Rattle.ds_code.specs.declared.ops.ValueOp.TheVariants.{Bin, Icmp, Select, Cast, Gep, Extract}
use Rattle.ds_code.specs.declared.ops.MemoryOp.{MemoryOp}
use Rattle.ds_code.specs.declared.ops.MemoryOp.TheVariants.{Load, Store, Rmw, Cmpxchg}
use Rattle.ds_code.specs.declared.ops.ExternalOp.{ExternalOp}
use Rattle.ds_code.specs.declared.ops.ExternalOp.TheVariants.{Malloc, Free, Print, Spawn, Join, Note}
use Rattle.ds_code.specs.declared.ops.BranchOp.{BranchOp}
use Rattle.ds_code.specs.declared.ops.BranchOp.TheVariants.{Jump, Either, Switch}
use Rattle.ds_code.specs.declared.ops.CodeOp.{CodeOp}
use Rattle.ds_code.specs.declared.ops.CodeOp.TheVariants.{Compute, Alloca, Memory, External, Skip, Call, Ret, Branch}
use Rattle.ds_code.specs.declared.ops.CodeOp.TheVariants.{Unreachable, Unknown}
use Rattle.ds_code.specs.declared.ops.CodeInstr.{CodeInstr}
use Rattle.ds_code.specs.declared.functions.CodeFunction.{CodeFunction}
use Rattle.ds_code.specs.Machine.{Running, Machine, at_hand, top, place_of, value, input, written, copied}

-- AFTER AN INSTRUCTION

-- at the next instruction
abbrev pub on : Machine → Machine
on q = record q { at = suc q.at }

-- at the next instruction, where the result's cell has the value
abbrev pub results : Machine → Option ℕ → ℕ → Machine
results q to v = record q { at = suc q.at; cells = written q.base to v q.cells }

-- at the next instruction, where the cells of a pair have these values
abbrev pub pair_results : Machine → (to second : Option ℕ) → ℕ → ℕ → Machine
pair_results q to second v w = record q {
  at = suc q.at;
  cells = written q.base second w (written q.base to v q.cells);
}

-- the instruction can't be carried out
abbrev pub traps : Machine → CodeInstr → TrapKind → Outcome Machine
traps q i kind = Stops (place_of q i) (Trap (record { place = place_of q i; kind = kind }))

-- INSTRUCTIONS THAT COMPUTE

-- the bytes that indices add to an address
abbrev pub bytes_added : Machine → List Stride → ℕ
bytes_added q [] = 0
bytes_added q (s ∷ ss) = s.fixed + s.scale * sign_extended s.index.ty I64 (input q s.index) + bytes_added q ss

-- the result, or the fault of a division
abbrev pub computed : Machine → ValueOp → Result ℕ ArithFault
computed q (Bin op ty a b) = outcome op (width ty) (value q ty a) (value q ty b)
computed q (Icmp cond ty a b) = Ok (truth (holds cond (width ty) (value q ty a) (value q ty b)))
computed q (Select c ty a b) = Ok (if value q I1 c == 0 then value q ty b else value q ty a)
computed q (Cast op from a to) = Ok (converted op from to (value q from a))
computed q (Gep base strides) = Ok ((value q Ptr base + bytes_added q strides) % 2 ^ 64)
computed q (Extract cell) = Ok (slice_index q.cells (q.base + cell))

abbrev pub computes : Machine → CodeInstr → Result ℕ ArithFault → Outcome Machine
computes q i (Ok n) = Goes (results q i.to n)
computes q i (Err fault) = traps q i (trap_of fault)

-- MEMORY

-- so many words of the stack of the thread, behind those that are taken
abbrev pub allocates : Running → Machine → CodeInstr → ℕ → Outcome Machine
allocates r q i words =
    if nat_le (q.taken + words) (stack r.thread).count then
    Goes (record (results q i.to ((stack r.thread).start + 8 * q.taken)) { taken = q.taken + words })
    else traps q i kinds.StackLimit

-- the part of a word that a value of the type at an address is, or the trap of the address
abbrev pub judged_by : ℕ → Option Access → Result Access TrapKind
judged_by address None = Err (kinds.BadAddress address)
judged_by address (Some access) = Ok access

abbrev pub judged : Bounds → Scalar → ℕ → Result Access TrapKind
judged lim ty address =
    if is_marked address then Err (kinds.UseAfterFree address) else judged_by address (access_at lim ty address)

-- with the part of a word that was found, or the trap
abbrev pub located : Machine → CodeInstr → Result Access TrapKind → (Access → Outcome Machine) → Outcome Machine
located q i (Err kind) go = traps q i kind
located q i (Ok access) go = go access

-- the type of what is accessed, and its address
abbrev pub type_at : MemoryOp → Scalar
type_at (Load ty at) = ty
type_at (Store ty v at) = ty
type_at (Rmw op at ty v) = ty
type_at (Cmpxchg at ty expected new exchanged) = ty

abbrev pub address_in : MemoryOp → Source
address_in (Load ty at) = at
address_in (Store ty v at) = at
address_in (Rmw op at ty v) = at
address_in (Cmpxchg at ty expected new exchanged) = at

-- what is asked of that part
abbrev pub requested : Machine → Access → MemoryOp → Request
requested q access (Load ty at) = requests.Load access
requested q access (Store ty v at) = requests.Store access (value q ty v)
requested q access (Rmw op at ty v) = requests.Rmw access op (value q ty v)
requested q access (Cmpxchg at ty expected new exchanged) =
    requests.Cas access (value q ty expected) (value q ty new)

-- once the whole word that was there is known
abbrev pub accessed : Machine → CodeInstr → Access → MemoryOp → ℕ → Machine
accessed q i access (Load ty at) word = results q i.to (part access word)
accessed q i access (Store ty v at) word = on q
accessed q i access (Rmw op at ty v) word = results q i.to (part access word)
accessed q i access (Cmpxchg at ty expected new exchanged) word =
    pair_results q i.to exchanged (part access word) (truth (part access word == value q ty expected))

abbrev pub accesses : Running → Machine → CodeInstr → MemoryOp → Outcome Machine
accesses r q i op =
    located q i (judged r.lim (type_at op) (value q Ptr (address_in op))) (λ access.
    Wants (place_of q i) (requested q access op) (λ word. accessed q i access op word))

-- EXTERNALS

-- malloc: a block of more than so many bytes, or null; of 4,096 or more there is none
abbrev pub mallocs : Machine → CodeInstr → ℕ → Outcome Machine
mallocs q i bytes =
    if nat_lt 4095 bytes then Goes (results q i.to 0)
    else Wants (place_of q i) (requests.Malloc bytes) (λ address. results q i.to address)

-- free: of null it does nothing
abbrev pub frees : Running → Machine → CodeInstr → ℕ → Outcome Machine
frees r q i address =
    if address == 0 then Goes (on q) else
    (if is_marked address then traps q i (kinds.MarkedFree address) else
    (if lies_in (heap r.lim) address && address % 8 == 0 then
    Wants (place_of q i) (requests.Free address) (λ z. on q)
    else traps q i (kinds.BadFree address)))

-- a note of a value at a location asks nothing where the value is marked or lies outside the heap
abbrev pub noted : Running → Machine → CodeInstr → (loc v : ℕ) → Outcome Machine
noted r q i loc v =
    if is_marked v || not (lies_in (heap r.lim) v) then Goes (on q)
    else Wants (place_of q i) (requests.Note loc v) (λ z. on q)

abbrev pub asks : Running → Machine → CodeInstr → ExternalOp → Outcome Machine
asks r q i (Malloc bytes) = mallocs q i (input q bytes)
asks r q i (Free at) = frees r q i (input q at)
asks r q i (Print v) = Wants (place_of q i) (requests.Print (input q v)) (λ z. on q)
asks r q i (Spawn at function argument) = located q i (judged r.lim Ptr (input q at)) (λ access.
    Wants (place_of q i) (requests.Spawn access.loc function (input q argument)) (λ answer. results q i.to answer))
asks r q i (Join thread) = Wants (place_of q i) (requests.Join (input q thread)) (λ answer. results q i.to answer)
asks r q i (Note at v) = located q i (judged r.lim Ptr (value q Ptr at)) (λ access.
    noted r q i access.loc (value q Ptr v))

-- BRANCHES

-- the edge of the first case of a number, or else the other one
abbrev pub case_in : ℕ → List Case → ℕ → ℕ
case_in n [] other = other
case_in n (c ∷ cases) other = if c.number == n then c.edge else case_in n cases other

-- the edge that is taken
abbrev pub chosen : Machine → BranchOp → Option Edge
chosen q (Jump e) = Some e
chosen q (Either c first second) = Some (if value q I1 c == 0 then second else first)
chosen q (Switch ty v edges other cases) = slice_get edges (case_in (value q ty v) cases other)

abbrev pub branches : Machine → Option Edge → Outcome Machine
branches q None = Stuck
branches q (Some e) = Goes (record q { at = e.target; cells = copied q q.base e.copies })

-- CALLS AND RETURNS: at most 1,024 frames, and 65,536 cells in all of them

-- the frame of the call waits behind it
abbrev pub waiting : Machine → CodeInstr → List Waiting
waiting q i =
    record { function = q.function; at = suc q.at; base = q.base; taken = q.taken; to = i.to } ∷ q.below

-- a frame of the function above that of the call, where there is room; its stack words stay taken
abbrev pub calls : Running → Machine → CodeInstr → ℕ → List Copying → Option CodeFunction → Outcome Machine
calls r q i number arguments None = Stuck
calls r q i number arguments (Some f) =
    if nat_le (top r q + f.cells) 65536 && nat_lt (length (waiting q i)) 1024 then
    Goes (record {
      function = number;
      at = 0;
      base = top r q;
      taken = q.taken;
      cells = copied q (top r q) arguments;
      below = waiting q i;
    })
    else traps q i kinds.StackLimit

-- the value that is returned, with its type
abbrev pub returned : Machine → Option Input → ReturnValue
returned q None = None
returned q (Some i) = Some (i.ty, input q i)

-- the cell takes what a call gives, where it gives anything
abbrev pub given_back : (base : ℕ) → Option ℕ → ReturnValue → List ℕ → List ℕ
given_back base to None cells = cells
given_back base to (Some v) cells = written base to v.1 cells

-- back to the frame that waits; the stack words of the frame that ends are given back
abbrev pub returns : Machine → CodeInstr → ReturnValue → List Waiting → Outcome Machine
returns q i v [] = Stops (place_of q i) (Returned (returned_bits v))
returns q i v (w ∷ ws) = Goes (record {
  function = w.function;
  at = w.at;
  base = w.base;
  taken = w.taken;
  cells = given_back w.base w.to v q.cells;
  below = ws;
})

-- ONE INSTRUCTION

-- what comes of the instruction at hand
abbrev pub act : Running → Machine → CodeInstr → CodeOp → Outcome Machine
act r q i (Compute op) = computes q i (computed q op)
act r q i (Alloca size count) = allocates r q i (rounded (input q count * size) 8 / 8)
act r q i (Memory op) = accesses r q i op
act r q i (External op) = asks r q i op
act r q i Skip = Goes (on q)
act r q i (Call function arguments) = calls r q i function arguments (slice_get r.code.functions function)
act r q i (Ret v) = returns q i (returned q v) q.below
act r q i (Branch op) = branches q (chosen q op)
act r q i Unreachable = traps q i kinds.Unreachable
act r q i Unknown = Stuck

-- the same of the instruction that stands there
abbrev pub act_at : Running → Machine → Option CodeInstr → Outcome Machine
act_at r q None = Stuck
act_at r q (Some i) = act r q i i.op

-- what comes of the next instruction
abbrev pub step : Running → Machine → Outcome Machine
step r q = act_at r q (at_hand r q)
