-- The places of instructions. A call of ds_note that the module declares is not counted: its place is that of the
-- store before it.
use Rattle.std.specs.Prelude.{ℕ, suc, ◌+◌, ◌-◌, Bool, false, not, if◌then◌else◌, List, [], ◌∷◌, length, filter}
use Rattle.std.specs.Prelude.{take, slice_get}
use Rattle.ds_ast.specs.declared.name.Name.{Name}
use Rattle.ds_ast.specs.declared.instr.Op.{Op}
use Rattle.ds_ast.specs.declared.instr.Op.TheVariants.{Bin, Icmp, Select, Cast, Alloca, Load, Store, Gep, Call, Phi}
use Rattle.ds_ast.specs.declared.instr.Op.TheVariants.{Rmw, Cmpxchg, Extract, Fence, Ret, Br, CondBr, Switch}
use Rattle.ds_ast.specs.declared.instr.Op.TheVariants.{Unreachable}
use Rattle.ds_ast.specs.declared.instr.Instr.{Instr}
use Rattle.ds_ast.specs.declared.module.Module.{Module}
use Rattle.ds_ast.specs.declared.module.Block.{Block}
use Rattle.ds_ast.specs.Bounds.{is_name}
use Rattle.ds_plain.specs.declared.Place.{Place}
use Rattle.ds_meaning.specs.Callees.{callee_of, is_ds_note}
use Rattle.ds_meaning.specs.Frames.{Frame, blocks_in}

-- the instruction is a call of ds_note
abbrev pub is_note_call : Module → Op → Bool
is_note_call m (Bin op ty a b) = false
is_note_call m (Icmp cond ty a b) = false
is_note_call m (Select c ty a b) = false
is_note_call m (Cast op from a to) = false
is_note_call m (Alloca ty count) = false
is_note_call m (Load ty at) = false
is_note_call m (Store ty value at) = false
is_note_call m (Gep ty base indices) = false
is_note_call m (Call result callee args) = is_ds_note (callee_of m callee)
is_note_call m (Phi ty arms) = false
is_note_call m (Rmw op at ty value) = false
is_note_call m (Cmpxchg at ty expected new) = false
is_note_call m (Extract ty of index) = false
is_note_call m Fence = false
is_note_call m (Ret value) = false
is_note_call m (Br label) = false
is_note_call m (CondBr c first second) = false
is_note_call m (Switch ty value other cases) = false
is_note_call m Unreachable = false

-- how many of the instructions are counted
abbrev pub counted : Module → List Instr → ℕ
counted m code = length (filter (λ (i : Instr). not (is_note_call m i.op)) code)

-- how many are counted up to the one behind so many of the block, and with it
abbrev pub counted_to : Module → List Block → Name → ℕ → ℕ
counted_to m [] label index = 0
counted_to m (b ∷ bs) label index =
    if is_name b.name label then counted m (take (suc index) b.code)
    else counted m b.code + counted_to m bs label index

-- the place of the instruction at hand: its number among those that are counted, from 0
abbrev pub place_at : Module → Frame → Place
place_at m fr = record {
  function = fr.function;
  instruction = counted_to m (blocks_in (slice_get m.functions fr.function)) fr.block fr.index - 1;
}
