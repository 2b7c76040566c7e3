-- Six groups of instructions, by which they are compared and copied.
use Rattle.std.specs.Prelude.{Bool, true, false}
use Rattle.ds_ast.specs.declared.instr.Op.{Op}
use Rattle.ds_ast.specs.declared.instr.Op.TheVariants.{Bin, Icmp, Select, Cast, Alloca, Load, Store, Gep, Call, Phi}
use Rattle.ds_ast.specs.declared.instr.Op.TheVariants.{Rmw, Cmpxchg, Extract, Fence, Ret, Br, CondBr, Switch}
use Rattle.ds_ast.specs.declared.instr.Op.TheVariants.{Unreachable}

-- the instruction computes a number from numbers
abbrev pub is_arithmetic : Op → Bool
is_arithmetic (Bin op ty a b) = true
is_arithmetic (Icmp cond ty a b) = true
is_arithmetic (Cast op from a to) = true
is_arithmetic _ = false

-- the instruction takes one of the values that it names
abbrev pub is_selection : Op → Bool
is_selection (Select c ty a b) = true
is_selection (Phi ty arms) = true
is_selection (Extract ty of index) = true
is_selection _ = false

-- the instruction makes, reads or writes memory, or computes an address
abbrev pub is_memory : Op → Bool
is_memory (Alloca ty count) = true
is_memory (Load ty at) = true
is_memory (Store ty value at) = true
is_memory (Gep ty base indices) = true
is_memory _ = false

-- the instruction is an atomic one, or a fence
abbrev pub is_atomic : Op → Bool
is_atomic (Rmw op at ty value) = true
is_atomic (Cmpxchg at ty expected new) = true
is_atomic Fence = true
is_atomic _ = false

-- the instruction calls, returns or is never reached
abbrev pub is_transfer : Op → Bool
is_transfer (Call result callee args) = true
is_transfer (Ret x) = true
is_transfer Unreachable = true
is_transfer _ = false

-- the instruction goes to another block
abbrev pub is_branch : Op → Bool
is_branch (Br x) = true
is_branch (CondBr c target other) = true
is_branch (Switch ty value other cases) = true
is_branch _ = false
