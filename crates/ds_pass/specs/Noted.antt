-- The module with a note behind each instruction that writes a pointer to memory: a call of `ds_note` with the address
-- and the pointer.
use Rattle.std.specs.Prelude.{List, [], ◌∷◌, ◌++◌, map, flat_map, None, codes}
use Rattle.ds_ast.specs.declared.name.Name.{Name}
use Rattle.ds_ast.specs.declared.name.Name.TheVariants.{Number, Text}
use Rattle.ds_ast.specs.declared.ty.Scalar.{Scalar}
use Rattle.ds_ast.specs.declared.ty.Scalar.TheVariants.{I1, I8, I16, I32, I64, Ptr}
use Rattle.ds_ast.specs.declared.ty.Ty as ty
use Rattle.ds_ast.specs.declared.value.Value.{Value}
use Rattle.ds_ast.specs.declared.operand.Operand.{Operand}
use Rattle.ds_ast.specs.declared.words.RmwOp.TheVariants.{Xchg, Add, Sub, And, Or, Xor, Umax, Umin}
use Rattle.ds_ast.specs.declared.instr.Op.{Op}
use Rattle.ds_ast.specs.declared.instr.Op.TheVariants.{Bin, Icmp, Select, Cast, Alloca, Load, Store, Gep, Call, Phi}
use Rattle.ds_ast.specs.declared.instr.Op.TheVariants.{Rmw, Cmpxchg, Extract, Fence, Ret, Br, CondBr, Switch}
use Rattle.ds_ast.specs.declared.instr.Op.TheVariants.{Unreachable}
use Rattle.ds_ast.specs.declared.instr.Instr.{Instr}
use Rattle.ds_ast.specs.declared.module.Module.{Module}
use Rattle.ds_ast.specs.declared.module.Function.{Function}
use Rattle.ds_ast.specs.declared.module.Block.{Block}

-- ds_note
abbrev pub note_name : Name
note_name = Text (codes "ds_note")

-- ptr V
abbrev pub pointer : Value → Operand
pointer value = record { ty = Ptr; value = value }

-- call void @ds_note(ptr L, ptr V), where the address L stands first
abbrev pub note : (at value : Value) → Instr
note at value = record { result = None; op = Call ty.Void note_name (pointer at ∷ pointer value ∷ []) }

-- the note of a value of this type that is written at the address: there is one where the type is `ptr`
abbrev pub note_of : Scalar → (at value : Value) → List Instr
note_of I1 at value = []
note_of I8 at value = []
note_of I16 at value = []
note_of I32 at value = []
note_of I64 at value = []
note_of Ptr at value = note at value ∷ []

-- What stands behind the instruction: the note of the pointer that a `store`, an `atomicrmw xchg` or a `cmpxchg`
-- writes. Of a `cmpxchg` that is the new value, also where it does not exchange.
abbrev pub notes_behind : Op → List Instr
notes_behind (Bin op ty a b) = []
notes_behind (Icmp condition ty a b) = []
notes_behind (Select c ty a b) = []
notes_behind (Cast op from a to) = []
notes_behind (Alloca ty count) = []
notes_behind (Load ty at) = []
notes_behind (Store ty value at) = note_of ty at value
notes_behind (Gep ty base indices) = []
notes_behind (Call result callee args) = []
notes_behind (Phi ty arms) = []
notes_behind (Rmw Xchg at ty value) = note_of ty at value
notes_behind (Rmw Add at ty value) = []
notes_behind (Rmw Sub at ty value) = []
notes_behind (Rmw And at ty value) = []
notes_behind (Rmw Or at ty value) = []
notes_behind (Rmw Xor at ty value) = []
notes_behind (Rmw Umax at ty value) = []
notes_behind (Rmw Umin at ty value) = []
notes_behind (Cmpxchg at ty expected written) = note_of ty at written
notes_behind (Extract ty of index) = []
notes_behind Fence = []
notes_behind (Ret operand) = []
notes_behind (Br target) = []
notes_behind (CondBr c target other) = []
notes_behind (Switch ty value other cases) = []
notes_behind Unreachable = []

-- the instruction and what stands behind it
abbrev pub noted_instr : Instr → List Instr
noted_instr instr = instr ∷ notes_behind instr.op

-- the block with its notes
abbrev pub noted_block : Block → Block
noted_block block = record { name = block.name; code = flat_map noted_instr block.code }

-- the function with its notes
abbrev pub noted_function : Function → Function
noted_function function = record {
  name = function.name;
  result = function.result;
  params = function.params;
  blocks = map noted_block function.blocks;
}

-- declare void @ds_note(ptr, ptr), whose parameters are the numbers from 0
abbrev pub declaration : Function
declaration = record {
  name = note_name;
  result = ty.Void;
  params = record { name = Number 0; ty = Ptr } ∷ record { name = Number 1; ty = Ptr } ∷ [];
  blocks = [];
}

-- the module with its notes, and the declaration behind its functions
abbrev pub noted : Module → Module
noted m = record {
  structs = m.structs;
  globals = m.globals;
  functions = map noted_function m.functions ++ declaration ∷ [];
}
