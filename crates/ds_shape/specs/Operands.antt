-- The operands of an instruction, and the values that it uses.
use Rattle.std.specs.Prelude.{List, [], ◌∷◌, map}
use Rattle.std.specs.Option.{option_to_list}
use Rattle.ds_ast.specs.declared.ty.Scalar.{Scalar}
use Rattle.ds_ast.specs.declared.ty.Scalar.TheVariants.{I1, Ptr}
use Rattle.ds_ast.specs.declared.value.Value.{Value}
use Rattle.ds_ast.specs.declared.value.Value.TheVariants.{Local, Global}
use Rattle.ds_ast.specs.declared.operand.Operand.{Operand}
use Rattle.ds_ast.specs.declared.operand.Arm.{Arm}
use Rattle.ds_ast.specs.declared.instr.Op.{Op}
use Rattle.ds_ast.specs.declared.instr.Op.TheVariants.{Bin, Icmp, Select, Cast, Alloca, Load, Store, Gep, Call, Phi}
use Rattle.ds_ast.specs.declared.instr.Op.TheVariants.{Rmw, Cmpxchg, Extract, Fence, Ret, Br, CondBr, Switch}
use Rattle.ds_ast.specs.declared.instr.Op.TheVariants.{Unreachable}

-- a value with the type that is written before it
abbrev pub typed : Scalar → Value → Operand
typed s v = record { ty = s; value = v }

-- The operands of an instruction in the order of the text, each with the type that is written before it. The arguments
-- of a call are apart, since what is called says
-- what they are; and so is the pair of which an extractvalue takes a part, since it has no type of a register.
abbrev pub operands_of : Op → List Operand
operands_of (Bin op s a b) = typed s a ∷ typed s b ∷ []
operands_of (Icmp cond s a b) = typed s a ∷ typed s b ∷ []
operands_of (Select c s a b) = typed I1 c ∷ typed s a ∷ typed s b ∷ []
operands_of (Cast op from a to) = typed from a ∷ []
operands_of (Alloca t count) = option_to_list count
operands_of (Load s at) = typed Ptr at ∷ []
operands_of (Store s v at) = typed s v ∷ typed Ptr at ∷ []
operands_of (Gep t base indices) = typed Ptr base ∷ indices
operands_of (Call t callee args) = []
operands_of (Phi s arms) = map (λ (a : Arm). typed s a.value) arms
operands_of (Rmw op at s v) = typed Ptr at ∷ typed s v ∷ []
operands_of (Cmpxchg at s expected new) = typed Ptr at ∷ typed s expected ∷ typed s new ∷ []
operands_of (Extract s of index) = []
operands_of Fence = []
operands_of (Ret v) = option_to_list v
operands_of (Br l) = []
operands_of (CondBr c l k) = typed I1 c ∷ []
operands_of (Switch s v other cases) = typed s v ∷ []
operands_of Unreachable = []

-- the values that an instruction uses, in the order of the text, without those of a phi, which are used at the ends of
-- other blocks
abbrev pub uses_of : Op → List Value
uses_of (Call t callee args) = Global callee ∷ map (λ (o : Operand). o.value) args
uses_of (Extract s of index) = Local of ∷ []
uses_of (Phi s arms) = []
uses_of other = map (λ (o : Operand). o.value) (operands_of other)
