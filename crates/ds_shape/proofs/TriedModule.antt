-- A small module, on which definitions are tried.
use Rattle.std.proofs.Common.{ℕ, List, [], ◌∷◌, Some, None}
use Rattle.std.specs.Prelude.{codes}
use Rattle.ds_ast.specs.declared.name.Name.TheVariants.{Number, Text}
use Rattle.ds_ast.specs.declared.ty.Scalar.{Scalar}
use Rattle.ds_ast.specs.declared.ty.Scalar.TheVariants.{I1, I32, I64, Ptr}
use Rattle.ds_ast.specs.declared.ty.Ty as ty
use Rattle.ds_ast.specs.declared.value.Value.{Value}
use Rattle.ds_ast.specs.declared.value.Value.TheVariants.{Int, Local, Global}
use Rattle.ds_ast.specs.declared.operand.Operand.{Operand}
use Rattle.ds_ast.specs.declared.operand.Arm.{Arm}
use Rattle.ds_ast.specs.declared.words.Cond.TheVariants.{Eq}
use Rattle.ds_ast.specs.declared.instr.Op.{Op}
use Rattle.ds_ast.specs.declared.instr.Op.TheVariants.{Icmp, Alloca, Load, Store, Call, Phi, Ret, Br, CondBr}
use Rattle.ds_ast.specs.declared.instr.Instr.{Instr}
use Rattle.ds_ast.specs.declared.init.Init as init
use Rattle.ds_ast.specs.declared.module.Module.{Module}
use Rattle.ds_ast.specs.declared.module.GlobalDef.{GlobalDef}
use Rattle.ds_ast.specs.declared.module.Function.{Function}
use Rattle.ds_ast.specs.declared.module.Block.{Block}

abbrev pub named : ℕ → Op → Instr
named n op = record { result = Some (Number n); op = op }

abbrev pub unnamed : Op → Instr
unnamed op = record { result = None; op = op }

abbrev pub block : ℕ → List Instr → Block
block n code = record { name = Number n; code = code }

abbrev pub operand : Scalar → Value → Operand
operand s v = record { ty = s; value = v }

abbrev pub local : ℕ → Value
local n = Local (Number n)

abbrev pub arm : Value → ℕ → Arm
arm v n = record { value = v; from = Number n }

-- @g = global i64 7
abbrev pub g : GlobalDef
g = record { name = Text (codes "g"); ty = ty.One I64; init = init.Word (Int 7) }

-- declare void @print_i64(i64)
abbrev pub print : Function
print = record { name = Text (codes "print_i64"); result = ty.Void; params = record { name = Number 0; ty = I64 } ∷ []; blocks = [] }

-- define i32 @main(), of which the blocks are given
abbrev pub main_of : List Block → Function
main_of blocks = record { name = Text (codes "main"); result = ty.One I32; params = []; blocks = blocks }

-- %1 = alloca i64, store i64 7, ptr %1, %2 = icmp eq ptr %1, @g, br i1 %2, label %3, label %5
abbrev pub slot : Instr
slot = named 1 (Alloca (ty.One I64) None)

abbrev pub fill : Instr
fill = unnamed (Store I64 (Int 7) (local 1))

abbrev pub test : Instr
test = named 2 (Icmp Eq Ptr (local 1) (Global (Text (codes "g"))))

abbrev pub fork : Instr
fork = unnamed (CondBr (local 2) (Number 3) (Number 5))

abbrev pub entry : Block
entry = block 0 (slot ∷ fill ∷ test ∷ fork ∷ [])

-- %4 = load i64, ptr %1, br label %5
abbrev pub read : Instr
read = named 4 (Load I64 (local 1))

abbrev pub jump : Instr
jump = unnamed (Br (Number 5))

abbrev pub left : Block
left = block 3 (read ∷ jump ∷ [])

-- %6 = phi i64 [ 1, %0 ], [ %4, %3 ], call void @print_i64(i64 %6), ret i32 0
abbrev pub merge : Instr
merge = named 6 (Phi I64 (arm (Int 1) 0 ∷ arm (local 4) 3 ∷ []))

abbrev pub show : Instr
show = unnamed (Call ty.Void (Text (codes "print_i64")) (operand I64 (local 6) ∷ []))

abbrev pub end : Instr
end = unnamed (Ret (Some (operand I32 (Int 0))))

abbrev pub join : Block
join = block 5 (merge ∷ show ∷ end ∷ [])

abbrev pub main : Function
main = main_of (entry ∷ left ∷ join ∷ [])

abbrev pub whole : Module
whole = record { structs = []; globals = g ∷ []; functions = main ∷ print ∷ [] }
