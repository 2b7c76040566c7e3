-- Helpers of the code, which no public clause cites: the type behind an index of an address, as a function.
use Rattle.std.specs.Prelude.{ℕ, List, Option, Some, None, slice_get}
use Rattle.ds_ast.specs.declared.ty.Scalar.{Scalar}
use Rattle.ds_ast.specs.declared.ty.Scalar.TheVariants.{I1, I8, I16, I32, I64, Ptr}
use Rattle.ds_ast.specs.declared.ty.Ty.{Ty, Void, One, Struct, Array', more_of-Ty, end_of-Ty}
use Rattle.ds_ast.specs.declared.value.Value.{Value}
use Rattle.ds_ast.specs.declared.value.Value.TheVariants.{Int, Null, Undef, Local, Global}
use Rattle.ds_ast.specs.declared.operand.Operand.{Operand}
use Rattle.ds_ast.specs.declared.module.StructDef.{StructDef}
use Rattle.ds_ast.specs.Bounds.{fields_of}

-- the number that is written, if it is one of i32
abbrev pub literal : Scalar → Value → Option ℕ
literal I1 value = None
literal I8 value = None
literal I16 value = None
literal I32 (Int n) = Some n
literal I32 Null = None
literal I32 Undef = None
literal I32 (Local name) = None
literal I32 (Global name) = None
literal I64 value = None
literal Ptr value = None

-- the field of this number
abbrev pub numbered : List Ty → Option ℕ → Option Ty
numbered fields None = None
numbered fields (Some n) = slice_get fields n

-- the field that an index names
abbrev pub next_field : Option (List Ty) → Operand → Option Ty
next_field None index = None
next_field (Some fields) index = numbered fields (literal index.ty index.value)

-- the type behind one index more
abbrev pub next_type : List StructDef → Ty → Operand → Option Ty
next_type structs Void index = None
next_type structs (One s) index = None
next_type structs (Array' count _ (more_of-Ty of end_of-Ty)) index = Some of
next_type structs (Struct name) index = next_field (fields_of structs name) index
