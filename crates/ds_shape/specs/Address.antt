-- What the indices of an address mean (LLVM Language Reference, 'getelementptr' Instruction): each leads to a type,
-- and adds bytes.
use Rattle.std.specs.Prelude.{ℕ, ◌+◌, ◌*◌, List, [], ◌∷◌, Option, Some, None, option_map}
use Rattle.std.specs.List.{slice_get}
use Rattle.std.specs.Option.{unwrap_or}
use Rattle.ds_ast.specs.declared.name.Name.{Name}
use Rattle.ds_ast.specs.declared.ty.Scalar.{Scalar}
use Rattle.ds_ast.specs.declared.ty.Scalar.TheVariants.{I1, I8, I16, I32, I64, Ptr}
use Rattle.ds_ast.specs.declared.ty.Ty.{Ty, Void, One, Struct, Array', more_of-Ty, end_of-Ty}
use Rattle.ds_ast.specs.declared.value.Value.{Value}
use Rattle.ds_ast.specs.declared.value.Value.TheVariants.{Int, Null, Undef, Local, Global}
use Rattle.ds_ast.specs.declared.operand.Operand.{Operand}
use Rattle.ds_ast.specs.declared.module.StructDef.{StructDef}
use Rattle.ds_ast.specs.Bounds.{fields_of}
use Rattle.ds_shape.specs.Sizes.{◌>>=◌, layout_of, offset_of}

-- one index: the type to which it leads, the bytes that it adds whatever its value, and those that it adds for each
-- unit of its value
pub record Step : Type 0 where
  pub next : Ty
  pub fixed : ℕ
  pub scale : ℕ

-- the number that the literal is
abbrev pub literal_of : Value → Option ℕ
literal_of (Int n) = Some n
literal_of Null = None
literal_of Undef = None
literal_of (Local name) = None
literal_of (Global name) = None

-- the field that an index names: a literal of i32
abbrev pub field_number : Scalar → Value → Option ℕ
field_number I1 v = None
field_number I8 v = None
field_number I16 v = None
field_number I32 v = literal_of v
field_number I64 v = None
field_number Ptr v = None

-- any index of an array leads to the type of its elements, and adds their size for each unit
abbrev pub element_step : List StructDef → Ty → Step
element_step structs of = record { next = of; fixed = 0; scale = (layout_of structs of).size }

-- the number of a field leads to its type, and adds its offset
abbrev pub field_step : List StructDef → Name → ℕ → Option Step
field_step structs name n =
    fields_of structs name
    >>= (λ fields. slice_get fields n
    >>= (λ t. Some (record { next = t; fixed = unwrap_or (offset_of structs name n) 0; scale = 0 })))

-- an index into a type: into an array or a struct
abbrev pub step_into : List StructDef → Ty → Operand → Option Step
step_into structs Void index = None
step_into structs (One s) index = None
step_into structs (Array' count _ (more_of-Ty of end_of-Ty)) index = Some (element_step structs of)
step_into structs (Struct name) index = field_number index.ty index.value >>= field_step structs name

-- indices into a type, each into the type to which the one before leads
abbrev pub steps_into : List StructDef → Ty → List Operand → Option (List Step)
steps_into structs t [] = Some []
steps_into structs t (i ∷ is) =
    step_into structs t i >>= (λ s. option_map (λ ss. s ∷ ss) (steps_into structs s.next is))

-- the indices of an address: the first counts whole values of the type, as if they were elements, and the others lead
-- into it
abbrev pub address_steps : List StructDef → Ty → List Operand → Option (List Step)
address_steps structs t [] = Some []
address_steps structs t (i ∷ is) = option_map (λ ss. element_step structs t ∷ ss) (steps_into structs t is)

-- the type behind steps from a type
abbrev pub type_behind : Ty → List Step → Ty
type_behind t [] = t
type_behind t (s ∷ ss) = type_behind s.next ss

-- the bytes that steps add, by the values of their indices
abbrev pub bytes_added : List Step → List ℕ → ℕ
bytes_added [] values = 0
bytes_added (s ∷ ss) [] = 0
bytes_added (s ∷ ss) (v ∷ vs) = s.fixed + s.scale * v + bytes_added ss vs
