-- The types that are written in a module, and which are faults. The order is that of the canonical text: struct types,
-- globals, functions.
use Rattle.std.specs.Prelude.{◌≡◌, ◌<◌, ◌^◌, Bool, true, false, ◌⊎◌, List, [], ◌∷◌, ◌++◌, map, flat_map, Some, All}
use Rattle.ds_ast.specs.declared.name.Name.{Name}
use Rattle.ds_ast.specs.declared.ty.Ty.{Ty, Void, One, Struct, Array', more_of-Ty, end_of-Ty}
use Rattle.ds_ast.specs.declared.ty.Ty as ty
use Rattle.ds_ast.specs.declared.instr.Op.{Op}
use Rattle.ds_ast.specs.declared.instr.Op.TheVariants.{Bin, Icmp, Select, Cast, Alloca, Load, Store, Gep, Call, Phi, Rmw, Cmpxchg, Extract, Fence, Ret, Br, CondBr, Switch, Unreachable}
use Rattle.ds_ast.specs.declared.module.Module.{Module}
use Rattle.ds_ast.specs.declared.module.StructDef.{StructDef}
use Rattle.ds_ast.specs.declared.module.GlobalDef.{GlobalDef}
use Rattle.ds_ast.specs.declared.module.Function.{Function}
use Rattle.ds_ast.specs.declared.module.Block.{Block}
use Rattle.ds_ast.specs.Bounds.{fields_of}
use Rattle.ds_names.specs.Names.{Among}
use Rattle.ds_shape.specs.Sizes.{Extent, HasExtent}

-- TYPES

-- the types that an instruction writes, beside those of registers
abbrev pub types_of_op : Op → List Ty
types_of_op (Alloca t count) = t ∷ []
types_of_op (Gep t base indices) = t ∷ []
types_of_op (Call t callee args) = t ∷ []
types_of_op (Bin op s a b) = []
types_of_op (Icmp cond s a b) = []
types_of_op (Select c s a b) = []
types_of_op (Cast op from a to) = []
types_of_op (Load s at) = []
types_of_op (Store s v at) = []
types_of_op (Phi s arms) = []
types_of_op (Rmw op at s v) = []
types_of_op (Cmpxchg at s expected new) = []
types_of_op (Extract s of index) = []
types_of_op Fence = []
types_of_op (Ret v) = []
types_of_op (Br l) = []
types_of_op (CondBr c l m) = []
types_of_op (Switch s v other cases) = []
types_of_op Unreachable = []

-- the types that a function writes: its result, and those of its instructions
abbrev pub types_of_function : Function → List Ty
types_of_function f = f.result ∷ flat_map (λ (b : Block). flat_map (λ i. types_of_op i.op) b.code) f.blocks

-- a line of the module: its name, whether it is a struct type's, and the types that it writes
pub record Line : Type 0 where
  pub name : Name
  pub is_struct : Bool
  pub types : List Ty

abbrev pub struct_line : StructDef → Line
struct_line s = record { name = s.name; is_struct = true; types = s.fields }

abbrev pub global_line : GlobalDef → Line
global_line g = record { name = g.name; is_struct = false; types = g.ty ∷ [] }

abbrev pub function_line : Function → Line
function_line f = record { name = f.name; is_struct = false; types = types_of_function f }

-- all lines in the order of the text
abbrev pub lines_of : Module → List Line
lines_of m = map struct_line m.structs ++ map global_line m.globals ++ map function_line m.functions

-- the struct type inside all arrays, if there is one
abbrev pub struct_in : Ty → List Name
struct_in Void = []
struct_in (One s) = []
struct_in (Array' count _ (more_of-Ty of end_of-Ty)) = struct_in of
struct_in (Struct name) = name ∷ []

-- the struct types that are written, in the order of the text
abbrev pub written_names : Module → List Name
written_names m = flat_map (λ (l : Line). flat_map struct_in l.types) (lines_of m)

-- the names of struct lines
abbrev pub struct_names : List StructDef → List Name
struct_names structs = map (λ s. s.name) structs

-- FIRST ITEMS

-- the item has the property, and none before it has
pub record IsFirst {A : Type 0} (P : A → Type 0) (items : List A) (item : A) : Type 0 where
  pub before : List A
  pub after : List A
  pub split : items ≡ before ++ item ∷ after
  pub has : P item
  pub none_before : All (λ x. P x → ⊥) before

-- the item breaks the rule, and all before it keep it
pub record IsFirstBreach {A : Type 0} (Keeps : A → Type 0) (items : List A) (item : A) : Type 0 where
  pub before : List A
  pub after : List A
  pub split : items ≡ before ++ item ∷ after
  pub breaks : Keeps item → ⊥
  pub kept_before : All Keeps before

-- FAULTS

-- no struct line has the name
abbrev pub IsUnknown : Module → Name → Type 0
IsUnknown m name = Among name (struct_names m.structs) → ⊥

-- the struct of the first name holds one of the second by value, itself or in an array, however many elements that has
abbrev pub Holds : List StructDef → Name → Name → Type 0
Holds structs name held =
    (fields : List Ty) × (fields_of structs name ≡ Some fields) × Among held (flat_map struct_in fields)

-- the struct of the first name holds one of the last, by way of these
abbrev pub HoldsThrough : List StructDef → Name → List Name → Name → Type 0
HoldsThrough structs name [] last = Holds structs name last
HoldsThrough structs name (n ∷ names) last = Holds structs name n × HoldsThrough structs n names last

-- the struct holds itself by value
abbrev pub IsRecursive : List StructDef → Name → Type 0
IsRecursive structs name = (names : List Name) × HoldsThrough structs name names name

-- the type has more than 2 ^ 31 bytes
abbrev pub IsTooLarge : List StructDef → Ty → Type 0
IsTooLarge structs t = (e : Extent) × HasExtent structs t e × (2 ^ 31 < e.size)

-- the type, or one written inside it, has more than 2 ^ 31 bytes
abbrev pub WritesTooLarge : List StructDef → Ty → Type 0
WritesTooLarge structs Void = ⊥
WritesTooLarge structs (One s) = ⊥
WritesTooLarge structs (Array' count _ (more_of-Ty of end_of-Ty)) =
    IsTooLarge structs (ty.Array count of) ⊎ WritesTooLarge structs of
WritesTooLarge structs (Struct name) = IsTooLarge structs (Struct name)

-- some type of the line does
abbrev pub AnyTooLarge : List StructDef → List Ty → Type 0
AnyTooLarge structs [] = ⊥
AnyTooLarge structs (t ∷ ts) = WritesTooLarge structs t ⊎ AnyTooLarge structs ts
