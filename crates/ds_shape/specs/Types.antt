-- The types of values in a function, and which instructions keep the rules of types.
use Rattle.std.specs.Prelude.{◌≡◌, ℕ, zero, suc, ◌<◌, ◌⊎◌, List, [], ◌∷◌, ◌++◌, length, map, flat_map, Option, Some}
use Rattle.std.specs.Prelude.{None, slice_get, All, IfSome, IsSome}
use Rattle.ds_ast.specs.declared.name.Name.{Name}
use Rattle.ds_ast.specs.declared.ty.Scalar.{Scalar}
use Rattle.ds_ast.specs.declared.ty.Scalar.TheVariants.{I1, I8, I16, I32, I64, Ptr}
use Rattle.ds_ast.specs.declared.ty.Ty.{Ty, Void, One, Struct, Array', more_of-Ty, end_of-Ty}
use Rattle.ds_ast.specs.declared.value.Value.{Value}
use Rattle.ds_ast.specs.declared.value.Value.TheVariants.{Int, Null, Undef, Local, Global}
use Rattle.ds_ast.specs.declared.operand.Operand.{Operand}
use Rattle.ds_ast.specs.declared.words.BinOp.{BinOp}
use Rattle.ds_ast.specs.declared.words.BinOp.TheVariants as bin
use Rattle.ds_ast.specs.declared.words.CastOp.{CastOp}
use Rattle.ds_ast.specs.declared.words.CastOp.TheVariants as cast
use Rattle.ds_ast.specs.declared.words.RmwOp.TheVariants as rmw
use Rattle.ds_ast.specs.declared.instr.Op.{Op}
use Rattle.ds_ast.specs.declared.instr.Op.TheVariants.{Bin, Icmp, Select, Cast, Alloca, Load, Store, Gep, Call, Phi}
use Rattle.ds_ast.specs.declared.instr.Op.TheVariants.{Rmw, Cmpxchg, Extract, Fence, Ret, Br, CondBr, Switch}
use Rattle.ds_ast.specs.declared.instr.Op.TheVariants.{Unreachable}
use Rattle.ds_ast.specs.declared.instr.Instr.{Instr}
use Rattle.ds_ast.specs.declared.init.Init.{Init, Zero, Word, Array', Fields', Row_of-Init, end_of-Init, more_of-Init}
use Rattle.ds_ast.specs.declared.module.Module.{Module}
use Rattle.ds_ast.specs.declared.module.GlobalDef.{GlobalDef}
use Rattle.ds_ast.specs.declared.module.Function.{Function}
use Rattle.ds_ast.specs.declared.module.Param.{Param}
use Rattle.ds_ast.specs.declared.module.Block.{Block}
use Rattle.ds_ast.specs.Bounds.{width, fields_of}
use Rattle.ds_names.specs.Names.{Among}
use Rattle.ds_shape.specs.Operands.{operands_of}
use Rattle.ds_shape.specs.Address.{steps_into, address_steps}
use Rattle.ds_shape.specs.Externals.{TakesFunction, TakesNull, IsThreadFunction}
use Rattle.ds_shape.specs.declared.local.LocalType.{LocalType}
use Rattle.ds_shape.specs.declared.local.LocalType.TheVariants.{Plain, Pair}

-- LISTS

-- the item stands in the list
abbrev pub Stands : {A : Type 0} → A → List A → Type 0
Stands {A} item items = (before : List A) × (after : List A) × (items ≡ before ++ item ∷ after)

-- no number stands there twice
abbrev pub AreDistinctNumbers : List ℕ → Type 0
AreDistinctNumbers [] = Unit {0}
AreDistinctNumbers (n ∷ ns) = All (λ m. m ≡ n → ⊥) ns × AreDistinctNumbers ns

-- NAMES

-- a global has the name
abbrev pub IsGlobal : Module → Name → Type 0
IsGlobal m name = Among name (map (λ (g : GlobalDef). g.name) m.globals)

-- a function has the name
abbrev pub IsFunction : Module → Name → Type 0
IsFunction m name = Among name (map (λ (f : Function). f.name) m.functions)

-- TYPES OF LOCAL VALUES

-- the types of the values of a type: none of void, arrays and structs
abbrev pub register_type : Ty → Option LocalType
register_type Void = None
register_type (One s) = Some (Plain s)
register_type (Array' count _ of) = None
register_type (Struct name) = None

-- the two parts of a cmpxchg's result: the old value, and whether it exchanged
abbrev pub part_type : Scalar → ℕ → Scalar
part_type s zero = s
part_type s (suc n) = I1

-- the type of an instruction's result, where it has one that a register or a pair holds
abbrev pub result_type : Op → Option LocalType
result_type (Bin op s a b) = Some (Plain s)
result_type (Icmp cond s a b) = Some (Plain I1)
result_type (Select c s a b) = Some (Plain s)
result_type (Cast op from a to) = Some (Plain to)
result_type (Alloca t count) = Some (Plain Ptr)
result_type (Load s at) = Some (Plain s)
result_type (Store s v at) = None
result_type (Gep t base indices) = Some (Plain Ptr)
result_type (Call t callee args) = register_type t
result_type (Phi s arms) = Some (Plain s)
result_type (Rmw op at s v) = Some (Plain s)
result_type (Cmpxchg at s expected new) = Some (Pair s)
result_type (Extract s of index) = Some (Plain (part_type s index))
result_type Fence = None
result_type (Ret v) = None
result_type (Br l) = None
result_type (CondBr c l k) = None
result_type (Switch s v other cases) = None
result_type Unreachable = None

-- the instructions of a function in the order of the text
abbrev pub instructions_of : Function → List Instr
instructions_of f = flat_map (λ (b : Block). b.code) f.blocks

-- a parameter or an instruction defines the name with this type
abbrev pub Defines : Function → Name → Option LocalType → Type 0
Defines f name t =
    ((p : Param) × Stands p f.params × (p.name ≡ name) × (t ≡ Some (Plain p.ty)))
    ⊎ ((i : Instr) × Stands i (instructions_of f) × (i.result ≡ Some name) × (t ≡ result_type i.op))

-- VALUES

-- integers, and those of 8 bits or more
abbrev pub IsInteger : Scalar → Type 0
IsInteger s = s ≡ Ptr → ⊥

abbrev pub IsWide : Scalar → Type 0
IsWide s = IsInteger s × (s ≡ I1 → ⊥)

-- the type is that of words in memory: no truth value is loaded or stored
abbrev pub IsStored : Scalar → Type 0
IsStored s = s ≡ I1 → ⊥

-- INSTRUCTIONS

-- the operation is one of bits, which truth values have
abbrev pub IsBitwise : BinOp → Type 0
IsBitwise op = (op ≡ bin.And) ⊎ ((op ≡ bin.Or) ⊎ (op ≡ bin.Xor))

-- the conversion goes from the one type to the other
abbrev pub Converts : CastOp → Scalar → Scalar → Type 0
Converts cast.Zext from to = IsInteger from × IsInteger to × (width from < width to)
Converts cast.Sext from to = IsInteger from × IsInteger to × (width from < width to)
Converts cast.Trunc from to = IsInteger from × IsInteger to × (width to < width from)
Converts cast.PtrToInt from to = (from ≡ Ptr) × IsWide to
Converts cast.IntToPtr from to = IsWide from × (to ≡ Ptr)

-- the type has values
abbrev pub IsNoVoid : Ty → Type 0
IsNoVoid t = t ≡ Void → ⊥

module _ (m : Module) where
  -- each index leads into the type to which the one before leads
  abbrev pub Walks : Ty → List Operand → Type 0
  Walks t indices = IsSome (steps_into m.structs t indices)

  -- the indices of an address: the first counts whole values of the type, the others walk into it
  abbrev pub Addresses : Ty → List Operand → Type 0
  Addresses t indices = IsSome (address_steps m.structs t indices)

  -- the value is the name of a function that a thread runs
  abbrev pub IsThreadStart : Value → Type 0
  IsThreadStart (Int n) = ⊥
  IsThreadStart Null = ⊥
  IsThreadStart Undef = ⊥
  IsThreadStart (Local name) = ⊥
  IsThreadStart (Global name) = (g : Function) × Stands g m.functions × (g.name ≡ name) × IsThreadFunction g

module _ (m : Module) (f : Function) where
  -- the value has the type: a number any integer, null that of addresses, undef any, a local that of its definition, a
  -- global's name that of addresses; no function's name is a value
  abbrev pub HasType : Scalar → Value → Type 0
  HasType s (Int n) = IsInteger s
  HasType s Null = s ≡ Ptr
  HasType s Undef = Unit {0}
  HasType s (Local name) = Defines f name (Some (Plain s))
  HasType s (Global name) = (s ≡ Ptr) × IsGlobal m name

  abbrev pub IsTypedOperand : Operand → Type 0
  IsTypedOperand o = HasType o.ty o.value

  -- the argument behind so many others is what the function takes there: the name of a function that a thread runs, or
  -- else an operand; and null where it takes null
  abbrev pub IsPassedAs : Function → ℕ → Operand → Type 0
  IsPassedAs g n o =
      (TakesFunction g n → IsThreadStart m o.value) × ((TakesFunction g n → ⊥) → IsTypedOperand o)
      × (TakesNull g n → o.value ≡ Null)

  -- there are as many arguments as parameters, each of the parameter's type
  abbrev pub ArePassed : Function → List Operand → Type 0
  ArePassed g args =
      (length args ≡ length g.params)
      × ((n : ℕ) (o : Operand) (p : Param) → slice_get args n ≡ Some o → slice_get g.params n ≡ Some p
      → (o.ty ≡ p.ty) × IsPassedAs g n o)

  -- The rule of each instruction beside that of its operands, with the name of its section in the LLVM Language
  -- Reference.
  abbrev pub KeepsRule : Op → Type 0
  -- 'add' to 'xor' Instruction: integers, and truth values for operations of bits alone
  KeepsRule (Bin op s a b) = IsInteger s × (s ≡ I1 → IsBitwise op)
  -- 'icmp' Instruction
  KeepsRule (Icmp cond s a b) = Unit {0}
  -- 'select' Instruction
  KeepsRule (Select c s a b) = Unit {0}
  -- 'trunc .. to', 'zext .. to', 'sext .. to', 'ptrtoint .. to' and 'inttoptr .. to' Instruction
  KeepsRule (Cast op from a to) = Converts op from to
  -- 'alloca' Instruction: the count is an integer
  KeepsRule (Alloca t count) = IsNoVoid t × IfSome count (λ o. IsInteger o.ty)
  -- 'load' Instruction
  KeepsRule (Load s at) = IsStored s
  -- 'store' Instruction
  KeepsRule (Store s v at) = IsStored s
  -- 'getelementptr' Instruction
  KeepsRule (Gep t base indices) = IsNoVoid t × All (λ (o : Operand). IsWide o.ty) indices × Addresses m t indices
  -- 'call' Instruction: the function gives what is written, and is passed what it takes
  KeepsRule (Call t callee args) =
      (g : Function) × Stands g m.functions × (g.name ≡ callee) × (t ≡ g.result) × ArePassed g args
  -- 'phi' Instruction
  KeepsRule (Phi s arms) = Unit {0}
  -- 'atomicrmw' Instruction: addresses are exchanged alone
  KeepsRule (Rmw op at s v) = IsStored s × (s ≡ Ptr → op ≡ rmw.Xchg)
  -- 'cmpxchg' Instruction
  KeepsRule (Cmpxchg at s expected new) = IsStored s
  -- 'extractvalue' Instruction: a part of the result of a cmpxchg
  KeepsRule (Extract s of index) = Defines f of (Some (Pair s))
  -- 'fence' Instruction
  KeepsRule Fence = Unit {0}
  -- 'ret' Instruction: what the function gives
  KeepsRule (Ret None) = f.result ≡ Void
  KeepsRule (Ret (Some o)) = f.result ≡ One o.ty
  -- 'br' Instruction
  KeepsRule (Br l) = Unit {0}
  KeepsRule (CondBr c l k) = Unit {0}
  -- 'switch' Instruction: no number stands there twice
  KeepsRule (Switch s v other cases) = IsWide s × AreDistinctNumbers (map (λ (c : ℕ × Name). c.0) cases)
  -- 'unreachable' Instruction
  KeepsRule Unreachable = Unit {0}

  -- each operand of the instruction has the type that is written before it, and the instruction keeps its rule
  abbrev pub IsTypedOp : Op → Type 0
  IsTypedOp o = All IsTypedOperand (operands_of o) × KeepsRule o

-- INITIALISERS

-- how many elements an array has, and of which type
abbrev pub array_of : Ty → Option (ℕ × Ty)
array_of Void = None
array_of (One s) = None
array_of (Array' count _ (more_of-Ty of end_of-Ty)) = Some (count, of)
array_of (Struct name) = None

-- the types of a struct's fields
abbrev pub struct_fields : Module → Ty → Option (List Ty)
struct_fields m Void = None
struct_fields m (One s) = None
struct_fields m (Array' count _ of) = None
struct_fields m (Struct name) = fields_of m.structs name

module _ (m : Module) where
  -- a value in a global has the type: a number any integer, null and the name of a global that of addresses, undef any
  -- register's
  abbrev pub IsConstant : Scalar → Value → Type 0
  IsConstant s (Int n) = IsInteger s
  IsConstant s Null = s ≡ Ptr
  IsConstant s Undef = Unit {0}
  IsConstant s (Local name) = ⊥
  IsConstant s (Global name) = (s ≡ Ptr) × IsGlobal m name

  -- a value behind a type: that of a register
  abbrev pub IsConstantOf : Ty → Value → Type 0
  IsConstantOf Void v = ⊥
  IsConstantOf (One s) v = IsConstant s v
  IsConstantOf (Array' count _ of) v = ⊥
  IsConstantOf (Struct name) v = ⊥

  abbrev mutual
    -- the initialiser has the type: zeros have any, an array as many elements as it says, a struct all its fields
    pub IsInitial : Ty → Init → Type 0
    IsInitial t Zero = Unit {0}
    IsInitial t (Word v) = IsConstantOf t v
    IsInitial t (Array' _ parts) = AreElements (array_of t) parts
    IsInitial t (Fields' _ parts) = AreFields (struct_fields m t) parts

    -- so many elements of the type
    pub AreElements : Option (ℕ × Ty) → {m : _} → Row_of-Init m → Type 0
    AreElements None parts = ⊥
    AreElements (Some of) end_of-Init = of.0 ≡ 0
    AreElements (Some of) (more_of-Init part parts) =
        (n : ℕ) × (of.0 ≡ suc n) × IsInitial of.1 part × AreElements (Some (n, of.1)) parts

    -- one part for each type
    pub AreFields : Option (List Ty) → {m : _} → Row_of-Init m → Type 0
    AreFields None parts = ⊥
    AreFields (Some []) end_of-Init = Unit {0}
    AreFields (Some []) (more_of-Init part parts) = ⊥
    AreFields (Some (t ∷ ts)) end_of-Init = ⊥
    AreFields (Some (t ∷ ts)) (more_of-Init part parts) = IsInitial t part × AreFields (Some ts) parts
