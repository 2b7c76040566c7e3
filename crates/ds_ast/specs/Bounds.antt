-- When a module is within its bounds: each literal, count, depth and number of a name is in its range, and each part
-- has the shape that its text gives it.
use Rattle.std.specs.Prelude.{◌≡◌, ◌+◌, ◌^◌, ◌<◌, ◌≤◌, ◌++◌, ℕ, Bool, true, false, max, List, [], ◌∷◌, map, length}
use Rattle.std.specs.Prelude.{flat_map, Option, Some, None, All, IfSome, is_some, ◌==◌, bytes_eq, if◌then◌else◌}
use Rattle.std.specs.Option.{option_to_list}
use Rattle.ds_ast.specs.declared.name.Name.{Name}
use Rattle.ds_ast.specs.declared.name.Name.TheVariants.{Number, Text}
use Rattle.ds_ast.specs.declared.ty.Scalar.{Scalar}
use Rattle.ds_ast.specs.declared.ty.Scalar.TheVariants.{I1, I8, I16, I32, I64, Ptr}
use Rattle.ds_ast.specs.declared.ty.Ty.{Ty, Void, One, Struct, Array', more_of-Ty, end_of-Ty}
use Rattle.ds_ast.specs.declared.value.Value.{Value}
use Rattle.ds_ast.specs.declared.value.Value.TheVariants.{Int, Null, Undef, Local, Global}
use Rattle.ds_ast.specs.declared.operand.Operand.{Operand}
use Rattle.ds_ast.specs.declared.operand.Arm.{Arm}
use Rattle.ds_ast.specs.declared.instr.Op.{Op}
use Rattle.ds_ast.specs.declared.instr.Op.TheVariants.{Bin, Icmp, Select, Cast, Alloca, Load, Store, Gep, Call, Phi}
use Rattle.ds_ast.specs.declared.instr.Op.TheVariants.{Rmw, Cmpxchg, Extract, Fence, Ret, Br, CondBr, Switch}
use Rattle.ds_ast.specs.declared.instr.Op.TheVariants.{Unreachable}
use Rattle.ds_ast.specs.declared.instr.Instr.{Instr}
use Rattle.ds_ast.specs.declared.init.Init.{Init, Zero, Word, Array', Fields', Row_of-Init, end_of-Init, more_of-Init}
use Rattle.ds_ast.specs.declared.module.Module.{Module}
use Rattle.ds_ast.specs.declared.module.StructDef.{StructDef}
use Rattle.ds_ast.specs.declared.module.GlobalDef.{GlobalDef}
use Rattle.ds_ast.specs.declared.module.Function.{Function}
use Rattle.ds_ast.specs.declared.module.Param.{Param}
use Rattle.ds_ast.specs.declared.module.Block.{Block}

-- the name is a number below 2^32, or a text of bytes
abbrev pub IsName : Name → Type 0
IsName (Number n) = n < 2 ^ 32
IsName (Text bytes) = All (λ byte. byte < 2 ^ 8) bytes

-- how many bits a literal of the type has: those of the type, and 64 for an address
abbrev pub width : Scalar → ℕ
width I1 = 1
width I8 = 8
width I16 = 16
width I32 = 32
width I64 = 64
width Ptr = 64

-- the counts of the arrays that are nested in the type, the outermost first
abbrev pub counts : Ty → List ℕ
counts Void = []
counts (One scalar) = []
counts (Array' count _ (more_of-Ty of end_of-Ty)) = count ∷ counts of
counts (Struct name) = []

-- the type inside all arrays
abbrev pub innermost : Ty → Ty
innermost Void = Void
innermost (One scalar) = One scalar
innermost (Array' count _ (more_of-Ty of end_of-Ty)) = innermost of
innermost (Struct name) = Struct name

-- a struct type has a name
abbrev pub IsNamed : Ty → Type 0
IsNamed Void = Unit {0}
IsNamed (One scalar) = Unit {0}
IsNamed (Array' count _ of) = Unit {0}
IsNamed (Struct name) = IsName name

-- the type nests at most 32 arrays, each of at most 2^31 elements
pub record IsType (ty : Ty) : Type 0 where
  pub depth : length (counts ty) ≤ 32
  pub elements : All (λ count. count ≤ 2 ^ 31) (counts ty)
  pub name : IsNamed (innermost ty)

-- a literal is below 2 to that many bits, and a name is one
abbrev pub IsValue : ℕ → Value → Type 0
IsValue bits (Int n) = n < 2 ^ bits
IsValue bits Null = Unit {0}
IsValue bits Undef = Unit {0}
IsValue bits (Local name) = IsName name
IsValue bits (Global name) = IsName name

-- the value is one of its type's width
abbrev pub IsOperand : Operand → Type 0
IsOperand operand = IsValue (width operand.ty) operand.value

-- the value is one of the type's width, and the block has a name
abbrev pub IsArm : Scalar → Arm → Type 0
IsArm ty arm = IsValue (width ty) arm.value × IsName arm.from

-- the number is below 2 to the type's width, and the block has a name
abbrev pub IsCase : Scalar → ℕ × Name → Type 0
IsCase ty case = (case.0 < 2 ^ width ty) × IsName case.1

-- what the instruction is given is in range: literals by the type that stands before them, an address as 64 bits, a
-- condition as one
abbrev pub IsOp : Op → Type 0
IsOp (Bin op ty a b) = IsValue (width ty) a × IsValue (width ty) b
IsOp (Icmp condition ty a b) = IsValue (width ty) a × IsValue (width ty) b
IsOp (Select c ty a b) = IsValue 1 c × IsValue (width ty) a × IsValue (width ty) b
IsOp (Cast op from a to) = IsValue (width from) a
IsOp (Alloca ty count) = IsType ty × IfSome count IsOperand
IsOp (Load ty at) = IsValue 64 at
IsOp (Store ty value at) = IsValue (width ty) value × IsValue 64 at
IsOp (Gep ty base indices) = IsType ty × IsValue 64 base × All IsOperand indices
IsOp (Call result callee args) = IsType result × IsName callee × All IsOperand args
IsOp (Phi ty arms) = (0 < length arms) × All (IsArm ty) arms
IsOp (Rmw op at ty value) = IsValue 64 at × IsValue (width ty) value
IsOp (Cmpxchg at ty expected written) = IsValue 64 at × IsValue (width ty) expected × IsValue (width ty) written
IsOp (Extract ty of index) = IsName of × (index ≤ 1)
IsOp Fence = Unit {0}
IsOp (Ret operand) = IfSome operand IsOperand
IsOp (Br target) = IsName target
IsOp (CondBr c target other) = IsValue 1 c × IsName target × IsName other
IsOp (Switch ty value other cases) = IsValue (width ty) value × IsName other × All (IsCase ty) cases
IsOp Unreachable = Unit {0}

-- there are values of the type: it is not `void`
abbrev pub has_values : Ty → Bool
has_values Void = false
has_values (One scalar) = true
has_values (Array' count _ of) = true
has_values (Struct name) = true

-- the instruction has a result
abbrev pub has_result : Op → Bool
has_result (Bin op ty a b) = true
has_result (Icmp condition ty a b) = true
has_result (Select c ty a b) = true
has_result (Cast op from a to) = true
has_result (Alloca ty count) = true
has_result (Load ty at) = true
has_result (Store ty value at) = false
has_result (Gep ty base indices) = true
has_result (Call result callee args) = has_values result
has_result (Phi ty arms) = true
has_result (Rmw op at ty value) = true
has_result (Cmpxchg at ty expected written) = true
has_result (Extract ty of index) = true
has_result Fence = false
has_result (Ret operand) = false
has_result (Br target) = false
has_result (CondBr c target other) = false
has_result (Switch ty value other cases) = false
has_result Unreachable = false

-- the instruction ends a block
abbrev pub is_terminator : Op → Bool
is_terminator (Bin op ty a b) = false
is_terminator (Icmp condition ty a b) = false
is_terminator (Select c ty a b) = false
is_terminator (Cast op from a to) = false
is_terminator (Alloca ty count) = false
is_terminator (Load ty at) = false
is_terminator (Store ty value at) = false
is_terminator (Gep ty base indices) = false
is_terminator (Call result callee args) = false
is_terminator (Phi ty arms) = false
is_terminator (Rmw op at ty value) = false
is_terminator (Cmpxchg at ty expected written) = false
is_terminator (Extract ty of index) = false
is_terminator Fence = false
is_terminator (Ret operand) = true
is_terminator (Br target) = true
is_terminator (CondBr c target other) = true
is_terminator (Switch ty value other cases) = true
is_terminator Unreachable = true

-- what the instruction is given is in range, and its result has a name exactly where it has a result
pub record IsInstr (instr : Instr) : Type 0 where
  pub given : IsOp instr.op
  pub has_name : is_some instr.result ≡ has_result instr.op
  pub name : IfSome instr.result IsName

-- the last instruction and no other is a terminator
abbrev pub IsEnded : List Instr → Type 0
IsEnded [] = ⊥
IsEnded (last ∷ []) = is_terminator last.op ≡ true
IsEnded (first ∷ second ∷ rest) = (is_terminator first.op ≡ false) × IsEnded (second ∷ rest)

-- the block has a name and instructions in range, of which the last ends it
pub record IsBlock (block : Block) : Type 0 where
  pub name : IsName block.name
  pub instructions : All IsInstr block.code
  pub ended : IsEnded block.code

-- the numbers among these names
abbrev pub numbers : List Name → List ℕ
numbers [] = []
numbers (Number n ∷ names) = n ∷ numbers names
numbers (Text bytes ∷ names) = numbers names

-- the label of the block, and the names of its results
abbrev pub names_of_block : Block → List Name
names_of_block block = block.name ∷ flat_map (λ instr. option_to_list instr.result) block.code

-- what the function names, in the order of its text: its parameters, then each block with its results
abbrev pub names_of : Function → List Name
names_of function = map (λ param. param.name) function.params ++ flat_map names_of_block function.blocks

-- each number is at least the counter, which is then one more than the number
abbrev pub IsCounted : ℕ → List ℕ → Type 0
IsCounted counter [] = Unit {0}
IsCounted counter (n ∷ rest) = (counter ≤ n) × IsCounted (n + 1) rest

-- the parameters are named by the numbers from this one on
abbrev pub IsNumbered : ℕ → List Param → Type 0
IsNumbered n [] = Unit {0}
IsNumbered n (param ∷ params) = (param.name ≡ Number n) × IsNumbered (n + 1) params

-- The function's parts are in range, and the numbers that it names rise from 0. A declaration has no blocks, and its
-- parameters are the numbers from 0.
pub record IsFunction (function : Function) : Type 0 where
  pub name : IsName function.name
  pub result : IsType function.result
  pub parameters : All (λ param. IsName param.name) function.params
  pub blocks : All IsBlock function.blocks
  pub counted : IsCounted 0 (numbers (names_of function))
  pub declared : function.blocks ≡ [] → IsNumbered 0 function.params

abbrev mutual
  -- how many brackets are open at once in the initialiser
  pub brackets : Init → ℕ
  brackets Zero = 0
  brackets (Word value) = 0
  brackets (Array' _ parts) = most_brackets parts + 1
  brackets (Fields' _ parts) = most_brackets parts + 1

  -- the most in one of its parts
  pub most_brackets : {m : _} → Row_of-Init m → ℕ
  most_brackets end_of-Init = 0
  most_brackets (more_of-Init part parts) = max (brackets part) (most_brackets parts)

-- the two names are one
abbrev pub is_name : Name → Name → Bool
is_name (Number m) (Number n) = m == n
is_name (Number m) (Text bytes) = false
is_name (Text bytes) (Number n) = false
is_name (Text a) (Text b) = bytes_eq a b

-- the fields of the first struct line of this name
abbrev pub fields_of : List StructDef → Name → Option (List Ty)
fields_of [] name = None
fields_of (line ∷ lines) name = if is_name line.name name then Some line.fields else fields_of lines name

-- a value that stands outside functions: it is no local value
abbrev pub IsConstant : Value → Type 0
IsConstant (Int n) = Unit {0}
IsConstant Null = Unit {0}
IsConstant Undef = Unit {0}
IsConstant (Local name) = ⊥
IsConstant (Global name) = Unit {0}

-- how many bits a literal behind the type has
abbrev pub width_at : Ty → ℕ
width_at Void = 64
width_at (One scalar) = width scalar
width_at (Array' count _ of) = 64
width_at (Struct name) = 64

-- the type of each element in square brackets behind the type, where there may be some: that of the array's elements
abbrev pub element_type : Ty → Option Ty
element_type Void = None
element_type (One scalar) = None
element_type (Array' count _ (more_of-Ty of end_of-Ty)) = Some of
element_type (Struct name) = None

-- the types of the elements in curly brackets behind the type: those of the struct's fields; there is no list where
-- they may not stand
abbrev pub field_types : List StructDef → Ty → Option (List Ty)
field_types structs Void = Some []
field_types structs (One scalar) = Some []
field_types structs (Array' count _ of) = Some []
field_types structs (Struct name) = fields_of structs name

module _ (structs : List StructDef) where
  abbrev mutual
    -- The initialiser may stand behind the type: a literal is in its range, and each element has a type to be written
    -- behind. An array may have too few elements and too many, a struct too few.
    pub Fits : Ty → Init → Type 0
    Fits ty Zero = Unit {0}
    Fits ty (Word value) = IsConstant value × IsValue (width_at ty) value
    Fits ty (Array' _ parts) = FitAll (element_type ty) parts
    Fits ty (Fields' _ parts) = FitInOrder (field_types structs ty) parts

    -- each element fits the one type
    pub FitAll : Option Ty → {m : _} → Row_of-Init m → Type 0
    FitAll of end_of-Init = Unit {0}
    FitAll None (more_of-Init part parts) = ⊥
    FitAll (Some of) (more_of-Init part parts) = Fits of part × FitAll (Some of) parts

    -- there are types, and each element fits the one at its place
    pub FitInOrder : Option (List Ty) → {m : _} → Row_of-Init m → Type 0
    FitInOrder None parts = ⊥
    FitInOrder (Some types) end_of-Init = Unit {0}
    FitInOrder (Some []) (more_of-Init part parts) = ⊥
    FitInOrder (Some (ty ∷ types)) (more_of-Init part parts) = Fits ty part × FitInOrder (Some types) parts

-- the struct type has a name, and types for fields
pub record IsStruct (line : StructDef) : Type 0 where
  pub name : IsName line.name
  pub fields : All IsType line.fields

-- the global's type is one, and its initialiser fits it and has at most 64 brackets open at once
pub record IsGlobal (structs : List StructDef) (global : GlobalDef) : Type 0 where
  pub name : IsName global.name
  pub of_type : IsType global.ty
  pub depth : brackets global.init ≤ 64
  pub fits : Fits structs global.ty global.init

-- the module is within its bounds
pub record Bounds (m : Module) : Type 0 where
  pub structs : All IsStruct m.structs
  pub globals : All (IsGlobal m.structs) m.globals
  pub functions : All IsFunction m.functions
