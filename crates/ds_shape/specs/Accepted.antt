-- When a module is well formed, and when it is accepted. The fields of a record stand in the order in which the faults
-- are looked for, one a fault.
--
-- To be read in this order: Bounds of ds_ast, which the module of a text keeps; Sizes and Written: the sizes of types;
-- Operands, Externals and Types: values, the functions that are declared, and the rule of types of each instruction;
-- Flow: blocks and paths; Placed: the rules of one instruction; and this file.
use Rattle.std.specs.Prelude.{◌≡◌, ℕ, ◌+◌, ◌/◌, ◌≤◌, ◌⊎◌, List, [], ◌∷◌, ◌++◌, length, map, flat_map, All, codes}
use Rattle.ds_ast.specs.declared.name.Name.{Name}
use Rattle.ds_ast.specs.declared.name.Name.TheVariants.{Number, Text}
use Rattle.ds_ast.specs.declared.ty.Scalar.TheVariants.{I32, Ptr}
use Rattle.ds_ast.specs.declared.ty.Ty.{Void, One}
use Rattle.ds_ast.specs.declared.module.Module.{Module}
use Rattle.ds_ast.specs.declared.module.StructDef.{StructDef}
use Rattle.ds_ast.specs.declared.module.GlobalDef.{GlobalDef}
use Rattle.ds_ast.specs.declared.module.Function.{Function}
use Rattle.ds_ast.specs.Bounds.{Bounds, names_of}
use Rattle.ds_names.specs.Names.{AreDistinct}
use Rattle.ds_shape.specs.Sizes.{Extent, HasExtent, rounded}
use Rattle.ds_shape.specs.Written.{Line, lines_of, written_names, struct_names, IsUnknown, IsRecursive, AnyTooLarge}
use Rattle.ds_shape.specs.Externals.{IsCalled, IsDeclaredFrom, externals, parameter_types}
use Rattle.ds_shape.specs.Types.{Stands, instructions_of, IsTypedOp, IsInitial}
use Rattle.ds_shape.specs.Placed.{Placed, placed_of, GivesRegister, KeepsTargets, KeepsDefined, KeepsPhi}
use Rattle.ds_shape.specs.Placed.{KeepsAssigned}

-- LAYOUT

-- the module has a layout: each struct has one line, each name of one has a line, none holds itself, and no type that
-- is written has more than 2 ^ 31 bytes
pub record HasLayout (m : Module) : Type 0 where
  pub no_twice_type : AreDistinct (struct_names m.structs)
  pub no_unknown : All (λ name. IsUnknown m name → ⊥) (written_names m)
  pub no_recursive_type : All (λ name. IsRecursive m.structs name → ⊥) (struct_names m.structs)
  pub no_too_large : All (λ (l : Line). AnyTooLarge m.structs l.types → ⊥) (lines_of m)

-- NAMES

-- the names of globals and functions
abbrev pub global_names : Module → List Name
global_names m = map (λ (g : GlobalDef). g.name) m.globals ++ map (λ (f : Function). f.name) m.functions

-- parameters, labels and results: what a function's local names and labels name, in one set
abbrev pub local_names : Function → List Name
local_names f = names_of f

-- the name begins with ds_, which is kept for what the program adds
abbrev pub IsReserved : Name → Type 0
IsReserved (Number n) = ⊥
IsReserved (Text bytes) = (rest : List ℕ) × (bytes ≡ codes "ds_" ++ rest)

-- a global's name is not kept for what the program adds
abbrev pub IsFreeGlobal : GlobalDef → Type 0
IsFreeGlobal g = IsReserved g.name → ⊥

-- nor is a function's; and one that is declared is an external
abbrev pub IsGoodExternal : Function → Type 0
IsGoodExternal f = (IsReserved f.name → ⊥) × IsDeclaredFrom externals f

-- COUNTS

-- so many at most
abbrev pub most_functions : ℕ
most_functions = 1024

abbrev pub most_instructions : ℕ
most_instructions = 200000

abbrev pub most_parameters : ℕ
most_parameters = 64

abbrev pub most_global_words : ℕ
most_global_words = 4096

-- the words of globals from one on: each begins at a multiple of 8 bytes
abbrev pub HasWords : List StructDef → List GlobalDef → ℕ → Type 0
HasWords structs [] n = n ≡ 0
HasWords structs (g ∷ gs) n =
    (e : Extent) × (k : ℕ) × HasExtent structs g.ty e × HasWords structs gs k × (n ≡ rounded e.size 8 / 8 + k)

-- functions that are declared or defined
abbrev pub HasFewFunctions : Module → Type 0
HasFewFunctions m = length m.functions ≤ most_functions

-- instructions of all functions
abbrev pub HasFewInstructions : Module → Type 0
HasFewInstructions m = length (flat_map instructions_of m.functions) ≤ most_instructions

-- parameters of each function
abbrev pub HasFewParameters : Module → Type 0
HasFewParameters m = All (λ (f : Function). length f.params ≤ most_parameters) m.functions

-- words of all globals
abbrev pub HasFewGlobalWords : Module → Type 0
HasFewGlobalWords m = (n : ℕ) → HasWords m.structs m.globals n → n ≤ most_global_words

-- FUNCTIONS

-- the instruction keeps all rules
pub record IsGoodInstr (m : Module) (f : Function) (p : Placed) : Type 0 where
  pub no_bad_block : KeepsTargets f p
  pub no_undefined : KeepsDefined m f p
  pub no_wrong_type : IsTypedOp m f p.instr.op
  pub no_bad_phi : KeepsPhi f p
  pub assigned : KeepsAssigned f p

-- no local name stands twice, the result is none or what a register holds, and each instruction keeps all rules
pub record IsGoodFunction (m : Module) (f : Function) : Type 0 where
  pub no_twice_local : AreDistinct (local_names f)
  pub gives : GivesRegister f.result
  pub instructions : All (IsGoodInstr m f) (placed_of f)

-- a function that is defined is a good one
abbrev pub IsGood : Module → Function → Type 0
IsGood m f = (f.blocks ≡ [] → ⊥) → IsGoodFunction m f

-- the function is a main that a program begins with: defined, it gives nothing or an i32, and takes nothing or the
-- number and the addresses of its words
abbrev pub IsMain : Function → Type 0
IsMain f =
    (f.blocks ≡ [] → ⊥) × IsCalled (codes "main") f.name × ((f.result ≡ Void) ⊎ (f.result ≡ One I32))
    × ((parameter_types f ≡ []) ⊎ (parameter_types f ≡ I32 ∷ Ptr ∷ []))

abbrev pub HasMain : Module → Type 0
HasMain m = (f : Function) × Stands f m.functions × IsMain f

-- THE MODULE

-- the module is well formed, whatever functions it declares, and however much it has
pub record IsWellFormed (m : Module) : Type 0 where
  pub bounds : Bounds m
  pub layout : HasLayout m
  pub no_twice : AreDistinct (global_names m)
  pub no_wrong_global : All (λ (g : GlobalDef). IsInitial m g.ty g.init) m.globals
  pub functions : All (IsGood m) m.functions
  pub main : HasMain m

-- it is accepted: it is well formed, has no more than the limits, and declares nothing but the externals
pub record Accepted (m : Module) : Type 0 where
  pub well_formed : IsWellFormed m
  pub few_functions : HasFewFunctions m
  pub few_instructions : HasFewInstructions m
  pub few_parameters : HasFewParameters m
  pub few_global_words : HasFewGlobalWords m
  pub free_globals : All IsFreeGlobal m.globals
  pub no_bad_external : All IsGoodExternal m.functions
