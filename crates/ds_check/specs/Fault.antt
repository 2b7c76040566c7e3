-- The first fault of a module that has a layout, in the order in which they are looked for.
use Rattle.std.specs.Prelude.{◌≡◌, ℕ, ◌-◌, ◌^◌, ◌⊎◌, List, [], ◌∷◌, ◌++◌, length, All}
use Rattle.ds_ast.specs.declared.name.Name.{Name}
use Rattle.ds_ast.specs.declared.module.Module.{Module}
use Rattle.ds_ast.specs.declared.module.GlobalDef.{GlobalDef}
use Rattle.ds_ast.specs.declared.module.Function.{Function}
use Rattle.ds_names.specs.Names.{AreDistinct, IsFirstTwice}
use Rattle.ds_shape.specs.Types.{IsInitial}
use Rattle.ds_shape.specs.Accepted.{global_names, local_names, most_functions, most_instructions, most_parameters}
use Rattle.ds_shape.specs.Accepted.{most_global_words, HasFewFunctions, HasFewInstructions, HasFewParameters}
use Rattle.ds_shape.specs.Accepted.{HasFewGlobalWords, IsFreeGlobal, IsGoodExternal, IsGood, HasMain}
use Rattle.ds_shape.specs.Written.{IsFirstBreach}
use Rattle.ds_shape.specs.Placed.{Placed, placed_of, BreaksFirst, KeepsTargets, KeepsDefined, KeepsTypes, KeepsPhi}
use Rattle.ds_shape.specs.Placed.{KeepsAssigned}
use Rattle.ds_check.specs.declared.fault.CountKind.{CountKind}
use Rattle.ds_check.specs.declared.fault.CountKind.TheVariants.{Functions, Instructions, Params, GlobalWords}
use Rattle.ds_check.specs.declared.fault.TypeFault.{TypeFault}
use Rattle.ds_check.specs.declared.fault.TypeFault.TheVariants.{Twice, TooMany, BadExternal, TwiceLocal, BadBlock}
use Rattle.ds_check.specs.declared.fault.TypeFault.TheVariants.{Undefined, WrongType, BadPhi, NotDominating, NoMain}
use Rattle.ds_check.specs.declared.fault.TypeFault.TheVariants.{Memory}

-- COUNTS

-- so many at most
abbrev pub limit_of : CountKind → ℕ
limit_of Functions = most_functions
limit_of Instructions = most_instructions
limit_of Params = most_parameters
limit_of GlobalWords = most_global_words

-- the module has no more of these than the limit
abbrev pub HasFew : Module → CountKind → Type 0
HasFew m Functions = HasFewFunctions m
HasFew m Instructions = HasFewInstructions m
HasFew m Params = HasFewParameters m
HasFew m GlobalWords = HasFewGlobalWords m

-- the kinds in the order in which they are counted
abbrev pub count_kinds : List CountKind
count_kinds = Functions ∷ Instructions ∷ Params ∷ GlobalWords ∷ []

-- FUNCTIONS

-- an instruction keeps all rules but that of paths
abbrev pub KeepsAll : Module → Function → Placed → Type 0
KeepsAll m f p = KeepsDefined m f p × KeepsTypes m f p × KeepsPhi f p

-- the instruction breaks the second rule though not the first; all before it keep all rules but that of paths
abbrev pub BreaksNext : Module → (Placed → Type 0) → (Placed → Type 0) → Function → ℕ → Type 0
BreaksNext m Keeps Breaks f i =
    (p : Placed) × IsFirstBreach (KeepsAll m f) (placed_of f) p × Keeps p × (Breaks p → ⊥) × (i ≡ p.number)

-- the local names of a function are distinct, and its labels are those of blocks that may be branched to
pub record HasLabels (f : Function) : Type 0 where
  pub no_twice_local : AreDistinct (local_names f)
  pub no_bad_block : All (KeepsTargets f) (placed_of f)

-- the fault is the first of this function, which has this number
abbrev pub HasFunctionFault : Module → ℕ → Function → TypeFault → Type 0
HasFunctionFault m n f (TwiceLocal g name) = (g ≡ n) × IsFirstTwice (local_names f) name
HasFunctionFault m n f (BadBlock g i) = (g ≡ n) × AreDistinct (local_names f) × BreaksFirst (KeepsTargets f) f i
HasFunctionFault m n f (Undefined g i) = (g ≡ n) × HasLabels f × BreaksNext m (λ p. Unit {0}) (KeepsDefined m f) f i
HasFunctionFault m n f (WrongType g i) = (g ≡ n) × HasLabels f × BreaksNext m (KeepsDefined m f) (KeepsTypes m f) f i
HasFunctionFault m n f (BadPhi g i) =
    (g ≡ n) × HasLabels f × BreaksNext m (λ p. KeepsDefined m f p × KeepsTypes m f p) (KeepsPhi f) f i
HasFunctionFault m n f (NotDominating g i) =
    (g ≡ n) × HasLabels f × All (KeepsAll m f) (placed_of f) × BreaksFirst (KeepsAssigned f) f i
HasFunctionFault m n f (Twice name) = ⊥
HasFunctionFault m n f (TooMany what limit) = ⊥
HasFunctionFault m n f (BadExternal name) = ⊥
HasFunctionFault m n f NoMain = ⊥
HasFunctionFault m n f Memory = ⊥

-- the fault is the first of the first function that has one
abbrev pub HasFirstFunctionFault : Module → TypeFault → Type 0
HasFirstFunctionFault m fault =
    (before : List Function) × (f : Function) × (after : List Function) × (m.functions ≡ before ++ f ∷ after)
    × All (IsGood m) before × (f.blocks ≡ [] → ⊥) × HasFunctionFault m (length before) f fault

-- THE MODULE

-- what stands where each step of the search finds nothing
pub record HasCounts (m : Module) : Type 0 where
  pub no_twice : AreDistinct (global_names m)
  pub few : All (HasFew m) count_kinds

pub record HasExternals (m : Module) : Type 0 where
  pub counts : HasCounts m
  pub globals : All IsFreeGlobal m.globals
  pub functions : All IsGoodExternal m.functions

pub record HasGlobals (m : Module) : Type 0 where
  pub externals : HasExternals m
  pub initial : All (λ (g : GlobalDef). IsInitial m g.ty g.init) m.globals

-- a global does not have the type of its initialiser
abbrev pub WrongGlobal : Module → ℕ → ℕ → Type 0
WrongGlobal m f i =
    HasExternals m × (All (λ (g : GlobalDef). IsInitial m g.ty g.init) m.globals → ⊥) × (f ≡ 2 ^ 32 - 1)
    × (i ≡ 2 ^ 32 - 1)

-- the first name that is a bad external: among the globals, and then among the functions
abbrev pub IsFirstExternal : Module → Name → Type 0
IsFirstExternal m name =
    ((g : GlobalDef) × IsFirstBreach IsFreeGlobal m.globals g × (name ≡ g.name))
    ⊎ ((f : Function) × All IsFreeGlobal m.globals × IsFirstBreach IsGoodExternal m.functions f × (name ≡ f.name))

-- the fault is the first of the module
abbrev pub HasTypeFault : Module → TypeFault → Type 0
HasTypeFault m (Twice name) = IsFirstTwice (global_names m) name
HasTypeFault m (TooMany what limit) =
    AreDistinct (global_names m) × IsFirstBreach (HasFew m) count_kinds what × (limit ≡ limit_of what)
HasTypeFault m (BadExternal name) = HasCounts m × IsFirstExternal m name
HasTypeFault m (WrongType f i) = WrongGlobal m f i ⊎ (HasGlobals m × HasFirstFunctionFault m (WrongType f i))
HasTypeFault m (TwiceLocal f name) = HasGlobals m × HasFirstFunctionFault m (TwiceLocal f name)
HasTypeFault m (BadBlock f i) = HasGlobals m × HasFirstFunctionFault m (BadBlock f i)
HasTypeFault m (Undefined f i) = HasGlobals m × HasFirstFunctionFault m (Undefined f i)
HasTypeFault m (BadPhi f i) = HasGlobals m × HasFirstFunctionFault m (BadPhi f i)
HasTypeFault m (NotDominating f i) = HasGlobals m × HasFirstFunctionFault m (NotDominating f i)
HasTypeFault m NoMain = HasGlobals m × All (IsGood m) m.functions × (HasMain m → ⊥)
HasTypeFault m Memory = ⊥
