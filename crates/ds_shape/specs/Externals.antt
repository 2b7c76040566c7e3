-- The functions that a module may declare: a table of names and types. One that the program adds is a line more.
use Rattle.std.specs.Prelude.{◌≡◌, ◌⊎◌, ℕ, List, [], ◌∷◌, map, codes}
use Rattle.ds_ast.specs.declared.name.Name.{Name}
use Rattle.ds_ast.specs.declared.name.Name.TheVariants.{Text}
use Rattle.ds_ast.specs.declared.ty.Scalar.{Scalar}
use Rattle.ds_ast.specs.declared.ty.Scalar.TheVariants.{I32, I64, Ptr}
use Rattle.ds_ast.specs.declared.ty.Ty.{Ty, Void, One}
use Rattle.ds_ast.specs.declared.module.Function.{Function}
use Rattle.ds_ast.specs.declared.module.Param.{Param}

-- the name is this text
abbrev pub IsCalled : List ℕ → Name → Type 0
IsCalled bytes name = name ≡ Text bytes

-- the types of parameters
abbrev pub parameter_types : Function → List Scalar
parameter_types f = map (λ (p : Param). p.ty) f.params

-- the name and the type of a function
pub record Signature : Type 0 where
  pub name : List ℕ
  pub result : Ty
  pub parameters : List Scalar

abbrev pub signature : List ℕ → Ty → List Scalar → Signature
signature name result parameters = record { name = name; result = result; parameters = parameters }

-- the function has this name and this type
pub record HasSignature (f : Function) (s : Signature) : Type 0 where
  pub called : IsCalled s.name f.name
  pub gives : f.result ≡ s.result
  pub takes : parameter_types f ≡ s.parameters

-- the function has one of these signatures
abbrev pub HasOneOf : List Signature → Function → Type 0
HasOneOf [] f = ⊥
HasOneOf (s ∷ signatures) f = HasSignature f s ⊎ HasOneOf signatures f

-- the externals of a module that is read
abbrev pub externals : List Signature
externals =
    signature (codes "malloc") (One Ptr) (I64 ∷ [])
    ∷ signature (codes "free") Void (Ptr ∷ [])
    ∷ signature (codes "print_i64") Void (I64 ∷ [])
    ∷ signature (codes "pthread_create") (One I32) (Ptr ∷ Ptr ∷ Ptr ∷ Ptr ∷ [])
    ∷ signature (codes "pthread_join") (One I32) (I64 ∷ Ptr ∷ [])
    ∷ []

-- the function, where it is declared, is one of these externals
abbrev pub IsDeclaredFrom : List Signature → Function → Type 0
IsDeclaredFrom signatures f = f.blocks ≡ [] → HasOneOf signatures f

-- ARGUMENTS BY CALLEE AND PLACE

-- the function is this external: declared
abbrev pub IsExternal : List ℕ → Function → Type 0
IsExternal bytes g = IsCalled bytes g.name × (g.blocks ≡ [])

-- the argument behind so many is null: the second of pthread_create and of pthread_join
abbrev pub TakesNull : Function → ℕ → Type 0
TakesNull g n = (n ≡ 1) × (IsExternal (codes "pthread_create") g ⊎ IsExternal (codes "pthread_join") g)

-- the argument behind so many is the name of the function that the thread runs: the third of pthread_create
abbrev pub TakesFunction : Function → ℕ → Type 0
TakesFunction g n = (n ≡ 2) × IsExternal (codes "pthread_create") g

-- the function is one that a thread runs: ptr (ptr), and defined
abbrev pub IsThreadFunction : Function → Type 0
IsThreadFunction g = (g.result ≡ One Ptr) × (parameter_types g ≡ Ptr ∷ []) × (g.blocks ≡ [] → ⊥)
