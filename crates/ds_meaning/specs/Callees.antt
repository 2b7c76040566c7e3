-- What a call calls: a function that the module defines, or an external that it declares.
use Rattle.std.specs.Prelude.{ℕ, Bool, true, false, if◌then◌else◌, List, [], ◌∷◌, slice_get, Option, Some, None, codes}
use Rattle.ds_ast.specs.declared.name.Name.{Name}
use Rattle.ds_ast.specs.declared.name.Name.TheVariants.{Text}
use Rattle.ds_ast.specs.declared.module.Module.{Module}
use Rattle.ds_ast.specs.declared.module.Function.{Function}
use Rattle.ds_ast.specs.declared.module.Block.{Block}
use Rattle.ds_ast.specs.Bounds.{is_name}
use Rattle.ds_shape.specs.Site.{function_number}

-- the functions that are not defined in a module
pub data External : Type 0 where
  Malloc : External
  Free : External
  PrintI64 : External
  PthreadCreate : External
  PthreadJoin : External
  DsNote : External

-- their names
abbrev pub externals : List (List ℕ × External)
externals =
    (codes "malloc", Malloc)
    ∷ (codes "free", Free)
    ∷ (codes "print_i64", PrintI64)
    ∷ (codes "pthread_create", PthreadCreate)
    ∷ (codes "pthread_join", PthreadJoin)
    ∷ (codes "ds_note", DsNote)
    ∷ []

-- what is called
pub data Callee : Type 0 where
  -- a function that the module defines, and its number
  Defined : (number : ℕ) → Function → Callee
  -- an external that it declares
  Declared : External → Callee
  -- what has no meaning
  Unknown : Callee

-- the external of the name
abbrev pub external_among : List (List ℕ × External) → Name → Callee
external_among [] name = Unknown
external_among (e ∷ es) name = if is_name (Text e.0) name then Declared e.1 else external_among es name

-- the function by its blocks: it is declared where it has none
abbrev pub callee_by : ℕ → Function → List Block → Callee
callee_by number f [] = external_among externals f.name
callee_by number f (b ∷ bs) = Defined number f

-- the function of the number
abbrev pub callee_at : ℕ → Option Function → Callee
callee_at number None = Unknown
callee_at number (Some f) = callee_by number f f.blocks

-- the function of the number, where the name has one
abbrev pub callee_numbered : Module → Option ℕ → Callee
callee_numbered m None = Unknown
callee_numbered m (Some number) = callee_at number (slice_get m.functions number)

-- what a call of the name calls: a function that the module defines is called whatever its name
abbrev pub callee_of : Module → Name → Callee
callee_of m name = callee_numbered m (function_number m name)

-- the external notes a pointer
abbrev pub is_note : External → Bool
is_note Malloc = false
is_note Free = false
is_note PrintI64 = false
is_note PthreadCreate = false
is_note PthreadJoin = false
is_note DsNote = true

-- what is called is ds_note
abbrev pub is_ds_note : Callee → Bool
is_ds_note (Defined number f) = false
is_ds_note (Declared external) = is_note external
is_ds_note Unknown = false
