-- What is known of names, of a module, and of its types while its code is made.
use Rattle.std.specs.Prelude.{◌≡◌, ℕ, ◌+◌, List, [], ◌∷◌, length, map, Option, Some, None, if◌then◌else◌}
use Rattle.ds_ast.specs.declared.name.Name.{Name}
use Rattle.ds_ast.specs.declared.module.Module.{Module}
use Rattle.ds_ast.specs.declared.module.StructDef.{StructDef}
use Rattle.ds_ast.specs.declared.module.GlobalDef.{GlobalDef}
use Rattle.ds_ast.specs.declared.module.Function.{Function}
use Rattle.ds_ast.specs.Bounds.{is_name}
use Rattle.ds_names.specs.Names.{place_of}
use Rattle.ds_shape.specs.Image.{words_taken}
use Rattle.ds_shape.specs.Accepted.{HasLayout}
use Rattle.ds_shape.specs.Address.{Step}
use Rattle.ds_shape.specs.Fits.{Fits}
use Rattle.ds_meaning.specs.Values.{global_address}
use Rattle.ds_lower_parts.specs.declared.leaps.Leap.{Leap}

-- NAMES

-- the number beside the name, where it stands there
abbrev pub number_beside : List Name → List ℕ → Name → Option ℕ
number_beside [] numbers name = None
number_beside (n ∷ names) [] name = None
number_beside (n ∷ names) (k ∷ numbers) name = if is_name n name then Some k else number_beside names numbers name

-- each name has its first place in the list beside it
abbrev pub Keeps : List Name → List ℕ → List Name → Type 0
Keeps kept firsts names =
    (length kept ≡ length firsts) × ((name : Name) → number_beside kept firsts name ≡ place_of names name)

-- THE MODULE

-- the addresses of globals, of which the first stands at this location
abbrev pub addresses_from : List StructDef → ℕ → List GlobalDef → List ℕ
addresses_from structs at [] = []
addresses_from structs at (g ∷ gs) = global_address at ∷ addresses_from structs (at + words_taken structs g) gs

-- the names of globals and functions are those of the module, and the addresses are those of its globals
pub record InScope (m : Module) (structs : List StructDef) (functions globals : List Name) (addresses : List ℕ)
    : Type 0 where
  pub layout : HasLayout m
  pub same : structs ≡ m.structs
  pub named : functions ≡ map (λ (f : Function). f.name) m.functions
  pub global : globals ≡ map (λ (g : GlobalDef). g.name) m.globals
  pub begin : addresses ≡ addresses_from m.structs 0 m.globals

-- ADDRESSES

-- what an index adds, as it is told
abbrev pub step_as : Leap → Step
step_as leap = record { next = leap.next.now; fixed = leap.fixed; scale = leap.scale }

-- the type to which an index leads fits, where it leads anywhere
abbrev pub NextFits : List StructDef → Option Leap → Type 0
NextFits structs None = Unit {0}
NextFits structs (Some leap) = Fits structs leap.next.now
