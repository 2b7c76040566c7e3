-- The bytes of initialisers, with lists for their parts.
use Rattle.std.specs.Prelude.{ℕ, ◌+◌, ◌-◌, List, [], ◌∷◌, ◌++◌, Option, Some, None}
use Rattle.ds_ast.specs.declared.name.Name.{Name}
use Rattle.ds_ast.specs.declared.ty.Ty.{Ty}
use Rattle.ds_ast.specs.declared.init.Init.{Init}
use Rattle.ds_ast.specs.declared.module.Module.{Module}
use Rattle.ds_shape.specs.Image.{zeros, bytes_of, address_of}
use Rattle.ds_shape.specs.Sizes.{rounded, layout_of}
use Rattle.ds_meaning.specs.Values.{global_address}

-- the addresses of the globals of a module
abbrev pub address_in : Module → Name → ℕ
address_in m name = address_of global_address m name

-- the bytes of elements of this type, one behind the other
abbrev pub elements_bytes : Module → Option Ty → List Init → List ℕ
elements_bytes m of [] = []
elements_bytes m None (part ∷ parts) = []
elements_bytes m (Some of) (part ∷ parts) = bytes_of m.structs (address_in m) of part ++ elements_bytes m (Some of)
    parts

-- those of fields of a struct of this size behind the first `at`
abbrev pub fields_bytes : Module → (size at : ℕ) → List Ty → List Init → List ℕ
fields_bytes m size at types [] = zeros (size - at)
fields_bytes m size at [] (part ∷ parts) = zeros (size - at)
fields_bytes m size at (t ∷ ts) (part ∷ parts) =
    zeros (rounded at (layout_of m.structs t).align - at)
    ++ bytes_of m.structs (address_in m) t part
    ++ fields_bytes m size (rounded at (layout_of m.structs t).align + (layout_of m.structs t).size) ts parts
