-- The words with which globals begin, and where each global stands among them. A word has 8 bytes, of which the least
-- comes first.
use Rattle.std.specs.Prelude.{ℕ, zero, suc, ◌+◌, ◌-◌, ◌/◌, List, [], ◌∷◌, ◌++◌, drop, replicate, flat_map, Option, Some, None, option_map, if◌then◌else◌}
use Rattle.std.specs.Option.{unwrap_or, option_map_or}
use Rattle.std.specs.Int.{bytes_low_first, from_le_bytes, w64}
use Rattle.ds_ast.specs.declared.name.Name.{Name}
use Rattle.ds_ast.specs.declared.ty.Ty.{Ty}
use Rattle.ds_ast.specs.declared.value.Value.{Value}
use Rattle.ds_ast.specs.declared.value.Value.TheVariants.{Int, Null, Undef, Local, Global}
use Rattle.ds_ast.specs.declared.init.Init.{Init, Zero, Word, Array', Fields', Row_of-Init, end_of-Init, more_of-Init}
use Rattle.ds_ast.specs.declared.module.Module.{Module}
use Rattle.ds_ast.specs.declared.module.StructDef.{StructDef}
use Rattle.ds_ast.specs.declared.module.GlobalDef.{GlobalDef}
use Rattle.ds_ast.specs.Bounds.{is_name, element_type, field_types}
use Rattle.ds_shape.specs.Sizes.{rounded, layout_of}

-- WHERE GLOBALS STAND

-- how many words a global takes: the next begins at a multiple of 8 bytes
abbrev pub words_taken : List StructDef → GlobalDef → ℕ
words_taken structs g = rounded (layout_of structs g.ty).size 8 / 8

-- how many words stand before the global of the name: its location
abbrev pub location_of : List StructDef → List GlobalDef → Name → Option ℕ
location_of structs [] name = None
location_of structs (g ∷ gs) name =
    if is_name g.name name then Some 0 else option_map (λ n. words_taken structs g + n) (location_of structs gs name)

-- BYTES

-- so many zeros
unfoldable pub zeros : ℕ → List ℕ
zeros n = replicate n 0

-- the number that a value in an initialiser is, by the addresses of globals: null is 0, undef is taken for 0, and no
-- local value stands there
abbrev pub constant_of : (Name → ℕ) → Value → ℕ
constant_of address (Int n) = n
constant_of address Null = 0
constant_of address Undef = 0
constant_of address (Local name) = 0
constant_of address (Global name) = address name

module _ (structs : List StructDef) (address : Name → ℕ) where
  abbrev mutual
    -- the bytes of a value of the type: as many as it has, of a number those of its least bits
    pub bytes_of : Ty → Init → List ℕ
    bytes_of t Zero = zeros (layout_of structs t).size
    bytes_of t (Word v) = bytes_low_first 0 (layout_of structs t).size (constant_of address v)
    bytes_of t (Array' _ parts) = bytes_of_elements (element_type t) parts
    bytes_of t (Fields' _ parts) =
        bytes_of_fields (layout_of structs t).size 0 (unwrap_or (field_types structs t) []) parts

    -- those of an array, one element behind the other
    pub bytes_of_elements : Option Ty → {m : _} → Row_of-Init m → List ℕ
    bytes_of_elements of end_of-Init = []
    bytes_of_elements None (more_of-Init part parts) = []
    bytes_of_elements (Some of) (more_of-Init part parts) = bytes_of of part ++ bytes_of_elements (Some of) parts

    -- those of a struct of this size behind the first `at`: zeros up to where the next field begins, the field, and so
    -- on; and zeros up to its end
    pub bytes_of_fields : ℕ → ℕ → List Ty → {m : _} → Row_of-Init m → List ℕ
    bytes_of_fields size at types end_of-Init = zeros (size - at)
    bytes_of_fields size at [] (more_of-Init part parts) = zeros (size - at)
    bytes_of_fields size at (t ∷ ts) (more_of-Init part parts) =
        zeros (rounded at (layout_of structs t).align - at)
        ++ bytes_of t part
        ++ bytes_of_fields size (rounded at (layout_of structs t).align + (layout_of structs t).size) ts parts

-- WORDS

-- so many words of bytes, with 0 for each byte that is missing
abbrev pub words_of : ℕ → List ℕ → List ℕ
words_of zero bytes = []
words_of (suc n) bytes = from_le_bytes w64 bytes ∷ words_of n (drop 8 bytes)

-- the words with which a global begins
abbrev pub words_of_global : List StructDef → (Name → ℕ) → GlobalDef → List ℕ
words_of_global structs address g = words_of (words_taken structs g) (bytes_of structs address g.ty g.init)

-- the address of a global, by those of locations
abbrev pub address_of : (ℕ → ℕ) → Module → Name → ℕ
address_of address m name = option_map_or address (location_of m.structs m.globals name) 0

-- the words with which the globals begin, by the addresses of locations
abbrev pub image_of : (ℕ → ℕ) → Module → List ℕ
image_of address m = flat_map (words_of_global m.structs (address_of address m)) m.globals
