-- What is kept of a layout, and what each step towards it answers.
use Rattle.std.specs.Prelude.{◌≡◌, ◌<◌, ◌^◌, ℕ, true, List, flat_map, length, get_or, Some, All}
use Rattle.ds_ast.specs.declared.name.Name.{Name}
use Rattle.ds_ast.specs.declared.module.StructDef.{StructDef}
use Rattle.ds_graph.specs.Graph.{IsFirstOnCycle}
use Rattle.ds_names.specs.Names.{AreDistinct}
use Rattle.ds_shape.specs.Written.{Line, struct_in, struct_names, IsFirst}
use Rattle.ds_shape.specs.Index.{first_unplaced, holdings}
use Rattle.ds_shape.specs.Capped.{IsShort, AreRight, extent_in, offsets_by, any_large}
use Rattle.ds_shape.specs.declared.extents.CappedExtent.{CappedExtent}
use Rattle.ds_shape.specs.declared.fault.ShapeFault.{ShapeFault}
use Rattle.ds_shape.specs.declared.fault.ShapeFault.TheVariants.{Unknown, RecursiveType, TooLarge}

-- the names, extents and offsets are those of the struct lines
pub record IsKept (structs : List StructDef) (names : List Name) (extents : List CappedExtent)
    (offsets : List (List ℕ)) : Type 0 where
  pub named : names ≡ struct_names structs
  pub distinct : AreDistinct (struct_names structs)
  pub few : length structs < 2 ^ 32
  pub short : All IsShort extents
  pub right : AreRight structs extents
  pub begin : offsets ≡ offsets_by names extents structs

-- the struct types that lines write
abbrev pub names_in : List Line → List Name
names_in lines = flat_map (λ (l : Line). flat_map struct_in l.types) lines

-- the fault is the first name that has no place
abbrev pub IsUnknownFault : List Name → List Line → ShapeFault → Type 0
IsUnknownFault names lines fault =
    (name : Name) × (fault ≡ Unknown name) × (first_unplaced names (names_in lines) ≡ Some name)

-- the fault is the name of the first line that is on a cycle
abbrev pub IsCycleFault : List StructDef → ShapeFault → Type 0
IsCycleFault structs fault =
    (name : Name) × (a : ℕ) × (fault ≡ RecursiveType name) × (a < length structs)
    × (name ≡ get_or (struct_names structs) a name)
    × IsFirstOnCycle (holdings (struct_names structs) structs) a

-- the line writes a type that is too large
abbrev pub IsLarge : List Name → List CappedExtent → Line → Type 0
IsLarge names extents l = any_large (extent_in names extents) l.types ≡ true

-- the fault is the first line that does
abbrev pub IsLargeFault : List Name → List CappedExtent → List Line → ShapeFault → Type 0
IsLargeFault names extents lines fault =
    (l : Line) × (fault ≡ TooLarge l.name l.is_struct) × IsFirst (IsLarge names extents) lines l
