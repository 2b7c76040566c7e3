-- The first fault of a layout: a type that is defined twice, then one that is unknown, then one that holds itself,
-- then one that is too large; and of each kind the first in the order of the text.
use Rattle.std.specs.Prelude.{◌≡◌, All}
use Rattle.ds_ast.specs.declared.module.Module.{Module}
use Rattle.ds_names.specs.Names.{AreDistinct, IsFirstTwice}
use Rattle.ds_shape.specs.Written.{Line, lines_of, written_names, struct_names, IsFirst, IsUnknown, IsRecursive, AnyTooLarge}
use Rattle.ds_shape.specs.declared.fault.ShapeFault.{ShapeFault}
use Rattle.ds_shape.specs.declared.fault.ShapeFault.TheVariants.{TwiceType, Unknown, RecursiveType, TooLarge, Memory}

-- each struct type has one line, and each that is written has a line
pub record HasLines (m : Module) : Type 0 where
  pub no_twice_type : AreDistinct (struct_names m.structs)
  pub no_unknown : All (λ name. IsUnknown m name → ⊥) (written_names m)

-- and none holds itself by value
pub record HasDepth (m : Module) : Type 0 where
  pub lines : HasLines m
  pub no_recursive_type : All (λ name. IsRecursive m.structs name → ⊥) (struct_names m.structs)

-- the fault is the module's first
abbrev pub HasShapeFault : Module → ShapeFault → Type 0
HasShapeFault m (TwiceType name) = IsFirstTwice (struct_names m.structs) name
HasShapeFault m (Unknown name) = AreDistinct (struct_names m.structs) × IsFirst (IsUnknown m) (written_names m) name
HasShapeFault m (RecursiveType name) = HasLines m × IsFirst (IsRecursive m.structs) (struct_names m.structs) name
HasShapeFault m (TooLarge name is_struct) =
    HasDepth m
    × ((l : Line)
    × IsFirst (λ (l : Line). AnyTooLarge m.structs l.types) (lines_of m) l
    × (l.name ≡ name)
    × (l.is_struct ≡ is_struct))
HasShapeFault m Memory = ⊥
