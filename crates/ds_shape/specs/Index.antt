-- What a layout gathers of a module: its lines, and which struct lines hold which.
use Rattle.std.specs.Prelude.{◌≡◌, ℕ, List, [], ◌∷◌, map, flat_map, Option, Some, None}
use Rattle.std.specs.Option.{option_to_list}
use denote.Ref.{Bor}
use Rattle.ds_ast.specs.declared.name.Name.{Name}
use Rattle.ds_ast.specs.declared.ty.Ty.{Ty}
use Rattle.ds_ast.specs.declared.module.StructDef.{StructDef}
use Rattle.ds_names.specs.Names.{IsFirstTwice, place_of}
use Rattle.ds_shape.specs.Written.{Line, struct_in, struct_names}
use Rattle.ds_shape.specs.declared.fault.ShapeFault.{ShapeFault}
use Rattle.ds_shape.specs.declared.fault.ShapeFault.TheVariants.{TwiceType}
use Rattle.ds_shape.specs.declared.lines.WrittenLine.{WrittenLine}

-- the fault is that a line has the name of one before it
abbrev pub IsTwiceFault : List StructDef → ShapeFault → Type 0
IsTwiceFault structs fault = (name : Name) × (fault ≡ TwiceType name) × IsFirstTwice (struct_names structs) name

-- the types that are borrowed
abbrev pub types_in : List (Bor Ty) → List Ty
types_in types = map (λ (t : Bor Ty). t.now) types

-- the line that is borrowed
abbrev pub line_in : WrittenLine → Line
line_in l = record { name = l.name.now; is_struct = l.is_struct; types = types_in l.types.items }

abbrev pub lines_in : List WrittenLine → List Line
lines_in lines = map line_in lines

-- the first of the names that has no place
abbrev pub unless_placed : Option ℕ → Name → Option Name → Option Name
unless_placed None name rest = Some name
unless_placed (Some place) name rest = rest

abbrev pub first_unplaced : List Name → List Name → Option Name
first_unplaced names [] = None
first_unplaced names (n ∷ ns) = unless_placed (place_of names n) n (first_unplaced names ns)

-- the places of the names that have one
abbrev pub places_of : List Name → List Name → List ℕ
places_of names held = flat_map (λ (n : Name). option_to_list (place_of names n)) held

-- for each struct line the places of those that it holds
abbrev pub holdings : List Name → List StructDef → List (List ℕ)
holdings names structs = map (λ (s : StructDef). places_of names (flat_map struct_in s.fields)) structs
