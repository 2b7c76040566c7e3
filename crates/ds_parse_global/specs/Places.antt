-- At which place a name stands for the first time.
use Rattle.std.specs.Prelude.{ℕ, suc, Bool, if◌then◌else◌, List, [], ◌∷◌, Option, Some, None, option_map}
use Rattle.std.specs.Ordering.{nat_cmp}
use Rattle.std.specs.Cmp.Lexicographic.{slice_cmp}
use Rattle.std.specs.BTreeMap.{get_by}
use Rattle.ds_ast.specs.declared.name.Name.{Name}
use Rattle.ds_ast.specs.declared.name.Name.TheVariants.{Number, Text}
use Rattle.ds_ast.specs.declared.module.StructDef.{StructDef}
use Rattle.ds_ast.specs.Bounds.{is_name}
use Rattle.ds_parse_global.specs.declared.places.Places.{Places}

-- the place that is noted of a name
abbrev pub place_in : Places → Name → Option ℕ
place_in places (Number n) = get_by (nat_cmp n) places.numbers
place_in places (Text bytes) = get_by (λ k. slice_cmp nat_cmp bytes k.items) places.texts

-- the place of a name behind one more line, which may have the name, at a place
abbrev pub first_place : Option ℕ → Bool → ℕ → Option ℕ
first_place (Some i) same at = Some i
first_place None same at = if same then Some at else None

-- the place of the first line of this name
abbrev pub place_of : List StructDef → Name → Option ℕ
place_of [] name = None
place_of (line ∷ lines) name = if is_name line.name name then Some 0 else option_map suc (place_of lines name)
