-- The statements of the laws.
use Rattle.std.specs.Prelude.{◌≡◌, ◌↔◌, ◌<◌, ℕ, List, length, get_or, Some, None}
use Rattle.ds_ast.specs.declared.name.Name.{Name}
use Rattle.ds_names.specs.Names.{Among, AreDistinct, place_of}

-- a name has no place exactly if it does not stand there, and at the place that it has it stands
abbrev pub PlacesAreExact : Type 0
PlacesAreExact =
    (names : List Name) (name : Name) → (place_of names name ≡ None ↔ (Among name names → ⊥))
    × ((i : ℕ) → place_of names name ≡ Some i → (i < length names) × ((d : Name) → get_or names i d ≡ name))

-- among distinct names the place of a name is where it stands
abbrev pub PlacesAreUnique : Type 0
PlacesAreUnique =
    (names : List Name) (name d : Name) (i : ℕ) → AreDistinct names → i < length names → get_or names i d ≡ name →
    place_of names name ≡ Some i
