-- The elements of an initialiser, as a list.
use Rattle.std.proofs.Common.{◌≡◌, List, [], ◌∷◌, refl, ap}
use Rattle.ds_ast.specs.declared.init.Init.{Init, Array', Fields', Row_of-Init, end_of-Init, more_of-Init}
use Rattle.ds_ast.specs.declared.init.Init as init
use Rattle.ds_ast.specs.declared.init.Init.TheBlock.{hidden-the_row-Init-0, shape-the_row-Init-0}
use denote.Hole.Carrier.{hidden}
use mathlib.Core.Former.{arity, list, this}

-- how many elements there are, with a row of as many
abbrev Rows : Type 0
Rows = (shape : List (Unit {0})) × Row_of-Init (arity (list (this {0})) shape)

-- the row of a list
abbrev row_of : List Init → Rows
row_of xs = (shape-the_row-Init-0 xs, hidden-the_row-Init-0 xs)

-- every row is that of a list
is_row : (shape : List (Unit {0})) (row : Row_of-Init (arity (list (this {0})) shape)) → (xs : List Init)
    × (◌≡◌ {A = Rows} (shape, row) (row_of xs))
unfolding hidden-the_row-Init-0 hidden
is_row [] end_of-Init = ([], refl)
is_row (u ∷ shape) (more_of-Init part parts) =
    let x = is_row shape parts in (part ∷ x.0, ap (λ (r : Rows). (tt ∷ r.0, more_of-Init part r.1)) x.1)

-- an initialiser in square brackets has a list of elements
pub array_items : (shape : List (Unit {0})) (row : Row_of-Init (arity (list (this {0})) shape)) → (xs : List Init)
    × (Array' shape row ≡ init.Array xs)
array_items shape row = let x = is_row shape row in (x.0, ap (λ (r : Rows). Array' r.0 r.1) x.1)

-- and so has one in curly brackets
pub field_items : (shape : List (Unit {0})) (row : Row_of-Init (arity (list (this {0})) shape)) → (xs : List Init)
    × (Fields' shape row ≡ init.Fields xs)
field_items shape row = let x = is_row shape row in (x.0, ap (λ (r : Rows). Fields' r.0 r.1) x.1)
