-- What stands before the item of a list that has so many items before it.
use Rattle.std.specs.Prelude.{ℕ, zero, suc, List, [], ◌∷◌}
use Rattle.ds_lex.specs.Written.{Piece}
use Rattle.ds_print.specs.Names.{space, punct}

-- a comma and a space, but nothing before the first
abbrev pub comma_before : ℕ → List Piece
comma_before zero = []
comma_before (suc i) = punct "," ∷ space ∷ []

-- a comma and a space, but a space alone before the first
abbrev pub space_before : ℕ → List Piece
space_before zero = space ∷ []
space_before (suc i) = punct "," ∷ space ∷ []
