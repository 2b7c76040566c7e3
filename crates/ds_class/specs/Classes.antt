-- Size classes tried: their blocks a page, worked out by hand.
use Rattle.std.specs.Prelude.{ℕ, List, [], ◌∷◌}

-- the blocks of a page, by its size class
abbrev pub class_counts : List ℕ
class_counts = 256 ∷ 128 ∷ 85 ∷ 64 ∷ 42 ∷ 32 ∷ 21 ∷ 16 ∷ 10 ∷ 8 ∷ 5 ∷ 4 ∷ 2 ∷ 2 ∷ 1 ∷ []
