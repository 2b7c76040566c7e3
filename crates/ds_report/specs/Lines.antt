-- Lines for each of several threads.
use Rattle.std.specs.Prelude.{ℕ, ◌+◌, List, [], ◌∷◌, ◌++◌}

-- the lines of each in its order, by the numbers from this one on
abbrev pub lines_from : {A : Type 0} → (ℕ → A → List ℕ) → ℕ → List A → List ℕ
lines_from lines n [] = []
lines_from lines n (x ∷ xs) = lines n x ++ lines_from lines (n + 1) xs
