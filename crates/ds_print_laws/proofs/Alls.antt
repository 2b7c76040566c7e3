-- What holds of each element of a list holds of the first and of the others.
use Rattle.std.proofs.Common.{suc, List, ◌∷◌, arith}
use Rattle.std.specs.Prelude.{All}

pub all_first : {X : Type 0} (P : X → Type 0) (x : X) (xs : List X) → All P (x ∷ xs) → P x
all_first P x xs h = h 0 x (omega arith)

pub all_rest : {X : Type 0} (P : X → Type 0) (x : X) (xs : List X) → All P (x ∷ xs) → All P xs
all_rest P x xs h = λ k d lt. h (suc k) d (omega (arith, lt))
