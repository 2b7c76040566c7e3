-- Counting down along a list.
use Rattle.std.proofs.Common.{◌≡◌, ◌<◌, ◌≤◌, ◌+◌, ℕ, List, length, take, slice_index_or, ap, arith}
use Rattle.std.specs.Prelude.{flat_map}
use Rattle.std.proofs.lemmas.List.Folds.{length-flat_map-take}

-- where the next item takes more than is left, all take more than there was
pub runs_out : {A B : Type 0} (f : A → List B) (xs : List A) (i : ℕ) (x : A) (rest limit : ℕ) → i < length xs
    → x ≡ slice_index_or xs i x
    → rest + length (flat_map f (take i xs)) ≡ limit → rest < length (f x) → limit < length (flat_map f xs)
runs_out f xs i x rest limit h is left less =
    let most : length (flat_map f (take i xs)) + length (f (slice_index_or xs i x)) ≤ length (flat_map f xs) =
    length-flat_map-take f xs i x h in
    let same : length (f x) ≡ length (f (slice_index_or xs i x)) = ap (λ y. length (f y)) is in
    omega (arith, left, less, most, same)
