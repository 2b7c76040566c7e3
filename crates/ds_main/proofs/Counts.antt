-- Sums along a list.
use Rattle.std.proofs.Common.{◌≡◌, ◌<◌, ◌≤◌, ◌+◌, ℕ, List, length, take, slice_index_or, ap, arith}
use Rattle.std.specs.Prelude.{flat_map}
use Rattle.std.proofs.lemmas.List.Folds.{length-flat_map-take}

-- what was counted and what the next item has are no more than the limit of all
pub next_fits : {A B : Type 0} (f : A → List B) (xs : List A) (i : ℕ) (x : A) (count limit : ℕ) → i < length xs
    → x ≡ slice_index_or xs i x → count ≡ length (flat_map f (take i xs))
    → length (flat_map f xs) ≤ limit → count + length (f x) ≤ limit
next_fits f xs i x count limit h is counted few =
    let most : length (flat_map f (take i xs)) + length (f (slice_index_or xs i x)) ≤ length (flat_map f xs) =
    length-flat_map-take f xs i x h in
    let same : length (f x) ≡ length (f (slice_index_or xs i x)) = ap (λ y. length (f y)) is in
    omega (arith, counted, most, same, few)
