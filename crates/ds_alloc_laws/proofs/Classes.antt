-- The size class of a request.
use Rattle.std.proofs.Common.{◌≡◌, ℕ, suc, ◌+◌, ◌*◌, ◌<◌, Bool, true, false, if◌then◌else◌, nat_lt, List, [], ◌∷◌, length}
use Rattle.std.proofs.Common.{Some, arith}
use Rattle.ds_map.specs.Blocks.{class_sizes, class_of, first_above}

-- the class of a request is one of the fifteen
class_among : (n first : ℕ) (sizes : List ℕ) (class : ℕ) → first_above n first sizes ≡ Some class
    → class < first + length sizes
class_among n first [] class e = absurd (cc (e))
class_among n first (words ∷ sizes) class e = by (nat_lt n (8 * words)) e (class_among n (suc first) sizes class)
  where
    by : (b : Bool) → (if b then Some first else first_above n (suc first) sizes) ≡ Some class
        → (first_above n (suc first) sizes ≡ Some class → class < suc first + length sizes)
        → class < first + length (words ∷ sizes)
    by true e' less = let same : first ≡ class = cc (e') in omega (arith, same)
    by false e' less = omega (arith, less e')

pub class_below : (n class : ℕ) → class_of n ≡ Some class → class < 15
class_below n class e = class_among n 0 class_sizes class e
