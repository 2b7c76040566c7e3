-- Two's complement: w bits are kept as a number n below 2 ^ w, and stand for a whole number.
use Rattle.std.specs.Prelude.{ℕ, ◌-◌, ◌^◌, ℤ, pos, ◌-ℤ◌, if◌then◌else◌, nat_lt, unsigned_abs}
use Rattle.std.specs.Int.{int_rem_euclid}

-- the signed number that the bits stand for: n where the highest bit is clear, and n - 2 ^ w where it is set. It lies
-- from -2 ^ (w - 1) to 2 ^ (w - 1) - 1
abbrev pub signed : ℕ → ℕ → ℤ
signed w n = if nat_lt n (2 ^ (w - 1)) then pos n else pos n -ℤ pos (2 ^ w)

-- the bits in which a whole number is kept: the number from 0 to 2 ^ w - 1 that differs from it by a multiple of 2 ^ w
abbrev pub stored : ℕ → ℤ → ℕ
stored w z = unsigned_abs (int_rem_euclid z (pos (2 ^ w)))
