-- Counts of failures, which stand still at the end of a u64.
use Rattle.std.specs.Prelude.{ℕ, ◌+◌, ◌-◌, ◌^◌, ◌≤◌, min}

-- a count after one more: it stands still at 2 ^ 64 - 1
abbrev pub one_more : ℕ → ℕ
one_more count = min (count + 1) (2 ^ 64 - 1)

-- the count rose: it is above what it was, or stands at its end
abbrev pub Rose : (old new : ℕ) → Type 0
Rose old new = one_more old ≤ new
