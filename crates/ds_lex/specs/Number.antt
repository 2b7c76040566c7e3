-- Integers in decimal.
use Rattle.std.specs.Prelude.{ℕ, Bool, ◌+◌, ◌-◌, ◌*◌, ◌%◌, ◌^◌, ◌&&◌, ◌==◌, nat_lt, nat_le, if◌then◌else◌, List, []}
use Rattle.std.specs.Prelude.{◌∷◌, Option, Some, None, option_and_then}
use Rattle.std.specs.List.{list_all}
use Rattle.ds_lex.specs.Bytes.{is_digit}

-- the number that digits behind a number n make of it: 12 and the digits 0 and 7 make 1207
abbrev pub decimal : ℕ → List ℕ → ℕ
decimal n [] = n
decimal n (b ∷ bs) = decimal (10 * n + (b - 48)) bs

-- the number that n and the bytes behind it make, where all are digits and it is below 2 ^ 64
unfoldable pub extended : ℕ → List ℕ → Option ℕ
extended n bytes =
    if list_all is_digit bytes && nat_lt (decimal n bytes) (2 ^ 64) then Some (decimal n bytes) else None

-- these are digits, and their number is below 2 ^ 32, as that of a name in digits is
unfoldable pub is_small : List ℕ → Bool
is_small bytes = list_all is_digit bytes && nat_lt (decimal 0 bytes) (2 ^ 32)

-- the value of one or more digits, below 2 ^ 64
unfoldable pub magnitude_of : List ℕ → Option ℕ
magnitude_of [] = None
magnitude_of (b ∷ bs) = extended 0 (b ∷ bs)

-- the number opposite to one of at most 2 ^ 63, modulo 2 ^ 64
unfoldable pub negated : ℕ → Option ℕ
negated n = if nat_le n (2 ^ 63) then Some ((2 ^ 64 - n) % 2 ^ 64) else None

-- The value modulo 2 ^ 64 of a spelling: digits, maybe behind a minus sign (45). None where the bytes are no number
-- from -2 ^ 63 to 2 ^ 64 - 1.
unfoldable pub number_of : List ℕ → Option ℕ
number_of [] = None
number_of (b ∷ bs) = if b == 45 then option_and_then negated (magnitude_of bs) else magnitude_of (b ∷ bs)
