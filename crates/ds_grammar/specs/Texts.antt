-- What the bytes of a text stand for.
use Rattle.std.specs.Prelude.{ℕ, ◌+◌, ◌-◌, ◌*◌, Bool, nat_le, ◌==◌, ◌&&◌, ◌||◌, if◌then◌else◌, List, [], ◌∷◌, take}
use Rattle.std.specs.Prelude.{length}
use Rattle.ds_lex.specs.Bytes.{is_digit}

-- a hexadecimal digit: 0 to 9, A to F or a to f
abbrev pub is_hexadecimal : ℕ → Bool
is_hexadecimal b = is_digit b || (nat_le 65 b && nat_le b 70) || (nat_le 97 b && nat_le b 102)

-- the value of a hexadecimal digit
abbrev pub hexadecimal : ℕ → ℕ
hexadecimal b = if is_digit b then b - 48 else (if nat_le b 70 then b - 55 else b - 87)

-- two backslashes (92)
abbrev pub is_double : ℕ → ℕ → Bool
is_double b c = b == 92 && c == 92

-- a backslash and two hexadecimal digits
abbrev pub is_coded : ℕ → ℕ → ℕ → Bool
is_coded b c d = b == 92 && is_hexadecimal c && is_hexadecimal d

-- What the bytes between the quotes of a text stand for, from left to right: two backslashes for one, a backslash and
-- two hexadecimal digits for that byte, and any other byte for itself.
unfoldable pub text_value : List ℕ → List ℕ
text_value [] = []
text_value (b ∷ []) = b ∷ []
text_value (b ∷ c ∷ []) = if is_double b c then 92 ∷ [] else b ∷ text_value (c ∷ [])
text_value (b ∷ c ∷ d ∷ ds) =
    if is_double b c then 92 ∷ text_value (d ∷ ds)
    else (if is_coded b c d then (16 * hexadecimal c + hexadecimal d) ∷ text_value ds
    else b ∷ text_value (c ∷ d ∷ ds))

-- what a whole text stands for, with its quotes
abbrev pub text_of : List ℕ → List ℕ
text_of [] = []
text_of (quote ∷ bytes) = text_value (take (length bytes - 1) bytes)
