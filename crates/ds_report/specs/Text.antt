-- How numbers are written.
use Rattle.std.specs.Prelude.{ℕ, false, List, ◌++◌, codes}
use Rattle.std.specs.Fmt.{digits, signed_decimal}
use Rattle.std.specs.Int.{cast_signed, w64}

-- 64 bits as the signed decimal number that they are
abbrev pub signed_text : ℕ → List ℕ
signed_text value = signed_decimal (cast_signed w64 value)

-- an address or a word: 0x and lower-case hexadecimal digits
abbrev pub hex_text : ℕ → List ℕ
hex_text value = codes "0x" ++ digits 16 false value
