-- The first byte that the bytes of a text stand for. What all stand for says ds_grammar's Texts.
use Rattle.std.specs.Prelude.{ℕ, ◌+◌, ◌*◌, if◌then◌else◌, List, [], ◌∷◌, Option, Some, None}
use Rattle.ds_grammar.specs.Texts.{is_double, is_coded, hexadecimal}

-- that byte, and the bytes behind its spelling
abbrev pub next_byte : List ℕ → Option (ℕ × List ℕ)
next_byte [] = None
next_byte (b ∷ []) = Some (b, [])
next_byte (b ∷ c ∷ []) = if is_double b c then Some (92, []) else Some (b, c ∷ [])
next_byte (b ∷ c ∷ d ∷ ds) =
    if is_double b c then Some (92, d ∷ ds)
    else (if is_coded b c d then Some (16 * hexadecimal c + hexadecimal d, ds)
    else Some (b, c ∷ d ∷ ds))
