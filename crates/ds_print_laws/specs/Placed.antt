-- The tokens of a text that is written piece by piece, as grammars see them.
use Rattle.std.specs.Prelude.{ℕ, ◌+◌, List, [], ◌∷◌, length}
use Rattle.ds_lex.specs.Written.{Piece, Gap, Written}
use Rattle.ds_grammar.specs.Sort.{Lexeme}

-- the tokens of pieces that stand behind so many bytes
abbrev pub placed : ℕ → List Piece → List Lexeme
placed at [] = []
placed at (Gap bytes ∷ ps) = placed (at + length bytes) ps
placed at (Written k bytes ∷ ps) = (record { kind = k; bytes = bytes; at = at }) ∷ placed (at + length bytes) ps
