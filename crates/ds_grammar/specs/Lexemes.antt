-- The tokens of a text as grammars see them.
use Rattle.std.specs.Prelude.{ℕ, ◌≤◌, ◌-◌, List, length, map, slice_range}
use Rattle.std.specs.List.{All}
use Rattle.ds_lex.specs.declared.token.Token.{Token}
use Rattle.ds_lex.specs.Lexed.{spelling}
use Rattle.ds_grammar.specs.Sort.{Lexeme}

-- a token with its bytes
abbrev pub lexeme : List ℕ → Token → Lexeme
lexeme text t = record { kind = t.kind; bytes = spelling text t; at = t.start }

-- tokens with their bytes
abbrev pub lexemes : List ℕ → List Token → List Lexeme
lexemes text ts = map (lexeme text) ts

-- the tokens from a place on, without the end of the text, which is the last
abbrev pub lexemes_from : List ℕ → List Token → ℕ → List Lexeme
lexemes_from text ts at = lexemes text (slice_range ts at (length ts - 1))

-- each token lies in the text
abbrev pub AreInside : List ℕ → List Token → Type 0
AreInside text ts = All (λ t. (t.start ≤ t.end) × (t.end ≤ length text)) ts
