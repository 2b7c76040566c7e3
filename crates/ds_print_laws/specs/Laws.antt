-- The statements that the canonical text of a module is read back as that module.
use Rattle.std.specs.Prelude.{◌≡◌, ℕ, List, [], Ok}
use Rattle.ds_lex.specs.Written.{Piece, written, tokens_of, AreApart}
use Rattle.ds_ast.specs.declared.module.Module.{Module}
use Rattle.ds_ast.specs.Bounds.{Bounds}
use Rattle.ds_grammar.specs.Reading.{start, value_at}
use Rattle.ds_grammar.specs.Lexemes.{lexemes_from}
use Rattle.ds_grammar.specs.Functions.{module_text, Text}
use Rattle.ds_grammar.specs.declared.fault.ParseFault.{ParseFault}
use Rattle.ds_parse.specs.Faults.{HasParseFault}
use Rattle.ds_print.specs.Canonical.{module_pieces, canon}
use Rattle.ds_print_laws.specs.Placed.{placed}

-- the tokens of a canonical text are read as the module, up to the last of them and with nothing out of its bound
abbrev pub CanonicalTokensAreRead : Type 0
CanonicalTokensAreRead = (m : Module) (end : ℕ) → Bounds m
    → value_at module_text (start (placed 0 (module_pieces m)) end) ≡ Ok (m, start [] end)

-- the tokens of a text that is written piece by piece are, as grammars see them, those of the pieces
abbrev pub PlacedAreLexemes : Type 0
PlacedAreLexemes = (ps : List Piece) → lexemes_from (written ps) (tokens_of 0 ps) 0 ≡ placed 0 ps

-- the canonical text spells the module, where its pieces are apart
abbrev pub ApartTextsAreSpelled : Type 0
ApartTextsAreSpelled = (m : Module) → Bounds m → AreApart (module_pieces m) → Text (canon m) m

-- the canonical text of a module within its bounds spells that module
abbrev pub CanonicalTextsSpellTheirModules : Type 0
CanonicalTextsSpellTheirModules = (m : Module) → Bounds m → Text (canon m) m

-- the canonical text of a module within its bounds spells that module and no other, and it has no fault
abbrev pub CanonicalTextsAreParsed : Type 0
CanonicalTextsAreParsed =
    (m : Module) → Bounds m
    → Text (canon m) m × ((n : Module) → Text (canon m) n → n ≡ m) × ((f : ParseFault) → HasParseFault (canon m) f → ⊥)
