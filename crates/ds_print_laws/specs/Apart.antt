-- The statement that the tokens of a canonical text are apart, so that the lexer reads them as they were written.
use Rattle.ds_lex.specs.Written.{AreApart}
use Rattle.ds_ast.specs.declared.module.Module.{Module}
use Rattle.ds_ast.specs.Bounds.{Bounds}
use Rattle.ds_print.specs.Canonical.{module_pieces}

-- the pieces of a module within its bounds are blanks and tokens, each whole before what is written behind it
abbrev pub CanonicalPiecesAreApart : Type 0
CanonicalPiecesAreApart = (m : Module) → Bounds m → AreApart (module_pieces m)
