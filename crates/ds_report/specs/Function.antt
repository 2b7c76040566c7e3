-- In which function something is.
use Rattle.std.specs.Prelude.{ℕ, Option, Some, None, List, [], ◌∷◌, ◌++◌, slice_get, codes}
use Rattle.ds_ast.specs.declared.name.Name.{Name}
use Rattle.ds_lex.specs.Written.{written}
use Rattle.ds_print.specs.Names.{global}

-- the name of a function, and nothing where there is none
abbrev pub name_text : Option Name → List ℕ
name_text (Some name) = written (global name ∷ [])
name_text None = []

-- the function of a number, of the module whose functions have these names in the order of the text; a number that no
-- function has is told by nothing
abbrev pub function_text : List Name → ℕ → List ℕ
function_text names f = codes " in " ++ name_text (slice_get names f)
