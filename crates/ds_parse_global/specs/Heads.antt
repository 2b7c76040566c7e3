-- Single tokens of globals.
use Rattle.std.specs.Prelude.{List}
use Rattle.ds_ast.specs.declared.ty.Ty.{Ty}
use Rattle.ds_ast.specs.declared.module.StructDef.{StructDef}
use Rattle.ds_grammar.specs.Sort.{no_value, an_init_head, a_mark, both_of}
use Rattle.ds_grammar.specs.Grammar.{Grammar, One}
use Rattle.ds_grammar.specs.Rows.{fact}
use Rattle.ds_grammar.specs.Globals.{init_head, is_global_word}

-- what an initialiser of this type begins with, and the mark of a literal's range
abbrev pub head : List StructDef → Ty → Grammar (both_of an_init_head a_mark)
head structs t = One {a = both_of an_init_head a_mark} (λ u. init_head structs t u.kind u.bytes u.at)

-- global or constant
abbrev pub global_word : Grammar no_value
global_word = One {a = no_value} (λ t. fact (is_global_word t.kind t.bytes))
