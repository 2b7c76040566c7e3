-- The single tokens of a type that is written again.
use Rattle.std.specs.Prelude.{ℕ}
use Rattle.ds_ast.specs.declared.ty.Ty.{Ty}
use Rattle.ds_grammar.specs.Sort.{no_value}
use Rattle.ds_grammar.specs.Grammar.{Grammar, One}
use Rattle.ds_grammar.specs.Rows.{fact}
use Rattle.ds_grammar.specs.Globals.{is_type_front, is_count}

-- the first token of this type
abbrev pub type_front : Ty → Grammar no_value
type_front t = One {a = no_value} (λ u. fact (is_type_front t u.kind u.bytes))

-- this count
abbrev pub same_count : ℕ → Grammar no_value
same_count n = One {a = no_value} (λ t. is_count n t.kind t.bytes)
