-- How the cases of a switch are read one behind the other.
use Rattle.std.proofs.Common.{◌≡◌, ℕ, List}
use Rattle.std.specs.Prelude.{Ok, Some}
use Rattle.ds_ast.specs.declared.name.Name.{Name}
use Rattle.ds_ast.specs.declared.ty.Scalar.{Scalar}
use Rattle.ds_grammar.specs.Sort.{no_value, a_number, a_name, both_of, list_of}
use Rattle.ds_grammar.specs.Grammar.{Grammar, Loop}
use Rattle.ds_grammar.specs.Reading.{Place, first_value, past, value_at}
use Rattle.ds_grammar.specs.Laws.{RunsTakeItems}
use Rattle.ds_grammar.specs.Rows.{fact, is_word}
use Rattle.ds_grammar.specs.Instructions.{scalar_word, case_rest}

-- the cases behind these
abbrev pub cases_from : Scalar → List (ℕ × Name) → Grammar (list_of (both_of a_number a_name))
cases_from s cs = Loop no_value (λ cs t. fact (is_word (scalar_word s) t.kind t.bytes)) (λ cs u. case_rest s cs) cs

pub cases_more : RunsTakeItems → (s : Scalar) (cs next : List (ℕ × Name)) (p q : Place)
    → first_value (λ t. fact (is_word (scalar_word s) t.kind t.bytes)) p.left ≡ Some tt
    → value_at (case_rest s cs) (past p) ≡ Ok (next, q) → value_at (cases_from s cs) p ≡ value_at (cases_from s next) q
cases_more law s cs next p q first rest =
    law (list_of (both_of a_number a_name)) no_value (λ cs t. fact (is_word (scalar_word s) t.kind t.bytes))
    (λ cs u. case_rest s cs) cs next tt p q first rest
