-- An array type that is written again.
use Rattle.std.proofs.Common.{◌≡◌, ℕ, refl}
use Rattle.ds_ast.specs.declared.ty.Ty.{Ty}
use Rattle.ds_ast.specs.declared.ty.Ty as ty
use Rattle.ds_ast.specs.declared.ty.Ty.TheBlock.{hidden-the_row-Ty-0}
use denote.Hole.Carrier.{hidden}
use Rattle.ds_grammar.specs.Sort.{no_value}
use Rattle.ds_grammar.specs.Grammar.{Grammar, Then}
use Rattle.ds_grammar.specs.Rows.{word, punct}
use Rattle.ds_grammar.specs.Globals.{same_rest}
use Rattle.ds_parse_global.specs.Same.{type_front, same_count}

-- what is left of an array type behind its [
abbrev pub same_array : ℕ → Ty → Grammar no_value
same_array n of =
    Then (same_count n) (λ a. Then (word "x") (λ b. Then (type_front of) (λ d. Then (same_rest of) (λ e. punct "]"))))

pub same-array : (n : ℕ) (of : Ty) → same_rest (ty.Array n of) ≡ same_array n of
unfolding hidden-the_row-Ty-0 hidden
same-array n of = refl
