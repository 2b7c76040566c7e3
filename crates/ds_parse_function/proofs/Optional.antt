-- How a part is read that is one token or missing.
use Rattle.std.proofs.Common.{◌≡◌, sym, ap, ◌∙◌}
use Rattle.std.specs.Prelude.{Option, Some, None, Ok}
use Rattle.ds_grammar.specs.Sort.{Lexeme, Sort, TypeOf}
use Rattle.ds_grammar.specs.Grammar.{Done, optional}
use Rattle.ds_grammar.specs.Reading.{Place, first_value, past, optional_at, value_at}
use Rattle.ds_grammar.specs.Laws.{OptionalsAreRead}

pub part_there : OptionalsAreRead → (a : Sort) (test : Lexeme → Option (TypeOf a)) (v : TypeOf a) (p q : Place)
    → Some v ≡ first_value test p.left → q ≡ past p
    → value_at (optional {b = a} a test (λ n. Done n)) p ≡ Ok (Some v, q)
part_there law a test v p q e behind = law a a test (λ n. Done n) p
    ∙ ap (λ o. optional_at (λ w r. Ok (w, r)) o p) (sym e) ∙ ap (λ r. Ok (Some v, r)) (sym behind)

pub part_missing : OptionalsAreRead → (a : Sort) (test : Lexeme → Option (TypeOf a)) (p : Place)
    → None ≡ first_value test p.left
    → value_at (optional {b = a} a test (λ n. Done n)) p ≡ Ok (None, p)
part_missing law a test p e = law a a test (λ n. Done n) p ∙ ap (λ o. optional_at (λ w r. Ok (w, r)) o p) (sym e)
