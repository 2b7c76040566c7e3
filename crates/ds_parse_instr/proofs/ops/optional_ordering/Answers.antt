use Rattle.std.proofs.Common.{sym, ap, ◌∙◌}
use Rattle.std.specs.Prelude.{Ok, Some}
use Rattle.ds_grammar.specs.Sort.{no_value}
use Rattle.ds_grammar.specs.Grammar.{Done}
use Rattle.ds_grammar.specs.Reading.{optional_at}
use Rattle.ds_grammar.specs.Tokens.{word_in}
use Rattle.ds_grammar.specs.Instructions.{optional_ordering, ordering_words}
use Rattle.ds_parse_instr.proofs.ops.optional_ordering.Goals as goal

pub returns-in-Some : goal.returns-in-Some
unfolding optional_ordering
returns-in-Some c =
    c.optionals_are_read.ensures no_value no_value (λ t. word_in ordering_words t.kind t.bytes)
    (λ u. Done tt) c.args.rest
    ∙ ap (λ o. optional_at (λ v q. Ok (tt, q)) o c.args.rest) (sym c.in-Some.ensures)
    ∙ ap (λ q. Ok (Some tt, q)) (sym c.past.ensures)
