use Rattle.std.proofs.Common.{sym, ap, ◌∙◌}
use Rattle.std.specs.Prelude.{Ok, Some, codes}
use Rattle.ds_grammar.specs.Sort.{no_value}
use Rattle.ds_grammar.specs.Grammar.{Done}
use Rattle.ds_grammar.specs.Reading.{optional_at}
use Rattle.ds_grammar.specs.Rows.{fact, is_word}
use Rattle.ds_grammar.specs.Instructions.{optional_atomic}
use Rattle.ds_parse_parts.proofs.operands.optional_atomic.Goals as goal

pub returns-then-is_next_word : goal.returns-then-is_next_word
unfolding optional_atomic
returns-then-is_next_word c =
    c.optionals_are_read.ensures no_value no_value (λ t. fact (is_word (codes "atomic") t.kind t.bytes))
    (λ u. Done tt) c.args.rest
    ∙ ap (λ o. optional_at (λ v q. Ok (tt, q)) o c.args.rest)
    (sym c.is_next_word.ensures ∙ ap fact c.if-is_next_word.true)
    ∙ ap (λ q. Ok (Some tt, q)) (sym c.past.ensures)
