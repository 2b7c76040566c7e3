use Rattle.std.proofs.Common.{sym, ap, ◌∙◌}
use Rattle.ds_grammar.specs.Sort.{no_value}
use Rattle.ds_grammar.specs.Grammar.{One}
use Rattle.ds_grammar.specs.Reading.{value_at}
use Rattle.ds_grammar.specs.Rows.{fact}
use Rattle.ds_grammar.specs.Functions.{metadata_pairs, is_meta}
use Rattle.ds_parse_function.proofs.declared.metadata_pairs.Goals as goal

pub loop-rest-preserved : goal.loop-rest-preserved
unfolding metadata_pairs
loop-rest-preserved c =
    sym (c.runs_go_on.ensures.items no_value no_value (λ u t. fact (is_meta t.kind))
    (λ u v. One {a = no_value} (λ t. fact (is_meta t.kind))) tt tt tt c.loop-rest.rest c.in_ok-rest.rest
    (sym c.is_next_meta.ensures ∙ ap fact c.loop-rest-test.true)
    (ap (value_at {a = no_value} (One {a = no_value} (λ t. fact (is_meta t.kind)))) (sym c.past.ensures)
    ∙ c.in_ok-rest.ensures))
    ∙ c.loop-rest.invariant
