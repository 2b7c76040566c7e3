use Rattle.std.proofs.Common.{sym, ap, ◌∙◌}
use Rattle.ds_grammar.specs.Sort.{a_flag, an_ending}
use Rattle.ds_grammar.specs.Reading.{value_at}
use Rattle.ds_grammar.specs.Rows.{endings_from, ending_item, ending_rest}
use Rattle.ds_parse_parts.proofs.runs.endings.Goals as goal

pub loop-ending-preserved : goal.loop-ending-preserved
unfolding endings_from
loop-ending-preserved c =
    sym (c.runs_go_on.ensures.items a_flag an_ending (λ s t. ending_item s t.kind t.bytes)
    (λ s e. ending_rest e) c.loop-ending.in_attrs c.in_ok-flag.flag c.in-Some.ending c.loop-ending.rest
    c.in_ok-flag.behind
    (sym c.in-Some.ensures) (ap (value_at (ending_rest c.in-Some.ending)) (sym c.past.ensures) ∙ c.in_ok-flag.ensures))
    ∙ c.loop-ending.invariant
