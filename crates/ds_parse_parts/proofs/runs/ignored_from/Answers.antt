use Rattle.std.proofs.Common.{sym, ap, ◌∙◌}
use Rattle.ds_grammar.specs.Sort.{a_flag, a_run_item}
use Rattle.ds_grammar.specs.Reading.{value_at}
use Rattle.ds_grammar.specs.Rows.{ignored_from, run_item, run_rest}
use Rattle.ds_parse_parts.proofs.runs.ignored_from.Goals as goal

pub loop-item-preserved : goal.loop-item-preserved
unfolding ignored_from
loop-item-preserved c =
    sym (c.runs_go_on.ensures.items a_flag a_run_item (λ s t. run_item s t.kind t.bytes)
    (λ s i. run_rest i) c.loop-item.after_word c.in_ok-flag.flag c.in-Some.item c.loop-item.rest c.in_ok-flag.behind
    (sym c.in-Some.ensures) (ap (value_at (run_rest c.in-Some.item)) (sym c.past.ensures) ∙ c.in_ok-flag.ensures))
    ∙ c.loop-item.invariant
