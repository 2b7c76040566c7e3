use Rattle.std.proofs.Common.{sym, ap, ◌∙◌}
use Rattle.ds_grammar.specs.Sort.{a_param, a_scalar, a_number, both_of, list_of, maybe}
use Rattle.ds_grammar.specs.Reading.{value_at}
use Rattle.ds_grammar.specs.Functions.{next_parameter, declared_more}
use Rattle.ds_parse_function.specs.Runs.{declared_from}
use Rattle.ds_parse_function.proofs.declared.declared_parameters.Goals as goal

pub loop-item-preserved : goal.loop-item-preserved
unfolding declared_from
loop-item-preserved c =
    sym (c.runs_go_on.ensures.items (list_of a_param) (maybe (both_of a_scalar a_number))
    (λ s t. next_parameter s t.kind t.bytes t.at) declared_more
    c.loop-item.params c.in_ok-more.more c.in-Some.item c.loop-item.rest c.in_ok-more.behind
    (sym c.in-Some.ensures) (ap (value_at (declared_more c.loop-item.params c.in-Some.item)) (sym c.past.ensures)
    ∙ c.in_ok-more.ensures))
    ∙ c.loop-item.invariant

pub loop-item-smaller : goal.loop-item-smaller
loop-item-smaller c =
    c.items_take_tokens.ensures (maybe (both_of a_scalar a_number)) (list_of a_param)
    (λ t. next_parameter c.loop-item.params t.kind t.bytes t.at) c.in-Some.item
    (declared_more c.loop-item.params c.in-Some.item) c.in_ok-more.more c.loop-item.rest c.in_ok-more.behind
    (sym c.in-Some.ensures) (ap (value_at (declared_more c.loop-item.params c.in-Some.item)) (sym c.past.ensures)
    ∙ c.in_ok-more.ensures)
