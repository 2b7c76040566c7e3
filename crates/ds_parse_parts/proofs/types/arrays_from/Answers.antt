use Rattle.std.proofs.Common.{sym, ap, ◌∙◌}
use Rattle.std.specs.Option.{option_to_list}
use Rattle.ds_grammar.specs.Sort.{a_number, both_of, list_of}
use Rattle.ds_grammar.specs.Reading.{value_at}
use Rattle.ds_grammar.specs.Types.{arrays_from, array_place, marked_front}
use Rattle.ds_parse_parts.proofs.types.arrays_from.Goals as goal

pub loop-at-preserved : goal.loop-at-preserved
unfolding arrays_from
loop-at-preserved c =
    let front = marked_front (option_to_list c.args.mark) in
    sym (c.runs_go_on.ensures.items (both_of a_number (list_of a_number)) a_number
    (λ s t. array_place t.kind t.bytes t.at) front
    c.loop-at.opened c.in_ok-inner.inner c.in-Some.at c.loop-at.rest c.in_ok-inner.behind
    (sym c.in-Some.ensures) (ap (value_at (front c.loop-at.opened c.in-Some.at)) (sym c.past.ensures)
    ∙ c.in_ok-inner.ensures))
    ∙ c.loop-at.invariant

pub loop-at-smaller : goal.loop-at-smaller
loop-at-smaller c =
    let front = marked_front (option_to_list c.args.mark) in
    c.items_take_tokens.ensures a_number (both_of a_number (list_of a_number))
    (λ t. array_place t.kind t.bytes t.at) c.in-Some.at
    (front c.loop-at.opened c.in-Some.at) c.in_ok-inner.inner c.loop-at.rest c.in_ok-inner.behind
    (sym c.in-Some.ensures) (ap (value_at (front c.loop-at.opened c.in-Some.at)) (sym c.past.ensures)
    ∙ c.in_ok-inner.ensures)
