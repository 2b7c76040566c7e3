use Rattle.std.proofs.Common.{sym, ap, ◌∙◌, inr}
use Rattle.std.specs.Prelude.{nat_lt, Err}
use Rattle.ds_grammar.specs.Reading.{value_at}
use Rattle.ds_grammar.specs.Types.{array_ends, is_flat}
use Rattle.ds_parse_parts.proofs.Closing.{ends_more, type_done, type_dead}
use Rattle.ds_parse_parts.proofs.types.closed_type.Goals as goal

pub loop-count-preserved : goal.loop-count-preserved
loop-count-preserved c =
    ap (λ t. value_at (array_ends (nat_lt 32 c.len-too_deep.result) (c.next_end.new.opened.1, t)) c.past-rest.result)
    c.in_ok-ty.ensures
    ∙ ap (value_at (array_ends (nat_lt 32 c.len-too_deep.result) _)) c.past-rest.ensures
    ∙ sym (ends_more c.runs_go_on.ensures.items (nat_lt 32 c.len-too_deep.result) c.loop-count.opened.1
    c.in-Some.count c.next_end.new.opened.1 c.loop-count.ty c.loop-count.rest c.in-Some.ensures.0 c.in-Some.ensures.1)
    ∙ c.loop-count.invariant

pub returns-then-is_empty : goal.returns-then-is_empty
returns-then-is_empty c =
    type_done c.runs_go_on.ensures.end c.args.opened c.args.base c.loop-count.ty c.loop-count.opened.1
    c.len-too_deep.result c.args.rest c.loop-count.rest c.len-too_deep.ensures c.loop-count.invariant
    c.in_default.ensures.0 (ap (λ o. is_flat o.1) (sym c.in_default.ensures.1) ∙ sym c.is_empty.ensures
    ∙ c.if-is_empty.true)

pub returns : goal.returns
returns c =
    inr (type_dead c.runs_go_on.ensures.end c.args.opened c.args.base c.loop-count.ty c.loop-count.opened.1
    c.len-too_deep.result c.args.rest c.loop-count.rest c.len-too_deep.ensures c.loop-count.invariant
    c.in_default.ensures.0 (ap (λ o. is_flat o.1) (sym c.in_default.ensures.1) ∙ sym c.is_empty.ensures
    ∙ c.if-is_empty.false) ∙ ap (λ f. Err f) (sym c.stopped.ensures))
