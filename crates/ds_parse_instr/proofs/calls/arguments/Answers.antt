use Rattle.std.proofs.Common.{sym, ap, ◌∙◌}
use Rattle.ds_grammar.specs.Sort.{an_operand, a_scalar, list_of, maybe}
use Rattle.ds_grammar.specs.Reading.{value_at}
use Rattle.ds_grammar.specs.Instructions.{arguments_from, argument_rest, next_argument, is_empty}
use Rattle.ds_parse_instr.proofs.calls.arguments.Goals as goal

pub loop-item-preserved : goal.loop-item-preserved
unfolding arguments_from
loop-item-preserved c =
    sym (c.runs_go_on.ensures.items (list_of an_operand) (maybe a_scalar)
    (λ s t. next_argument (is_empty s) t.kind t.bytes) argument_rest
    c.loop-item.arguments c.in_ok-more.more c.in-Some.item c.loop-item.rest c.in_ok-more.behind
    (sym c.in-Some.ensures) (ap (value_at (argument_rest c.loop-item.arguments c.in-Some.item)) (sym c.past.ensures)
    ∙ c.in_ok-more.ensures))
    ∙ c.loop-item.invariant

pub loop-item-smaller : goal.loop-item-smaller
loop-item-smaller c =
    c.items_take_tokens.ensures (maybe a_scalar) (list_of an_operand)
    (λ t. next_argument (is_empty c.loop-item.arguments) t.kind t.bytes) c.in-Some.item
    (argument_rest c.loop-item.arguments c.in-Some.item) c.in_ok-more.more c.loop-item.rest c.in_ok-more.behind
    (sym c.in-Some.ensures) (ap (value_at (argument_rest c.loop-item.arguments c.in-Some.item)) (sym c.past.ensures)
    ∙ c.in_ok-more.ensures)
