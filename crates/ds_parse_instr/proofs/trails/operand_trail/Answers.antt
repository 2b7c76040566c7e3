use Rattle.std.proofs.Common.{sym, ap, ◌∙◌}
use Rattle.ds_grammar.specs.Sort.{an_operand, a_stage, an_ending, both_of, list_of}
use Rattle.ds_grammar.specs.Reading.{value_at}
use Rattle.ds_grammar.specs.Rows.{ending_item}
use Rattle.ds_grammar.specs.Instructions.{operands_from, operands_more, only_attrs}
use Rattle.ds_parse_instr.proofs.trails.operand_trail.Goals as goal

pub loop-ending-preserved : goal.loop-ending-preserved
unfolding operands_from
loop-ending-preserved c =
    sym (c.runs_go_on.ensures.items (both_of (list_of an_operand) a_stage) an_ending
    (λ s t. ending_item (only_attrs s.1) t.kind t.bytes) (operands_more c.args.at_most_one)
    (c.loop-ending.operands, c.loop-ending.stage)
    (c.in_ok-more.more, c.in_ok-more.next) c.in-Some.ending c.loop-ending.rest c.in_ok-more.behind
    (sym c.in-Some.ensures) (ap (value_at (operands_more c.args.at_most_one
    (c.loop-ending.operands, c.loop-ending.stage) c.in-Some.ending)) (sym c.past.ensures) ∙ c.in_ok-more.ensures))
    ∙ c.loop-ending.invariant

pub loop-ending-smaller : goal.loop-ending-smaller
loop-ending-smaller c =
    c.items_take_tokens.ensures an_ending (both_of (list_of an_operand) a_stage)
    (λ t. ending_item (only_attrs c.loop-ending.stage) t.kind t.bytes) c.in-Some.ending
    (operands_more c.args.at_most_one (c.loop-ending.operands, c.loop-ending.stage) c.in-Some.ending)
    (c.in_ok-more.more, c.in_ok-more.next) c.loop-ending.rest c.in_ok-more.behind
    (sym c.in-Some.ensures) (ap (value_at (operands_more c.args.at_most_one
    (c.loop-ending.operands, c.loop-ending.stage) c.in-Some.ending)) (sym c.past.ensures) ∙ c.in_ok-more.ensures)
