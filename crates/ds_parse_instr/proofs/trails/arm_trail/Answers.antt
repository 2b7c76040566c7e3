use Rattle.std.proofs.Common.{sym, ap, ◌∙◌}
use Rattle.ds_grammar.specs.Sort.{an_arm, a_stage, an_ending, both_of, list_of}
use Rattle.ds_grammar.specs.Reading.{value_at}
use Rattle.ds_grammar.specs.Rows.{ending_item}
use Rattle.ds_grammar.specs.Instructions.{arms_from, arms_more, only_attrs}
use Rattle.ds_parse_instr.proofs.trails.arm_trail.Goals as goal

pub loop-ending-preserved : goal.loop-ending-preserved
unfolding arms_from
loop-ending-preserved c =
    sym (c.runs_go_on.ensures.items (both_of (list_of an_arm) a_stage) an_ending
    (λ s t. ending_item (only_attrs s.1) t.kind t.bytes) (arms_more c.args.ty)
    (c.loop-ending.arms, c.loop-ending.stage) (c.in_ok-more.more, c.in_ok-more.next) c.in-Some.ending
    c.loop-ending.rest c.in_ok-more.behind
    (sym c.in-Some.ensures) (ap (value_at (arms_more c.args.ty
    (c.loop-ending.arms, c.loop-ending.stage) c.in-Some.ending)) (sym c.past.ensures) ∙ c.in_ok-more.ensures))
    ∙ c.loop-ending.invariant

pub loop-ending-smaller : goal.loop-ending-smaller
loop-ending-smaller c =
    c.items_take_tokens.ensures an_ending (both_of (list_of an_arm) a_stage)
    (λ t. ending_item (only_attrs c.loop-ending.stage) t.kind t.bytes) c.in-Some.ending
    (arms_more c.args.ty (c.loop-ending.arms, c.loop-ending.stage) c.in-Some.ending)
    (c.in_ok-more.more, c.in_ok-more.next) c.loop-ending.rest c.in_ok-more.behind
    (sym c.in-Some.ensures) (ap (value_at (arms_more c.args.ty
    (c.loop-ending.arms, c.loop-ending.stage) c.in-Some.ending)) (sym c.past.ensures) ∙ c.in_ok-more.ensures)
