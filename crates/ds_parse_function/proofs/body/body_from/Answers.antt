use Rattle.std.proofs.Common.{sym, ap, ◌∙◌}
use Rattle.std.specs.Prelude.{not, is_some}
use Rattle.ds_grammar.specs.Sort.{a_begin, a_number, a_body, both_of}
use Rattle.ds_grammar.specs.Reading.{value_at}
use Rattle.ds_grammar.specs.Functions.{line_begin, line_rest}
use Rattle.ds_parse_function.specs.Runs.{lines_from}
use Rattle.ds_parse_function.proofs.body.body_from.Goals as goal

pub loop-body-preserved : goal.loop-body-preserved
unfolding lines_from
loop-body-preserved c =
    sym (c.runs_go_on.ensures.items a_body (both_of a_begin a_number)
    (λ b t. line_begin (not (is_some b.open_block)) t.kind t.bytes t.at) line_rest
    c.loop-body.body c.in_ok-more.more c.in-Some.line c.loop-body.rest c.in_ok-more.behind
    (sym c.in_ok-line.ensures ∙ c.in-Some.is) (ap (value_at (line_rest c.loop-body.body c.in-Some.line))
    (sym c.past.ensures) ∙ c.in_ok-more.ensures))
    ∙ c.loop-body.invariant

pub loop-body-smaller : goal.loop-body-smaller
loop-body-smaller c =
    c.items_take_tokens.ensures (both_of a_begin a_number) a_body
    (λ t. line_begin (not (is_some c.loop-body.body.open_block)) t.kind t.bytes t.at) c.in-Some.line
    (line_rest c.loop-body.body c.in-Some.line) c.in_ok-more.more c.loop-body.rest c.in_ok-more.behind
    (sym c.in_ok-line.ensures ∙ c.in-Some.is) (ap (value_at (line_rest c.loop-body.body c.in-Some.line))
    (sym c.past.ensures) ∙ c.in_ok-more.ensures)
