use Rattle.std.proofs.Common.{sym, ap, ◌∙◌}
use Rattle.ds_grammar.specs.Reading.{first_value, value_at}
use Rattle.ds_grammar.specs.Rows.{fact, is_word}
use Rattle.ds_grammar.specs.Instructions.{case_rest}
use Rattle.ds_parse_instr.proofs.Cases.{cases_more}
use Rattle.ds_parse_instr.proofs.control.cases.Goals as goal

pub cases-preserved : goal.cases-preserved
cases-preserved c =
    sym (cases_more c.runs_go_on.ensures.items c.args.ty c.cases.cases c.in_ok-more.more c.cases.rest
    c.in_ok-more.behind
    (ap (λ w. first_value (λ t. fact (is_word w t.kind t.bytes)) c.cases.rest.left) (sym c.scalar_word.ensures)
    ∙ sym c.is_next_word.ensures ∙ ap fact c.cases-test.true)
    (ap (value_at (case_rest c.args.ty c.cases.cases)) (sym c.past.ensures) ∙ c.in_ok-more.ensures))
    ∙ c.cases.invariant
