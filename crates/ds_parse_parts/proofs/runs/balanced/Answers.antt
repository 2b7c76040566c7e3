use Rattle.std.proofs.Common.{sym, ap, ◌∙◌, inr}
use Rattle.std.specs.Prelude.{Err}
use Rattle.std.proofs.lemmas.Bool.{MatchBool-at_true, MatchBool-at_false}
use Rattle.ds_grammar.specs.Reading.{value_at}
use Rattle.ds_grammar.specs.Rows.{group_from}
use Rattle.ds_parse_parts.proofs.Groups.{group_more, balanced_done, balanced_dead}
use Rattle.ds_parse_parts.proofs.runs.balanced.Goals as goal

pub loop-brackets-preserved : goal.loop-brackets-preserved
loop-brackets-preserved c =
    ap (value_at (group_from c.goes_on.new.brackets)) c.past-rest.ensures
    ∙ sym (group_more c.runs_go_on.ensures.items c.loop-brackets.brackets c.goes_on.new.brackets c.loop-brackets.rest
    (MatchBool-at_true _ _ c.if-branch.true c.in_ok-goes_on.ensures))
    ∙ c.loop-brackets.invariant

pub returns-then-is_empty : goal.returns-then-is_empty
returns-then-is_empty c =
    let e = MatchBool-at_false _ _ c.if-branch.false c.in_ok-goes_on.ensures in
    balanced_done c.runs_go_on.ensures.end c.args.closer c.loop-brackets.brackets c.args.rest c.loop-brackets.rest
    c.loop-brackets.invariant e.0 (sym e.1 ∙ c.is_empty.ensures.0 c.if-is_empty.true)

pub returns : goal.returns
returns c =
    let e = MatchBool-at_false _ _ c.if-branch.false c.in_ok-goes_on.ensures in
    inr (balanced_dead c.runs_go_on.ensures.end c.args.closer c.loop-brackets.brackets c.args.rest
    c.loop-brackets.rest c.loop-brackets.invariant e.0
    (λ none. let r = c.is_empty.ensures.1 (e.1 ∙ none) in cc (r, c.if-is_empty.false))
    ∙ ap (λ f. Err f) (sym c.stopped.ensures))
