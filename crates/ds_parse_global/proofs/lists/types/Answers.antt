use Rattle.std.proofs.Common.{sym, ap, ◌∙◌}
use Rattle.ds_grammar.specs.Sort.{a_ty, a_number, both_of, list_of, maybe}
use Rattle.ds_grammar.specs.Reading.{value_at}
use Rattle.ds_grammar.specs.Globals.{types_more, next_type}
use Rattle.ds_parse_global.proofs.Runs.{types_go_on}
use Rattle.ds_parse_global.proofs.lists.types.Goals as goal

pub loop-types-preserved : goal.loop-types-preserved
loop-types-preserved c =
    sym (types_go_on c.runs_go_on.ensures.items c.loop-types.types c.in_ok-more.more c.in-Some.item c.loop-types.rest
    c.in_ok-more.behind
    (sym c.in_ok-item.ensures ∙ c.in-Some.is) (ap (value_at (types_more c.loop-types.types c.in-Some.item))
    (sym c.past.ensures) ∙ c.in_ok-more.ensures))
    ∙ c.loop-types.invariant

pub loop-types-smaller : goal.loop-types-smaller
loop-types-smaller c =
    c.items_take_tokens.ensures (maybe (both_of (maybe a_ty) a_number)) (list_of a_ty)
    (λ t. next_type c.loop-types.types t.kind t.bytes t.at) c.in-Some.item
    (types_more c.loop-types.types c.in-Some.item) c.in_ok-more.more c.loop-types.rest c.in_ok-more.behind
    (sym c.in_ok-item.ensures ∙ c.in-Some.is) (ap (value_at (types_more c.loop-types.types c.in-Some.item))
    (sym c.past.ensures) ∙ c.in_ok-more.ensures)
