use Rattle.std.proofs.Common.{sym, ap, ◌∙◌, rules}
use Rattle.std.specs.Option.{option_copied}
use Rattle.ds_grammar.specs.Reading.{first_value, past, value_at}
use Rattle.ds_grammar.specs.Globals.{next_element, one_element, field_at, initialiser}
use Rattle.ds_parse_global.proofs.Depth.{by_head, behind_leaf, behind_rest}
use Rattle.ds_parse_global.proofs.Runs.{elements_go_on, elements_end, fields_go_on, fields_end}
use Rattle.ds_parse_global.proofs.nested.+initialiser.Goals as goal

pub elements-loop-parts-preserved : goal.elements-loop-parts-preserved
elements-loop-parts-preserved t c =
    let inner = initialiser c.args.structs.now c.args.left in let of = option_copied c.args.ty in
    sym (elements_go_on inner c.runs_go_on.ensures.items of c.loop-parts.parts c.in_ok-more.more c.in-Some.is_first
    c.loop-parts.rest c.in_ok-more.behind
    (sym c.in_ok-is_first.ensures ∙ c.in-Some.is)
    (ap (value_at (one_element inner c.loop-parts.parts c.in-Some.is_first of)) (sym c.past.ensures)
    ∙ c.in_ok-more.ensures))
    ∙ c.loop-parts.invariant

pub elements-returns : goal.elements-returns
elements-returns t c =
    elements_end (initialiser c.args.structs.now c.args.left) c.runs_go_on.ensures.end
    (option_copied c.args.ty) c.loop-parts.parts c.args.rest c.loop-parts.rest c.loop-parts.invariant
    (sym c.in_ok-is_first.ensures ∙ c.in_default.is)

pub fields-loop-parts-preserved : goal.fields-loop-parts-preserved
fields-loop-parts-preserved t c =
    let inner = initialiser c.args.structs.now c.args.left in let ts = c.args.types.now in
    sym (fields_go_on inner c.runs_go_on.ensures.items ts c.loop-parts.parts c.in_ok-more.more c.in-Some.is_first
    c.loop-parts.rest c.in_ok-more.behind
    (ap (λ o. first_value (λ u. next_element c.loop-parts.parts o u.kind u.bytes) c.loop-parts.rest.left)
    (ap (field_at ts) (sym c.len.ensures) ∙ sym c.field_at.ensures)
    ∙ sym c.in_ok-is_first.ensures ∙ c.in-Some.is)
    (ap (λ o. value_at (one_element inner c.loop-parts.parts c.in-Some.is_first o) (past c.loop-parts.rest))
    (ap (field_at ts) (sym c.len-in-Some.ensures) ∙ sym c.field_at-ty.ensures)
    ∙ ap (value_at (one_element inner c.loop-parts.parts c.in-Some.is_first (option_copied c.field_at-ty.result)))
    (sym c.past.ensures) ∙ c.in_ok-more.ensures))
    ∙ c.loop-parts.invariant

pub fields-returns : goal.fields-returns
fields-returns t c =
    fields_end (initialiser c.args.structs.now c.args.left) c.runs_go_on.ensures.end c.args.types.now
    c.loop-parts.parts c.args.rest c.loop-parts.rest c.loop-parts.invariant
    (ap (λ o. first_value (λ u. next_element c.loop-parts.parts o u.kind u.bytes) c.loop-parts.rest.left)
    (ap (field_at c.args.types.now) (sym c.len.ensures) ∙ sym c.field_at.ensures)
    ∙ sym c.in_ok-is_first.ensures ∙ c.in_default.is)

pub initialiser-returns-in_err-head : goal.initialiser-returns-in_err-head
initialiser-returns-in_err-head t c =
    rw (by_head c.args.structs.now c.args.left c.args.ty.now c.args.rest) (search rules)

pub initialiser-returns-then-left-eq0 : goal.initialiser-returns-then-left-eq0
initialiser-returns-then-left-eq0 t c = rw (
  by_head c.args.structs.now c.args.left c.args.ty.now c.args.rest,
  c.in_ok-head.ensures,
  behind_leaf _ _ _ _ _ c.if-left-eq0.true,
) (search rules)

pub initialiser-returns-else-left-eq0 : goal.initialiser-returns-else-left-eq0
initialiser-returns-else-left-eq0 t c = rw (
  by_head c.args.structs.now c.args.left c.args.ty.now c.args.rest,
  c.in_ok-head.ensures,
  behind_rest _ _ _ _ _ c.if-left-eq0.false,
) (search rules)
