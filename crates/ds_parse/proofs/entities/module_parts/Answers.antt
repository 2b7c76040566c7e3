use Rattle.std.proofs.Common.{sym, ap, ◌∙◌}
use Rattle.ds_grammar.specs.Sort.{an_entity, a_module}
use Rattle.ds_grammar.specs.Reading.{value_at}
use Rattle.ds_grammar.specs.Functions.{entity_of, entity_rest}
use Rattle.ds_parse.proofs.Runs.{entities_more}
use Rattle.ds_parse.proofs.entities.module_parts.Goals as goal

pub loop-parts-preserved : goal.loop-parts-preserved
loop-parts-preserved c =
    sym (entities_more c.runs_go_on.ensures.items c.loop-parts.parts c.in_ok-more.more c.in-Some.entity
    c.loop-parts.rest c.in_ok-more.behind
    (sym c.in_ok-entity.ensures ∙ c.in-Some.is) (ap (value_at (entity_rest c.loop-parts.parts c.in-Some.entity))
    (sym c.past.ensures) ∙ c.in_ok-more.ensures))
    ∙ c.loop-parts.invariant

pub loop-parts-smaller : goal.loop-parts-smaller
loop-parts-smaller c =
    c.items_take_tokens.ensures an_entity a_module (λ t. entity_of t.kind t.bytes) c.in-Some.entity
    (entity_rest c.loop-parts.parts c.in-Some.entity) c.in_ok-more.more c.loop-parts.rest c.in_ok-more.behind
    (sym c.in_ok-entity.ensures ∙ c.in-Some.is) (ap (value_at (entity_rest c.loop-parts.parts c.in-Some.entity))
    (sym c.past.ensures) ∙ c.in_ok-more.ensures)
