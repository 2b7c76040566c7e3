-- How entities are read one behind the other.
use Rattle.std.proofs.Common.{◌≡◌}
use Rattle.std.specs.Prelude.{Some, Ok}
use Rattle.ds_ast.specs.declared.module.Module.{Module}
use Rattle.ds_grammar.specs.declared.item.Entity.{Entity}
use Rattle.ds_grammar.specs.Sort.{an_entity, a_module}
use Rattle.ds_grammar.specs.Grammar.{Grammar, Loop}
use Rattle.ds_grammar.specs.Reading.{Place, first_value, past, value_at}
use Rattle.ds_grammar.specs.Laws.{RunsTakeItems}
use Rattle.ds_grammar.specs.Functions.{entity_of, entity_rest}

-- the module behind these parts
abbrev pub module_from : Module → Grammar a_module
module_from m = Loop an_entity (λ m t. entity_of t.kind t.bytes) entity_rest m

pub entities_more : RunsTakeItems → (m next : Module) (e : Entity) (p q : Place)
    → first_value (λ t. entity_of t.kind t.bytes) p.left ≡ Some e
    → value_at (entity_rest m e) (past p) ≡ Ok (next, q) → value_at (module_from m) p ≡ value_at (module_from next) q
entities_more law m next e p q first rest =
    law a_module an_entity (λ m t. entity_of t.kind t.bytes) entity_rest m next e p q first rest
