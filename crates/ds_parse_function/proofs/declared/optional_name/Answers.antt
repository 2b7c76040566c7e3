use Rattle.std.proofs.Common.{sym, ◌∙◌}
use Rattle.ds_grammar.specs.Sort.{a_name}
use Rattle.ds_grammar.specs.Rows.{local_name}
use Rattle.ds_parse_function.specs.Runs.{optional_name}
use Rattle.ds_parse_function.proofs.Optional.{part_there, part_missing}
use Rattle.ds_parse_function.proofs.declared.optional_name.Goals as goal

pub returns-in-Some : goal.returns-in-Some
unfolding optional_name
returns-in-Some c = part_there c.optionals_are_read.ensures a_name
    (λ t. local_name t.kind t.bytes) c.in-Some.name c.args.rest c.past.result
    (sym c.in-Some.is ∙ c.in_ok-name.ensures) c.past.ensures

pub returns-in-None : goal.returns-in-None
unfolding optional_name
returns-in-None c = part_missing c.optionals_are_read.ensures a_name (λ t. local_name t.kind t.bytes) c.args.rest
    (sym c.in-None.is ∙ c.in_ok-name.ensures)
