use Rattle.std.proofs.Common.{sym, ◌∙◌}
use Rattle.ds_grammar.specs.Sort.{a_name, a_number, both_of}
use Rattle.ds_grammar.specs.Functions.{placed_name}
use Rattle.ds_parse_function.specs.Runs.{optional_placed}
use Rattle.ds_parse_function.proofs.Optional.{part_there, part_missing}
use Rattle.ds_parse_function.proofs.parameters.optional_placed.Goals as goal

pub returns-in-Some : goal.returns-in-Some
unfolding optional_placed
returns-in-Some c = part_there c.optionals_are_read.ensures (both_of a_name a_number)
    (λ t. placed_name t.kind t.bytes t.at) c.in-Some.name c.args.rest c.past.result
    (sym c.in-Some.is ∙ c.in_ok-name.ensures) c.past.ensures

pub returns-in-None : goal.returns-in-None
unfolding optional_placed
returns-in-None c = part_missing c.optionals_are_read.ensures (both_of a_name a_number)
    (λ t. placed_name t.kind t.bytes t.at) c.args.rest (sym c.in-None.is ∙ c.in_ok-name.ensures)
