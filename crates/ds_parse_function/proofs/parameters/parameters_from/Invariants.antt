-- What is read from here, behind these parameters, is what is read from the first token on.
use Rattle.std.proofs.Common.{◌≡◌, length, []}
use Rattle.ds_grammar.specs.Reading.{value_at}
use Rattle.ds_parse_function.specs.Runs.{parameters_from}
use Rattle.ds_parse_function.proofs.parameters.parameters_from.Given as goal

abbrev pub invariant-loop-item : goal.invariant-loop-item
invariant-loop-item l = value_at (parameters_from l.params) l.rest
    ≡ value_at (parameters_from (record { params = []; counter = 0; pending = [] })) l.fn.rest

abbrev pub decreases-loop-item : goal.decreases-loop-item
decreases-loop-item l = length l.rest.left
