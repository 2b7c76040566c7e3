-- What is read from here, behind these lines, is what is read from the first token on.
use Rattle.std.proofs.Common.{◌≡◌, length}
use Rattle.ds_grammar.specs.Reading.{value_at}
use Rattle.ds_grammar.specs.Functions.{body_from}
use Rattle.ds_parse_function.specs.Runs.{lines_from}
use Rattle.ds_parse_function.proofs.body.body_from.Given as goal

abbrev pub invariant-loop-body : goal.invariant-loop-body
invariant-loop-body l = value_at (lines_from l.body) l.rest ≡ value_at (body_from l.counter) l.fn.rest

abbrev pub decreases-loop-body : goal.decreases-loop-body
decreases-loop-body l = length l.rest.left
