-- What is read from here, behind these types, is what is read from the first token on.
use Rattle.std.proofs.Common.{◌≡◌, length, []}
use Rattle.ds_grammar.specs.Reading.{value_at}
use Rattle.ds_parse_global.proofs.Runs.{types_from}
use Rattle.ds_parse_global.proofs.lists.types.Given as goal

abbrev pub invariant-loop-types : goal.invariant-loop-types
invariant-loop-types l = value_at (types_from l.types) l.rest ≡ value_at (types_from []) l.fn.rest

abbrev pub decreases-loop-types : goal.decreases-loop-types
decreases-loop-types l = length l.rest.left
