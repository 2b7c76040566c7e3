-- What is read from here is what is read from the first token on.
use Rattle.std.proofs.Common.{◌≡◌, length}
use Rattle.ds_grammar.specs.Reading.{value_at}
use Rattle.ds_grammar.specs.Functions.{metadata_pairs}
use Rattle.ds_parse_function.proofs.declared.metadata_pairs.Given as goal

abbrev pub invariant-loop-rest : goal.invariant-loop-rest
invariant-loop-rest l = value_at metadata_pairs l.rest ≡ value_at metadata_pairs l.fn.rest

abbrev pub decreases-loop-rest : goal.decreases-loop-rest
decreases-loop-rest l = length l.rest.left
