-- What is read from here, behind these arguments, is what is read from the first token on.
use Rattle.std.proofs.Common.{◌≡◌, length, []}
use Rattle.ds_grammar.specs.Reading.{value_at}
use Rattle.ds_grammar.specs.Instructions.{arguments_from}
use Rattle.ds_parse_instr.proofs.calls.arguments.Given as goal

abbrev pub invariant-loop-item : goal.invariant-loop-item
invariant-loop-item l = value_at (arguments_from l.arguments) l.rest ≡ value_at (arguments_from []) l.fn.rest

abbrev pub decreases-loop-item : goal.decreases-loop-item
decreases-loop-item l = length l.rest.left
