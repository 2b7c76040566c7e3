-- What is read from here, in this state, is what is read from the first token on.
use Rattle.std.proofs.Common.{◌≡◌, length}
use Rattle.ds_grammar.specs.Reading.{value_at}
use Rattle.ds_grammar.specs.Rows.{ignored_from}
use Rattle.ds_parse_parts.proofs.runs.ignored_from.Given as goal

abbrev pub invariant-loop-item : goal.invariant-loop-item
invariant-loop-item l = value_at (ignored_from l.after_word) l.rest ≡ value_at (ignored_from l.fn.after_word) l.fn.rest

abbrev pub decreases-loop-item : goal.decreases-loop-item
decreases-loop-item l = length l.rest.left
