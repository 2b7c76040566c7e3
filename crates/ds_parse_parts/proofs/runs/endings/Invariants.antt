-- What is read from here, in this state, is what is read from the first token on.
use Rattle.std.proofs.Common.{◌≡◌, false, length}
use Rattle.ds_grammar.specs.Reading.{value_at}
use Rattle.ds_grammar.specs.Rows.{endings_from}
use Rattle.ds_parse_parts.proofs.runs.endings.Given as goal

abbrev pub invariant-loop-ending : goal.invariant-loop-ending
invariant-loop-ending l = value_at (endings_from l.in_attrs) l.rest ≡ value_at (endings_from false) l.fn.rest

abbrev pub decreases-loop-ending : goal.decreases-loop-ending
decreases-loop-ending l = length l.rest.left
