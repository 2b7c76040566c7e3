-- What is read from here, with these brackets open, is what is read from the first token on.
use Rattle.std.proofs.Common.{◌≡◌, length, [], ◌∷◌}
use Rattle.ds_grammar.specs.Reading.{value_at}
use Rattle.ds_grammar.specs.Rows.{group_from}
use Rattle.ds_parse_parts.proofs.runs.balanced.Given as goal

abbrev pub invariant-loop-brackets : goal.invariant-loop-brackets
invariant-loop-brackets l = value_at (group_from l.brackets) l.rest ≡ value_at (group_from (l.closer ∷ [])) l.fn.rest

abbrev pub decreases-loop-brackets : goal.decreases-loop-brackets
decreases-loop-brackets l = length l.rest.left
