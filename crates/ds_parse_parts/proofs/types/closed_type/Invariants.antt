-- What is read from here, with these arrays open, is what is read from the first token on.
use Rattle.std.proofs.Common.{◌≡◌, length}
use Rattle.ds_grammar.specs.Reading.{value_at}
use Rattle.ds_grammar.specs.Types.{array_ends}
use Rattle.ds_parse_parts.proofs.types.closed_type.Given as goal

abbrev pub invariant-loop-count : goal.invariant-loop-count
invariant-loop-count l = value_at (array_ends l.too_deep (l.opened.1, l.ty)) l.rest
    ≡ value_at (array_ends l.too_deep (l.fn.opened.1, l.fn.base)) l.fn.rest

abbrev pub decreases-loop-count : goal.decreases-loop-count
decreases-loop-count l = length l.opened.1
