-- What is read from here, inside these arrays, is what is read from the first token on.
use Rattle.std.proofs.Common.{◌≡◌, length}
use Rattle.std.specs.Option.{option_to_list}
use Rattle.ds_grammar.specs.Reading.{value_at}
use Rattle.ds_grammar.specs.Types.{arrays_from}
use Rattle.ds_parse_parts.proofs.types.arrays_from.Given as goal

abbrev pub invariant-loop-at : goal.invariant-loop-at
invariant-loop-at l = let marks = option_to_list l.mark in
    value_at (arrays_from marks l.opened) l.rest ≡ value_at (arrays_from marks l.fn.opened) l.fn.rest

abbrev pub decreases-loop-at : goal.decreases-loop-at
decreases-loop-at l = length l.rest.left
