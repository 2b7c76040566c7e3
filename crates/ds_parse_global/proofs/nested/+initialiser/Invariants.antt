-- A call is made with one bracket less, or from a function that stands above the called one. What is read from here,
-- behind these elements, is what is read from the first token on.
use Rattle.std.proofs.Common.{◌≡◌, ◌+◌, ◌*◌, length, []}
use Rattle.std.specs.Option.{option_copied}
use Rattle.ds_grammar.specs.Reading.{value_at}
use Rattle.ds_grammar.specs.Globals.{initialiser}
use Rattle.ds_parse_global.proofs.Runs.{elements_from, fields_from}
use Rattle.ds_parse_global.proofs.nested.+initialiser.Given as goal

abbrev pub decreases-initialiser : goal.decreases-initialiser
decreases-initialiser l = 4 * l.left

abbrev pub decreases-one_element : goal.decreases-one_element
decreases-one_element l = 4 * l.left + 1

abbrev pub decreases-elements : goal.decreases-elements
decreases-elements l = 4 * l.left + 2

abbrev pub decreases-fields : goal.decreases-fields
decreases-fields l = 4 * l.left + 2

abbrev pub decreases-init_rest : goal.decreases-init_rest
decreases-init_rest l = 4 * l.left + 3

abbrev pub invariant-elements-loop-parts : goal.invariant-elements-loop-parts
invariant-elements-loop-parts l =
    let inner = initialiser l.structs l.left in let of = option_copied l.ty in
    value_at (elements_from inner of l.parts) l.rest ≡ value_at (elements_from inner of []) l.fn.rest

abbrev pub decreases-elements-loop-parts : goal.decreases-elements-loop-parts
decreases-elements-loop-parts l = length l.rest.left

abbrev pub invariant-fields-loop-parts : goal.invariant-fields-loop-parts
invariant-fields-loop-parts l =
    let inner = initialiser l.structs l.left in
    value_at (fields_from inner l.types l.parts) l.rest ≡ value_at (fields_from inner l.types []) l.fn.rest

abbrev pub decreases-fields-loop-parts : goal.decreases-fields-loop-parts
decreases-fields-loop-parts l = length l.rest.left
