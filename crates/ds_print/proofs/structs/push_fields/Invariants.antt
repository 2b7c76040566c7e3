use Rattle.std.proofs.Common.{◌≡◌, ◌++◌, take, map}
use Rattle.ds_lex.specs.Written.{written}
use Rattle.ds_print.specs.Canonical.{type_pieces, listed_behind_space}
use Rattle.ds_print.proofs.structs.push_fields.Given as goal

-- what the list has so far was added
abbrev pub invariant-loop-index : goal.invariant-loop-index
invariant-loop-index l =
    l.text.items ≡ l.fn.text.items ++ written (listed_behind_space (map type_pieces (take l.index l.fields)))
