use Rattle.std.proofs.Common.{◌≡◌, ◌++◌, take}
use Rattle.std.specs.List.{flat_map}
use Rattle.ds_lex.specs.Written.{written}
use Rattle.ds_print.specs.Canonical.{struct_pieces}
use Rattle.ds_print.proofs.structs.push_structs.Given as goal

-- what the list has so far was added
abbrev pub invariant-loop-line : goal.invariant-loop-line
invariant-loop-line l = l.text.items ≡ l.fn.text.items ++ written (flat_map struct_pieces (take l.line-index l.lines))
