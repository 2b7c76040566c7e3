use Rattle.std.proofs.Common.{◌≡◌, ◌++◌, take, map}
use Rattle.ds_lex.specs.Written.{written}
use Rattle.ds_print.specs.Canonical.{operand_pieces, listed}
use Rattle.ds_print.proofs.control.push_args.Given as goal

-- what the list has so far was added
abbrev pub invariant-loop-index : goal.invariant-loop-index
invariant-loop-index l = l.text.items ≡ l.fn.text.items ++ written (listed (map operand_pieces (take l.index l.args)))
