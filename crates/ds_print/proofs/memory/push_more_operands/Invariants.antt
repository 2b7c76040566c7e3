use Rattle.std.proofs.Common.{◌≡◌, ◌++◌, take, map}
use Rattle.ds_lex.specs.Written.{written}
use Rattle.ds_print.specs.Canonical.{operand_pieces, more_listed}
use Rattle.ds_print.proofs.memory.push_more_operands.Given as goal

-- the operands so far were added
abbrev pub invariant-loop-operand : goal.invariant-loop-operand
invariant-loop-operand l =
    l.text.items ≡ l.fn.text.items ++ written (more_listed (map operand_pieces (take l.operand-index l.operands)))
