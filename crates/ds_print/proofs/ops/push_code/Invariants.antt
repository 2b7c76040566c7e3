use Rattle.std.proofs.Common.{◌≡◌, ◌++◌, take}
use Rattle.std.specs.List.{flat_map}
use Rattle.ds_lex.specs.Written.{written}
use Rattle.ds_print.specs.Canonical.{instr_pieces}
use Rattle.ds_print.proofs.ops.push_code.Given as goal

-- what the list has so far was added
abbrev pub invariant-loop-instr : goal.invariant-loop-instr
invariant-loop-instr l = l.text.items ≡ l.fn.text.items ++ written (flat_map instr_pieces (take l.instr-index l.code))
