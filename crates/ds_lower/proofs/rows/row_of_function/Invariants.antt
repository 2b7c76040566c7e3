use Rattle.std.proofs.Common.{◌≤◌, All, take}
use Rattle.ds_code.specs.Rows.{FitsRow}
use Rattle.ds_lower.proofs.rows.row_of_function.Given as goal

-- it is long enough for the instructions so far
abbrev pub invariant-loop-instr : goal.invariant-loop-instr
invariant-loop-instr l = record {
  fits : All (FitsRow l.row) (take l.instr-index l.code);
  least : l.least ≤ l.row;
}
