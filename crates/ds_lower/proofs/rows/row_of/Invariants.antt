use Rattle.std.proofs.Common.{All, take}
use Rattle.ds_code.specs.Rows.{FunctionFits}
use Rattle.ds_lower.proofs.rows.row_of.Given as goal

-- it is long enough for the functions so far
abbrev pub invariant-loop-function : goal.invariant-loop-function
invariant-loop-function l = All (FunctionFits l.row) (take l.function-index l.functions)
