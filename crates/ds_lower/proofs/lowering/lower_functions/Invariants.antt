use Rattle.std.proofs.Common.{◌≡◌, map, take}
use Rattle.ds_code.specs.Lowering.{lowered_function}
use Rattle.ds_lower.proofs.lowering.lower_functions.Given as goal

-- the code of the functions so far
abbrev pub invariant-loop-function : goal.invariant-loop-function
invariant-loop-function l = l.made ≡ map (lowered_function l.scope) (take l.function-index l.functions)
