use Rattle.std.proofs.Common.{◌≡◌, map, take}
use Rattle.ds_pass.specs.Noted.{noted_function}
use Rattle.ds_pass.proofs.pass.noted_functions.Given as goal

-- the functions so far with their notes
abbrev pub invariant-loop-function : goal.invariant-loop-function
invariant-loop-function l = l.with_notes ≡ map noted_function (take l.function-index l.functions)
