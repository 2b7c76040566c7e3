use Rattle.std.proofs.Common.{take}
use Rattle.std.specs.Prelude.{All}
use Rattle.ds_shape.specs.Accepted.{IsGood}
use Rattle.ds_check.proofs.bodies.check_functions.Given as goal

abbrev pub invariant-loop-f : goal.invariant-loop-f
invariant-loop-f l = All (IsGood l.fn.module) (take l.f l.fn.module.functions)
