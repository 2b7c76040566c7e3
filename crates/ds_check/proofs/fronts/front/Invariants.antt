use Rattle.std.proofs.Common.{take}
use Rattle.std.specs.Prelude.{All}
use Rattle.ds_shape.specs.Placed.{IsPhi}
use Rattle.ds_check.proofs.fronts.front.Given as goal

abbrev pub invariant-loop-n : goal.invariant-loop-n
invariant-loop-n l = All IsPhi (take l.n l.fn.code)
