use Rattle.std.proofs.Common.{take}
use Rattle.std.specs.Prelude.{All}
use Rattle.ds_shape.specs.Placed.{IsDefined}
use Rattle.ds_shape.specs.Operands.{uses_of}
use Rattle.ds_check.proofs.operands.are_uses_defined.Given as goal

abbrev pub invariant-loop-n : goal.invariant-loop-n
invariant-loop-n l = All (IsDefined l.fn.entities l.fn.locals) (take l.n (uses_of l.fn.op))
