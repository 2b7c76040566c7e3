use Rattle.std.proofs.Common.{take}
use Rattle.std.specs.Prelude.{All}
use Rattle.ds_shape.specs.Accepted.{IsFreeGlobal}
use Rattle.ds_check.proofs.kept_names.first_global.Given as goal

abbrev pub invariant-loop-g : goal.invariant-loop-g
invariant-loop-g l = All IsFreeGlobal (take l.g-index l.fn.globals)
