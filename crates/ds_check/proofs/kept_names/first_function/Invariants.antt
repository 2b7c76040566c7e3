use Rattle.std.proofs.Common.{take}
use Rattle.std.specs.Prelude.{All}
use Rattle.ds_shape.specs.Accepted.{IsGoodExternal}
use Rattle.ds_check.proofs.kept_names.first_function.Given as goal

abbrev pub invariant-loop-f : goal.invariant-loop-f
invariant-loop-f l = All IsGoodExternal (take l.f-index l.fn.functions)
