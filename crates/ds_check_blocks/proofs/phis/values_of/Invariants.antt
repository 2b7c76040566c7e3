use Rattle.std.proofs.Common.{take}
use Rattle.ds_check_blocks.specs.Phis.{Agrees}
use Rattle.ds_check_blocks.proofs.phis.values_of.Given as goal

abbrev pub invariant-loop-arm : goal.invariant-loop-arm
invariant-loop-arm l = Agrees l.locals l.predecessors.keys (take l.arm-index l.arms) l.values
