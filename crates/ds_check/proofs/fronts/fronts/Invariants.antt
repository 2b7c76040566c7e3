use Rattle.std.proofs.Common.{take}
use Rattle.ds_check.specs.Front.{AreFronts}
use Rattle.ds_check.proofs.fronts.fronts.Given as goal

abbrev pub invariant-loop-block : goal.invariant-loop-block
invariant-loop-block l = AreFronts (take l.block-index l.fn.blocks) l.fronts.items
