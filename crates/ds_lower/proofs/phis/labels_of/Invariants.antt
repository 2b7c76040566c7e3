use Rattle.std.proofs.Common.{◌≡◌, take}
use Rattle.ds_names.specs.Places.{nows}
use Rattle.ds_lower.specs.Known as known
use Rattle.ds_lower.proofs.phis.labels_of.Given as goal

-- the labels of the arms so far
abbrev pub invariant-loop-arm : goal.invariant-loop-arm
invariant-loop-arm l = nows l.names.items ≡ known.labels_of (take l.arm-index l.arms)
