use Rattle.std.proofs.Common.{◌≡◌, ◌++◌, drop}
use Rattle.ds_lower.specs.Known.{offsets_from}
use Rattle.ds_lower.proofs.local.offsets_of.Given as goal

-- the offsets so far and those from here on
abbrev pub invariant-loop-n : goal.invariant-loop-n
invariant-loop-n l = l.offsets.items ++ offsets_from l.at (drop l.n l.blocks) ≡ offsets_from 0 l.blocks
