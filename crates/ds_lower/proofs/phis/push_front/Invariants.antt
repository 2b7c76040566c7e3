use Rattle.std.proofs.Common.{◌≡◌, ◌++◌, drop}
use Rattle.ds_code.specs.Lowering.{front}
use Rattle.ds_lower.proofs.phis.push_front.Given as goal

-- the phis so far and those from here on
abbrev pub invariant-loop-n : goal.invariant-loop-n
invariant-loop-n l = l.phis.items ++ front (drop l.n l.code) ≡ l.initial.phis.items ++ front l.code
