use Rattle.std.proofs.Common.{◌≡◌, ◌++◌, drop}
use Rattle.ds_code.specs.Lowering.{lowered_blocks}
use Rattle.ds_lower.proofs.lowering.lower_blocks.Given as goal

-- the code so far and that from here on
abbrev pub invariant-loop-n : goal.invariant-loop-n
invariant-loop-n l = l.code ++ lowered_blocks l.scope l.local l.seen (drop l.n l.blocks)
    ≡ lowered_blocks l.scope l.local 0 l.blocks
