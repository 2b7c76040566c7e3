use Rattle.std.proofs.Common.{◌≡◌, ◌+◌, ◌++◌, drop}
use Rattle.ds_meaning.specs.Places.{counted}
use Rattle.ds_code.specs.Lowering.{lowered_code}
use Rattle.ds_lower.proofs.instrs.push_block.Given as goal

-- the code so far and that from here on, and how many instructions are counted
abbrev pub invariant-loop-n : goal.invariant-loop-n
invariant-loop-n l = record {
  code : l.code ++ lowered_code l.scope l.local l.from l.seen (drop l.n l.instrs)
      ≡ l.initial.code ++ lowered_code l.scope l.local l.from l.before l.instrs;
  seen : l.seen + counted l.scope (drop l.n l.instrs) ≡ l.before + counted l.scope l.instrs;
}
