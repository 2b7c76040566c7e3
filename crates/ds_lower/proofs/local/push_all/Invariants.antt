use Rattle.std.proofs.Common.{◌≡◌, ◌++◌, take}
use Rattle.ds_names.specs.Places.{nows}
use Rattle.ds_lower.specs.Known.{names_past}
use Rattle.ds_lower.proofs.local.push_all.Given as goal

-- the names of the blocks so far
abbrev pub invariant-loop-block : goal.invariant-loop-block
invariant-loop-block l = nows l.names.items ≡ nows l.initial.names.items ++ names_past l.past (take l.block-index
    l.blocks)
