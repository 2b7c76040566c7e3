use Rattle.std.proofs.Common.{◌≡◌, ◌++◌, flat_map, take}
use Rattle.ds_names.specs.Places.{nows}
use Rattle.ds_code.specs.Cells.{name_past}
use Rattle.ds_lower.proofs.local.push_names.Given as goal

-- the names of the instructions so far
abbrev pub invariant-loop-instr : goal.invariant-loop-instr
invariant-loop-instr l = nows l.names.items ≡ nows l.initial.names.items ++ flat_map (name_past l.past) (take
    l.instr-index l.code)
