use Rattle.std.proofs.Common.{take}
use Rattle.std.specs.Prelude.{All}
use Rattle.ds_shape.specs.Placed.{KeepsAssigned, placed_of}
use Rattle.ds_check_paths.proofs.unassigned.first_unassigned.Given as goal

-- the instructions so far keep the rule
abbrev pub invariant-loop-number : goal.invariant-loop-number
invariant-loop-number l = All (KeepsAssigned l.fn.function) (take l.number (placed_of l.fn.function))
