use Rattle.std.proofs.Common.{◌≡◌, take}
use Rattle.ds_frame.specs.Steps.{held}
use Rattle.ds_frame.proofs.cells.read_all.Given as goal

-- the row's front has the values so far
abbrev pub invariant-loop-n : goal.invariant-loop-n
invariant-loop-n l = take l.n l.row ≡ held l.base l.cells (take l.n l.copies)
