use Rattle.std.proofs.Common.{◌≡◌, ◌++◌, drop}
use Rattle.ds_code.specs.Cells.{cells_for}
use Rattle.ds_code.specs.Lowering as lowering
use Rattle.ds_lower.proofs.calls.arguments_of.Given as goal

-- the arguments so far and those from here on
abbrev pub invariant-loop-n : goal.invariant-loop-n
invariant-loop-n l = l.made ++ lowering.arguments_of l.scope (cells_for l.local) l.n (drop l.n l.args)
    ≡ lowering.arguments_of l.scope (cells_for l.local) 0 l.args
