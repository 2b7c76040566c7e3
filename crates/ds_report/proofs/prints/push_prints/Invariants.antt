use Rattle.std.proofs.Common.{◌≡◌, ◌++◌, take}
use Rattle.ds_report.specs.Prints.{prints_in}
use Rattle.ds_report.proofs.prints.push_prints.Given as goal

-- the prints of the steps so far were added
abbrev pub invariant-loop-step : goal.invariant-loop-step
invariant-loop-step l = l.prints.items ≡ l.fn.prints.items ++ prints_in (take l.step-index l.steps)
