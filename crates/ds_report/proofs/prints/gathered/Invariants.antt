use Rattle.std.proofs.Common.{◌≡◌, take}
use Rattle.ds_report.specs.Prints.{all_prints}
use Rattle.ds_report.proofs.prints.gathered.Given as goal

-- the prints of the traces so far were gathered
abbrev pub invariant-loop-steps : goal.invariant-loop-steps
invariant-loop-steps l = l.prints.items ≡ all_prints (take l.steps-index l.traces)
