use Rattle.std.proofs.Common.{◌≡◌, length}
use Rattle.ds_report.proofs.tests.traces.Given as goal

-- there are 16 traces
abbrev pub invariant-loop-event : goal.invariant-loop-event
invariant-loop-event l = length l.traces ≡ 16
