use Rattle.std.proofs.Common.{◌≡◌, ◌++◌, take}
use Rattle.ds_report.specs.Trace.{thread_lines}
use Rattle.ds_report.proofs.trace.push_thread_lines.Given as goal

-- the lines of the steps so far were added
abbrev pub invariant-loop-step : goal.invariant-loop-step
invariant-loop-step l = l.text.items ≡ l.fn.text.items ++ thread_lines l.fn.thread (take l.step-index l.steps)
