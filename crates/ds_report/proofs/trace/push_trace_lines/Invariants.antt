use Rattle.std.proofs.Common.{◌≡◌, ◌++◌, take}
use Rattle.ds_report.specs.Trace.{trace_lines}
use Rattle.ds_report.proofs.trace.push_trace_lines.Given as goal

-- the lines of the threads so far were added
abbrev pub invariant-loop-thread : goal.invariant-loop-thread
invariant-loop-thread l = l.text.items ≡ l.fn.text.items ++ trace_lines (take l.thread l.traces)
