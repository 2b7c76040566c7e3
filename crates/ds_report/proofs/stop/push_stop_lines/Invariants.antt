use Rattle.std.proofs.Common.{◌≡◌, ◌++◌, take}
use Rattle.ds_report.specs.Stop.{stop_lines}
use Rattle.ds_report.proofs.stop.push_stop_lines.Given as goal

-- the lines of the threads so far were added
abbrev pub invariant-loop-thread : goal.invariant-loop-thread
invariant-loop-thread l = l.text.items ≡ l.fn.text.items ++ stop_lines l.fn.names (take l.thread l.stops)
