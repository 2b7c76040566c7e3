use Rattle.std.proofs.Common.{◌≡◌, ◌++◌, take}
use Rattle.std.specs.List.{flat_map}
use Rattle.ds_report.specs.Report.{value_line}
use Rattle.ds_report.proofs.report.push_print_lines.Given as goal

-- the lines of the prints so far were added
abbrev pub invariant-loop-print : goal.invariant-loop-print
invariant-loop-print l =
    l.text.items ≡ l.fn.text.items ++ flat_map (λ print. value_line print.value) (take l.print-index l.prints)
