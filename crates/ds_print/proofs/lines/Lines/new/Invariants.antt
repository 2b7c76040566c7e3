use Rattle.std.proofs.Common.{take}
use Rattle.ds_print.specs.Lines.{Kept}
use Rattle.ds_print.proofs.lines.Lines.new.Given as goal

-- the names of the lines so far have their fields beside them
abbrev pub invariant-loop-line : goal.invariant-loop-line
invariant-loop-line l = Kept l.names l.fields.items (take l.line-index l.structs)
