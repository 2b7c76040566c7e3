use Rattle.std.proofs.Common.{◌≡◌, ◌++◌, take}
use Rattle.std.specs.Prelude.{map}
use Rattle.ds_shape.specs.Written.{struct_line}
use Rattle.ds_shape.specs.Index.{lines_in}
use Rattle.ds_shape.proofs.lines.push_structs.Given as goal

-- the lines so far were added
abbrev pub invariant-loop-def : goal.invariant-loop-def
invariant-loop-def l =
    lines_in l.lines.items ≡ lines_in l.fn.lines.items ++ map struct_line (take l.def-index l.structs)
