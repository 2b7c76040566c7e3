use Rattle.std.proofs.Common.{◌≡◌, take}
use Rattle.ds_names.specs.Names.{AreDistinct}
use Rattle.ds_shape.specs.Written.{struct_names}
use Rattle.ds_shape.proofs.index.index.Given as goal

-- the names so far
abbrev pub invariant-loop-line : goal.invariant-loop-line
invariant-loop-line l = (l.names ≡ struct_names (take l.line-index l.structs)) × AreDistinct l.names
