use Rattle.std.proofs.Common.{◌≡◌, take}
use Rattle.std.specs.Prelude.{map}
use Rattle.ds_shape.specs.Capped.{offsets_by}
use Rattle.ds_shape.proofs.extents.offsets_of.Given as goal

-- the rows so far
abbrev pub invariant-loop-line : goal.invariant-loop-line
invariant-loop-line l =
    map (λ row. row.items) l.rows.items ≡ offsets_by l.names l.extents (take l.line-index l.structs)
