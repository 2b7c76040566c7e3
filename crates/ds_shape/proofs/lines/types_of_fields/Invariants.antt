use Rattle.std.proofs.Common.{◌≡◌, take}
use Rattle.ds_shape.specs.Index.{types_in}
use Rattle.ds_shape.proofs.lines.types_of_fields.Given as goal

-- the types so far
abbrev pub invariant-loop-field : goal.invariant-loop-field
invariant-loop-field l = types_in l.types.items ≡ take l.field-index l.fields
