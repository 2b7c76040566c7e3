use Rattle.std.proofs.Common.{◌≡◌, drop}
use Rattle.std.specs.Prelude.{flat_map}
use Rattle.ds_shape.specs.Written.{struct_in}
use Rattle.ds_shape.specs.Index.{types_in, first_unplaced}
use Rattle.ds_shape.proofs.index.unknown_in_types.Given as goal

-- the first is the first of those from here on
abbrev pub invariant-loop-ty : goal.invariant-loop-ty
invariant-loop-ty l =
    first_unplaced l.names (flat_map struct_in (types_in (drop l.ty-index l.types))) ≡ first_unplaced l.names
    (flat_map struct_in (types_in l.types))
