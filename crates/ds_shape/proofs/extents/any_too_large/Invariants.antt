use Rattle.std.proofs.Common.{◌≡◌, drop}
use Rattle.ds_shape.specs.Index.{types_in}
use Rattle.ds_shape.specs.Capped.{extent_in, any_large}
use Rattle.ds_shape.proofs.extents.any_too_large.Given as goal

-- one is too large exactly if one from here on is
abbrev pub invariant-loop-ty : goal.invariant-loop-ty
invariant-loop-ty l =
    any_large (extent_in l.names l.extents) (types_in (drop l.ty-index l.types)) ≡ any_large
    (extent_in l.names l.extents) (types_in l.types)
