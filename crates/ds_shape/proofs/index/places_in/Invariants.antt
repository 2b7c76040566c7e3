use Rattle.std.proofs.Common.{◌≡◌, take}
use Rattle.std.specs.Prelude.{flat_map}
use Rattle.ds_shape.specs.Written.{struct_in}
use Rattle.ds_shape.specs.Index.{places_of}
use Rattle.ds_shape.proofs.index.places_in.Given as goal

-- the places so far
abbrev pub invariant-loop-ty : goal.invariant-loop-ty
invariant-loop-ty l = l.places.items ≡ places_of l.names (flat_map struct_in (take l.ty-index l.fields))
