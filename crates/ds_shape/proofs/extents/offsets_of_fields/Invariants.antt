use Rattle.std.proofs.Common.{◌≡◌, ◌+◌, ◌^◌, ◌≤◌, ◌++◌, drop}
use Rattle.ds_shape.specs.Capped.{capped_extent, capped_offsets, extent_in}
use Rattle.ds_shape.proofs.extents.offsets_of_fields.Given as goal

-- the offsets so far and those from here on
abbrev pub invariant-loop-ty : goal.invariant-loop-ty
invariant-loop-ty l = record {
  at_most : l.at ≤ 2 ^ 31 + 1;
  rest : l.offsets.items ++ capped_offsets (capped_extent (extent_in l.names l.extents)) l.at
      (drop l.ty-index l.fields) ≡ capped_offsets (capped_extent (extent_in l.names l.extents)) 0 l.fields;
}
