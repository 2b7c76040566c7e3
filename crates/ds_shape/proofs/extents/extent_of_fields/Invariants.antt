use Rattle.std.proofs.Common.{◌≡◌, ◌+◌, ◌^◌, ◌≤◌, drop}
use Rattle.ds_shape.specs.Capped.{capped_extent, capped_fields, extent_in}
use Rattle.ds_shape.proofs.extents.extent_of_fields.Given as goal

-- what is counted from here is what is counted from the first field on
abbrev pub invariant-loop-ty : goal.invariant-loop-ty
invariant-loop-ty l = record {
  at_most : l.at ≤ 2 ^ 31 + 1;
  some_align : 1 ≤ l.align;
  align_most : l.align ≤ 8;
  rest : capped_fields (capped_extent (extent_in l.names l.extents)) l.at l.align (drop l.ty-index l.fields) ≡
      capped_fields (capped_extent (extent_in l.names l.extents)) 0 1 l.fields;
}
