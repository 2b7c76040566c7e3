use Rattle.std.proofs.Common.{◌≡◌, ℕ, ◌+◌, ◌++◌, drop, Some}
use Rattle.ds_shape.specs.Sizes.{extent_of, field_offset}
use Rattle.ds_lower_parts.specs.Bytes.{elements_bytes, fields_bytes}
use Rattle.ds_lower_parts.proofs.image.+push_init.Given as goal

-- the bytes of the elements so far and from here on
abbrev pub invariant-push_elements-loop-part : goal.invariant-push_elements-loop-part
invariant-push_elements-loop-part l =
    l.bytes.items ++ elements_bytes l.fn.scope (Some l.fn.of) (drop l.part-index l.fn.parts)
    ≡ l.initial.bytes.items ++ elements_bytes l.fn.scope (Some l.fn.of) l.fn.parts

-- the bytes of the fields so far and from here on, and where the next ones begin
abbrev pub invariant-push_fields-loop-n : goal.invariant-push_fields-loop-n
invariant-push_fields-loop-n l = record {
  same : l.bytes.items ++ fields_bytes l.fn.scope l.fn.size l.at (drop l.n l.types) (drop l.n l.fn.parts)
      ≡ l.initial.bytes.items ++ fields_bytes l.fn.scope l.fn.size 0 l.types l.fn.parts;
  begin : (k : ℕ) → field_offset (extent_of l.fn.scope.structs) l.at k (drop l.n l.types)
      ≡ field_offset (extent_of l.fn.scope.structs) 0 (l.n + k) l.types;
}
