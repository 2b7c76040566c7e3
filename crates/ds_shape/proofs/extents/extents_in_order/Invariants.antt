use Rattle.std.proofs.Common.{◌≡◌, take, length}
use Rattle.std.specs.Prelude.{All}
use Rattle.ds_shape.specs.Capped.{IsShort}
use Rattle.ds_shape.proofs.Filling.{RightSoFar}
use Rattle.ds_shape.proofs.extents.extents_in_order.Given as goal

-- the extents of the lines so far are right
abbrev pub invariant-loop-place : goal.invariant-loop-place
invariant-loop-place l = record {
  many : length l.extents.items ≡ length l.structs;
  short : All IsShort l.extents.items;
  right : RightSoFar l.structs l.extents.items (take l.place-index l.order);
}
