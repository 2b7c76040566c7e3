use Rattle.std.proofs.Common.{◌≤◌, All, length, take}
use Rattle.ds_code.specs.declared.ops.Edge.{Edge}
use Rattle.ds_lower.proofs.rows.row_of_edges.Given as goal

-- it is long enough for the edges so far
abbrev pub invariant-loop-edge : goal.invariant-loop-edge
invariant-loop-edge l = record {
  fits : All (λ (e : Edge). length e.copies ≤ l.row) (take l.edge-index l.edges);
  least : l.least ≤ l.row;
}
