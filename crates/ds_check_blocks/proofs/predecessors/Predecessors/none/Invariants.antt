use Rattle.std.proofs.Common.{◌≡◌, map, replicate, []}
use Rattle.ds_check_blocks.proofs.predecessors.Predecessors.none.Given as goal

abbrev pub invariant-loop-block : goal.invariant-loop-block
invariant-loop-block l = map (λ row. row.keys) l.rows.items ≡ replicate l.block []
