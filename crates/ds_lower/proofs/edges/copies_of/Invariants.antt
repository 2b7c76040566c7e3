use Rattle.std.proofs.Common.{◌≡◌, flat_map, take}
use Rattle.ds_code.specs.Cells.{cells_for}
use Rattle.ds_code.specs.Lowering.{copied_at}
use Rattle.ds_lower.proofs.edges.copies_of.Given as goal

-- the copies of the phis so far
abbrev pub invariant-loop-phi : goal.invariant-loop-phi
invariant-loop-phi l = l.copies ≡ flat_map (copied_at l.scope (cells_for l.local) l.from) (take l.phi-index l.phis)
