use Rattle.std.proofs.Common.{◌≡◌, take}
use Rattle.ds_shape.specs.Index.{holdings}
use Rattle.ds_shape.proofs.index.held.Given as goal

-- the lines so far
abbrev pub invariant-loop-line : goal.invariant-loop-line
invariant-loop-line l = l.graph ≡ holdings l.names (take l.line-index l.structs)
