use Rattle.std.proofs.Common.{◌≡◌, map, take}
use Rattle.ds_code.specs.Lowering.{case_of}
use Rattle.ds_lower.proofs.edges.cases_of.Given as goal

-- the cases so far
abbrev pub invariant-loop-n : goal.invariant-loop-n
invariant-loop-n l = l.made ≡ map (case_of l.labels) (take l.n l.cases)
