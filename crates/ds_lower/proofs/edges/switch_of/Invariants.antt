use Rattle.std.proofs.Common.{◌≡◌, ℕ, map, drop}
use Rattle.ds_ast.specs.declared.name.Name.{Name}
use Rattle.ds_code.specs.Lowering.{edge_of, each_once, switch_labels}
use Rattle.ds_lower.proofs.edges.switch_of.Given as goal

-- the edges to the labels so far, and the labels from here on
abbrev pub invariant-loop-n : goal.invariant-loop-n
invariant-loop-n l = record {
  edges : l.edges ≡ map (edge_of l.scope l.local l.from) l.labels;
  labels : each_once l.labels (map (λ (x : ℕ × Name). x.1) (drop l.n l.cases)) ≡ switch_labels l.other l.cases;
}
