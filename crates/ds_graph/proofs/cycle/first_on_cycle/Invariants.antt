-- No node so far is on a cycle.
use Rattle.std.proofs.Common.{ℕ, ◌<◌}
use Rattle.ds_graph.specs.Graph.{IsOnCycle}
use Rattle.ds_graph.proofs.cycle.first_on_cycle.Given as goal

abbrev pub invariant-loop-node : goal.invariant-loop-node
invariant-loop-node l = (a : ℕ) → a < l.node → IsOnCycle l.graph a → ⊥
