-- The nodes from which edges lead to each node: the edges turned round.
use Rattle.std.specs.Prelude.{◌≡◌, ◌↔◌, ◌⊎◌, ℕ, List, length, Contains}
use Rattle.ds_ast.specs.declared.module.Function.{Function}
use Rattle.ds_graph.specs.Graph.{Edges, HasEdge}
use Rattle.ds_check_blocks.specs.Edges.{AreEdgesOf}

-- each edge is turned round
pub record AreReversed (edges back : Edges) : Type 0 where
  pub many : length back ≡ length edges
  pub edge : (a b : ℕ) → (HasEdge back b a ↔ HasEdge edges a b)

-- they are those of the edges between the function's blocks
abbrev pub ArePredecessorsOf : Function → Edges → Type 0
ArePredecessorsOf f back = (edges : Edges) × AreEdgesOf f edges × AreReversed edges back

-- one edge more
pub record AddsEdge (from to : ℕ) (old new : Edges) : Type 0 where
  pub many : length new ≡ length old
  pub edge : (a b : ℕ) → (HasEdge new b a ↔ (HasEdge old b a ⊎ ((b ≡ to) × (a ≡ from))))

-- an edge more to each of these
pub record AddsEdges (from : ℕ) (targets : List ℕ) (old new : Edges) : Type 0 where
  pub many : length new ≡ length old
  pub edge : (a b : ℕ) → (HasEdge new b a ↔ (HasEdge old b a ⊎ (Contains targets b × (a ≡ from))))
