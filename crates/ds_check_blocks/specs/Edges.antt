-- The blocks of a function and the edges between them as a graph.
use Rattle.std.specs.Prelude.{◌≡◌, ◌↔◌, ℕ, length, slice_get, Some}
use Rattle.ds_ast.specs.declared.module.Function.{Function}
use Rattle.ds_ast.specs.declared.module.Block.{Block}
use Rattle.ds_graph.specs.Graph.{Edges, HasEdge, IsClosed}
use Rattle.ds_shape.specs.Flow.{IsEdge}

-- the graph has a node for each block, and an edge exactly where one leads from the one block to the other
pub record AreEdgesOf (f : Function) (edges : Edges) : Type 0 where
  pub many : length edges ≡ length f.blocks
  pub closed : IsClosed edges
  pub edge : (a b : ℕ) (from to : Block) → slice_get f.blocks a ≡ Some from → slice_get f.blocks b ≡ Some to
      → (HasEdge edges a b ↔ IsEdge f from to)
