-- Helpers of the code, which no public clause cites: the phis at the front of blocks.
use Rattle.std.specs.Prelude.{◌≡◌, ℕ, List, take, slice_get, Some, All}
use Rattle.std.specs.List.{AllZip}
use Rattle.ds_ast.specs.declared.instr.Instr.{Instr}
use Rattle.ds_ast.specs.declared.module.Block.{Block}
use Rattle.ds_shape.specs.Placed.{IsPhi}

-- so many phis stand at the front, and behind them none
pub record IsFront (code : List Instr) (n : ℕ) : Type 0 where
  pub phis : All IsPhi (take n code)
  pub other : (i : Instr) → slice_get code n ≡ Some i → IsPhi i → ⊥

-- the numbers are those of the blocks, in order
abbrev pub AreFronts : List Block → List ℕ → Type 0
AreFronts = AllZip (λ (b : Block) n. IsFront b.code n)
