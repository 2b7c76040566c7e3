-- The instructions of a function in the order of the text, each by the number of its block and its number there.
use Rattle.std.specs.Prelude.{◌≡◌, ℕ, zero, suc, List, [], ◌∷◌, ◌++◌, length, take, slice_get, Some}
use Rattle.ds_ast.specs.declared.module.Function.{Function}
use Rattle.ds_ast.specs.declared.module.Block.{Block}
use Rattle.ds_shape.specs.Placed.{Placed}
use Rattle.ds_check_blocks.specs.declared.sites.Site.{Site}

-- so many instructions of a block from one on
abbrev pub sites_in : ℕ → ℕ → ℕ → List Site
sites_in block index zero = []
sites_in block index (suc n) = record { block = block; index = index } ∷ sites_in block (suc index) n

-- those of blocks, of which the first has this number
abbrev pub sites_from : ℕ → List Block → List Site
sites_from block [] = []
sites_from block (b ∷ blocks) = sites_in block 0 (length b.code) ++ sites_from (suc block) blocks

-- the site is that of this instruction, which has this number in the function
pub record IsSite (f : Function) (number : ℕ) (s : Site) (p : Placed) : Type 0 where
  pub numbered : p.number ≡ number
  pub block : slice_get f.blocks s.block ≡ Some p.block
  pub instr : slice_get p.block.code s.index ≡ Some p.instr
  pub front : p.front ≡ take s.index p.block.code
