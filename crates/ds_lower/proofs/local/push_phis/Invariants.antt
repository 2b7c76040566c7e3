use Rattle.std.proofs.Common.{◌≡◌, ◌++◌, map, take}
use Rattle.ds_ast.specs.declared.module.Block.{Block}
use Rattle.ds_code.specs.Lowering.{front}
use Rattle.ds_lower.proofs.local.push_phis.Given as goal

-- the phis of the blocks so far
abbrev pub invariant-loop-block : goal.invariant-loop-block
invariant-loop-block l = l.phis.items
    ≡ l.initial.phis.items ++ map (λ (b : Block). front b.code) (take l.block-index l.blocks)
