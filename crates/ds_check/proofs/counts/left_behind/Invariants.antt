use Rattle.std.proofs.Common.{◌≡◌, ◌+◌, length, take}
use Rattle.std.specs.Prelude.{flat_map}
use Rattle.ds_ast.specs.declared.module.Block.{Block}
use Rattle.ds_check.proofs.counts.left_behind.Given as goal

abbrev pub invariant-loop-block : goal.invariant-loop-block
invariant-loop-block l =
    l.rest + length (flat_map (λ (b : Block). b.code) (take l.block-index l.fn.f.blocks)) ≡ l.fn.left
