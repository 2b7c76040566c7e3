use Rattle.std.proofs.Common.{◌≡◌, length, take}
use Rattle.std.specs.Prelude.{flat_map}
use Rattle.ds_ast.specs.declared.module.Block.{Block}
use Rattle.ds_main.proofs.accepted.instruction_count.Given as goal

-- the instructions of the blocks so far
abbrev pub invariant-loop-block : goal.invariant-loop-block
invariant-loop-block l = l.count ≡ length (flat_map (λ (b : Block). b.code) (take l.block-index l.fn.f.blocks))
