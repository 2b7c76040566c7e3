use Rattle.std.proofs.Common.{◌≡◌, map, take}
use Rattle.ds_pass.specs.Noted.{noted_block}
use Rattle.ds_pass.proofs.pass.noted_blocks.Given as goal

-- the blocks so far with their notes
abbrev pub invariant-loop-block : goal.invariant-loop-block
invariant-loop-block l = l.with_notes ≡ map noted_block (take l.block-index l.blocks)
