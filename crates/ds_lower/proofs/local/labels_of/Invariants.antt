use Rattle.std.proofs.Common.{◌≡◌, map, take}
use Rattle.ds_ast.specs.declared.module.Block.{Block}
use Rattle.ds_names.specs.Places.{nows}
use Rattle.ds_lower.proofs.local.labels_of.Given as goal

-- the labels of the blocks so far
abbrev pub invariant-loop-block : goal.invariant-loop-block
invariant-loop-block l = nows l.names.items ≡ map (λ (b : Block). b.name) (take l.block-index l.blocks)
