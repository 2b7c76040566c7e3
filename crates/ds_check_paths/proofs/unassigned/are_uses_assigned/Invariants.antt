use Rattle.std.proofs.Common.{◌≡◌, take, slice_get, Some}
use Rattle.std.specs.Prelude.{All}
use Rattle.ds_ast.specs.declared.module.Block.{Block}
use Rattle.ds_shape.specs.Placed.{IsAssignedUse}
use Rattle.ds_shape.specs.Operands.{uses_of}
use Rattle.ds_check_paths.proofs.unassigned.are_uses_assigned.Given as goal

abbrev pub invariant-loop-n : goal.invariant-loop-n
invariant-loop-n l = (c : Block) → slice_get l.fn.flow.blocks l.fn.site.block ≡ Some c
    → All (IsAssignedUse l.fn.flow c (take l.fn.site.index c.code)) (take l.n (uses_of l.fn.op))
