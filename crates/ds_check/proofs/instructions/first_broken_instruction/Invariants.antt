use Rattle.std.proofs.Common.{take}
use Rattle.std.specs.Prelude.{All}
use Rattle.ds_shape.specs.Placed.{placed_of}
use Rattle.ds_check.specs.Fault.{KeepsAll}
use Rattle.ds_check.proofs.instructions.first_broken_instruction.Given as goal

abbrev pub invariant-loop-number : goal.invariant-loop-number
invariant-loop-number l =
    All (KeepsAll l.fn.judge.entities.now l.fn.judge.function.now) (take l.number (placed_of l.fn.judge.function.now))
