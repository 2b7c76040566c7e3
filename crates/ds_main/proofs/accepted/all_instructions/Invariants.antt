use Rattle.std.proofs.Common.{◌≡◌, length, take}
use Rattle.std.specs.Prelude.{flat_map}
use Rattle.ds_shape.specs.Types.{instructions_of}
use Rattle.ds_main.proofs.accepted.all_instructions.Given as goal

-- the instructions of the functions so far
abbrev pub invariant-loop-f : goal.invariant-loop-f
invariant-loop-f l = l.count ≡ length (flat_map instructions_of (take l.f-index l.fn.module.functions))
