use Rattle.std.proofs.Common.{◌≡◌, ◌++◌, take}
use Rattle.std.specs.Prelude.{flat_map}
use Rattle.ds_shape.specs.Written.{types_of_op}
use Rattle.ds_shape.specs.Index.{types_in}
use Rattle.ds_shape.proofs.lines.push_types_of_code.Given as goal

-- those of the instructions so far were added
abbrev pub invariant-loop-instr : goal.invariant-loop-instr
invariant-loop-instr l =
    types_in l.types.items ≡ types_in l.fn.types.items ++ flat_map (λ i. types_of_op i.op) (take l.instr-index l.code)
