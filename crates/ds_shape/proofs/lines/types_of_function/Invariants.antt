use Rattle.std.proofs.Common.{◌≡◌, ◌++◌, take}
use Rattle.std.specs.Prelude.{flat_map, ◌∷◌, []}
use Rattle.ds_shape.specs.Written.{types_of_op}
use Rattle.ds_shape.specs.Index.{types_in}
use Rattle.ds_shape.proofs.lines.types_of_function.Given as goal

-- the result, and the types of the blocks so far
abbrev pub invariant-loop-block : goal.invariant-loop-block
invariant-loop-block l =
    types_in l.types.items ≡ (l.function.result ∷ []) ++ flat_map (λ b. flat_map (λ i. types_of_op i.op) b.code)
    (take l.block-index l.function.blocks)
