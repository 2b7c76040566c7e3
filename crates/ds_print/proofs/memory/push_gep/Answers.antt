use Rattle.std.proofs.Common.{◌∷◌, ◌++◌, [], map}
use Rattle.ds_ast.specs.declared.ty.Scalar.TheVariants.{Ptr}
use Rattle.ds_print.specs.Names.{space, punct, word}
use Rattle.ds_print.specs.Canonical.{type_pieces, typed, more_listed, operand_pieces}
use Rattle.ds_print.proofs.Pieces.{then}
use Rattle.ds_print.proofs.memory.push_gep.Goals as goal

pub returns : goal.returns
returns c =
    let ty = type_pieces c.args.ty.now in
    let base = punct "," ∷ space ∷ typed Ptr c.args.base.now in
    let indices = more_listed (map operand_pieces c.args.indices.now) in
    let three = then _ _ _ base indices c.in_ok-push_more_typed.ensures c.in_ok-push_more_operands.ensures in
    then _ _ _ (word "getelementptr" ∷ space ∷ []) (ty ++ (base ++ indices)) c.in_ok-push.ensures
    (then _ _ _ ty (base ++ indices) c.in_ok-push_type.ensures three)
