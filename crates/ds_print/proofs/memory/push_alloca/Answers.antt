use Rattle.std.proofs.Common.{◌∷◌, ◌++◌, []}
use Rattle.ds_print.specs.Names.{space, word}
use Rattle.ds_print.specs.Canonical.{type_pieces, optional_operand}
use Rattle.ds_print.proofs.Pieces.{then}
use Rattle.ds_print.proofs.memory.push_alloca.Goals as goal

pub returns : goal.returns
returns c =
    let ty = type_pieces c.args.ty.now in
    let count = optional_operand c.args.count.now in
    then _ _ _ (word "alloca" ∷ space ∷ []) (ty ++ count) c.in_ok-push.ensures
    (then _ _ _ ty count c.in_ok-push_type.ensures c.in_ok-push_optional_operand.ensures)
