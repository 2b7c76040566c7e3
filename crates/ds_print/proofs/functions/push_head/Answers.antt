use Rattle.std.proofs.Common.{◌∷◌, ◌++◌, []}
use Rattle.ds_print.specs.Names.{global, space, punct}
use Rattle.ds_print.specs.Canonical.{type_pieces}
use Rattle.ds_print.proofs.Pieces.{then}
use Rattle.ds_print.proofs.functions.push_head.Goals as goal

pub returns : goal.returns
returns c =
    let ty = type_pieces c.args.function.now.result in
    let name = global c.args.function.now.name in
    let four = then _ _ _ (name ∷ []) (punct "(" ∷ []) c.in_ok-push_global.ensures c.in_ok-push-3.ensures in
    let three = then _ _ _ (space ∷ []) (name ∷ punct "(" ∷ []) c.in_ok-push-2.ensures four in
    let two = then _ _ _ ty (space ∷ name ∷ punct "(" ∷ []) c.in_ok-push_type.ensures three in
    then _ _ _ (space ∷ []) (ty ++ space ∷ name ∷ punct "(" ∷ []) c.in_ok-push.ensures two
