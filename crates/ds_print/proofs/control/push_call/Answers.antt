use Rattle.std.proofs.Common.{◌∷◌, ◌++◌, [], map}
use Rattle.ds_print.specs.Names.{space, punct, word, global}
use Rattle.ds_print.specs.Canonical.{type_pieces, listed, operand_pieces}
use Rattle.ds_print.proofs.Pieces.{then}
use Rattle.ds_print.proofs.control.push_call.Goals as goal

pub returns : goal.returns
returns c =
    let ty = type_pieces c.args.ty.now in
    let name = global c.args.callee.now in
    let args = listed (map operand_pieces c.args.args.now) in
    let close = punct ")" ∷ [] in
    let five = then _ _ _ (punct "(" ∷ []) args c.in_ok-push-3.ensures c.in_ok-push_args.ensures in
    let four = then _ _ _ (name ∷ []) (punct "(" ∷ args) c.in_ok-push_global.ensures five in
    let three = then _ _ _ (space ∷ []) (name ∷ punct "(" ∷ args) c.in_ok-push-2.ensures four in
    let two = then _ _ _ ty (space ∷ name ∷ punct "(" ∷ args) c.in_ok-push_type.ensures three in
    let all = then _ _ _ (ty ++ space ∷ name ∷ punct "(" ∷ args) close two c.in_ok-push-4.ensures in
    then _ _ _ (word "call" ∷ space ∷ []) (ty ++ space ∷ name ∷ punct "(" ∷ args ++ close) c.in_ok-push.ensures all
