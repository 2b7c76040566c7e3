use Rattle.std.proofs.Common.{◌∷◌, ◌++◌, []}
use Rattle.ds_print.specs.Names.{punct, number, space, word}
use Rattle.ds_print.specs.Canonical.{type_pieces}
use Rattle.ds_print.proofs.Pieces.{then}
use Rattle.ds_print.proofs.Parts.{array_is_written}
use Rattle.ds_print.proofs.types.+push_type.Goals as goal

pub returns-in_ok-push-in-Array-3 : goal.returns-in_ok-push-in-Array-3
returns-in_ok-push-in-Array-3 t c =
    let of = type_pieces c.get.result.now in
    let close = punct "]" ∷ [] in
    let four = then _ _ _ of close c.in_ok-push_type-in-Array.ensures c.in_ok-push-in-Array-3.ensures in
    let three = then _ _ _ (space ∷ word "x" ∷ space ∷ []) (of ++ close) c.in_ok-push-in-Array-2.ensures four in
    let two = then _ _ _ (number c.in-Array.count ∷ [])
    (space ∷ word "x" ∷ space ∷ of ++ close) c.in_ok-push_count-in-Array.ensures three in
    let one = then _ _ _ (punct "[" ∷ []) (number c.in-Array.count ∷ space ∷ word "x" ∷ space ∷ of ++ close)
    c.in_ok-push-in-Array.ensures two in
    array_is_written c.in-Array.count c.get.result.now c.in-Array.of c.args.ty.now c.args.text.now.items _
    c.get.ensures c.in-Array.is one
