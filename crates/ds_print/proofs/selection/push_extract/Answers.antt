use Rattle.std.proofs.Common.{◌∷◌, []}
use Rattle.ds_ast.specs.declared.ty.Scalar.TheVariants.{I1}
use Rattle.ds_print.specs.Names.{punct, number, space, word, scalar, local}
use Rattle.ds_print.proofs.Pieces.{then}
use Rattle.ds_print.proofs.selection.push_extract.Goals as goal

pub returns : goal.returns
returns c =
    let index = number c.args.index ∷ [] in
    let comma = punct "," ∷ space ∷ index in
    let of = local c.args.of.now ∷ comma in
    let pair = punct "," ∷ space ∷ scalar I1 ∷ space ∷ punct "}" ∷ space ∷ of in
    let six = then _ _ _ (punct "," ∷ space ∷ []) index c.in_ok-push-3.ensures c.in_ok-push_count.ensures in
    let five = then _ _ _ (local c.args.of.now ∷ []) comma c.in_ok-push_local.ensures six in
    let four =
    then _ _ _ (punct "," ∷ space ∷ scalar I1 ∷ space ∷ punct "}" ∷ space ∷ []) of c.in_ok-push-2.ensures five in
    let three = then _ _ _ (scalar c.args.ty ∷ []) pair c.in_ok-push_scalar.ensures four in
    then _ _ _ (word "extractvalue" ∷ space ∷ punct "{" ∷ space ∷ [])
    (scalar c.args.ty ∷ pair) c.in_ok-push.ensures three
