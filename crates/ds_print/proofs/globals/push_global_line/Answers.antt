use Rattle.std.proofs.Common.{◌∷◌, ◌++◌, []}
use Rattle.ds_print.specs.Names.{global, space, punct, word, line_end}
use Rattle.ds_print.specs.Canonical.{type_pieces, init_pieces}
use Rattle.ds_print.proofs.Pieces.{then}
use Rattle.ds_print.proofs.globals.push_global_line.Goals as goal

pub returns : goal.returns
returns c =
    let ty = type_pieces c.args.global.now.ty in
    let init = init_pieces c.args.lines.now c.args.global.now.ty c.args.global.now.init in
    let front = space ∷ punct "=" ∷ space ∷ word "global" ∷ space ∷ [] in
    let four = then _ _ _ (space ∷ []) init c.in_ok-push-2.ensures c.in_ok-push_init.ensures in
    let three = then _ _ _ ty (space ∷ init) c.in_ok-push_type.ensures four in
    let all = then _ _ _ (ty ++ space ∷ init) (line_end ∷ []) three c.in_ok-push-3.ensures in
    let two = then _ _ _ front (ty ++ space ∷ init ++ line_end ∷ []) c.in_ok-push.ensures all in
    then _ _ _ (global c.args.global.now.name ∷ [])
    (front ++ (ty ++ space ∷ init ++ line_end ∷ [])) c.in_ok-push_global.ensures two
