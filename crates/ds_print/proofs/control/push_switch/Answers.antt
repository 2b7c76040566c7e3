use Rattle.std.proofs.Common.{◌∷◌, ◌++◌, [], flat_map}
use Rattle.ds_print.specs.Names.{punct, space, word}
use Rattle.ds_print.specs.Canonical.{case_pieces, target, typed}
use Rattle.ds_print.proofs.Pieces.{then}
use Rattle.ds_print.proofs.control.push_switch.Goals as goal

pub returns : goal.returns
returns c =
    let cases = flat_map (case_pieces c.args.ty) c.args.cases.now in
    let close = space ∷ punct "]" ∷ [] in
    let open_ = space ∷ punct "[" ∷ cases ++ close in
    let other = target c.args.other.now ++ open_ in
    let seven = then _ _ _ cases close c.in_ok-push_cases.ensures c.in_ok-push-4.ensures in
    let six = then _ _ _ (space ∷ punct "[" ∷ []) (cases ++ close) c.in_ok-push-3.ensures seven in
    let five = then _ _ _ (target c.args.other.now) open_ c.in_ok-push_target.ensures six in
    let four = then _ _ _ (punct "," ∷ space ∷ []) other c.in_ok-push-2.ensures five in
    let three =
    then _ _ _ (typed c.args.ty c.args.value.now) (punct "," ∷ space ∷ other) c.in_ok-push_typed.ensures four in
    then _ _ _ (word "switch" ∷ space ∷ []) (typed c.args.ty c.args.value.now ++ punct "," ∷ space ∷ other)
    c.in_ok-push.ensures three
