use Rattle.std.proofs.Common.{◌≡◌, ◌∷◌, ◌++◌, [], map, subst}
use Rattle.ds_lex.specs.Written.{written}
use Rattle.ds_print.specs.Names.{punct, word, line_end}
use Rattle.ds_print.specs.Canonical.{listed, param_type, head_pieces}
use Rattle.ds_print.proofs.Pieces.{then, with_params}
use Rattle.ds_print.proofs.functions.push_declaration.Goals as goal

pub returns : goal.returns
returns c =
    let head = head_pieces c.args.function.now (map param_type c.args.function.now.params) in
    let added = subst (λ params. c.push_param_types.new.text.items ≡ c.push_head.new.text.items
    ++ written (listed (map param_type params))) c.as_slice.ensures c.in_ok-push_param_types.ensures in
    let three =
    then _ _ _ (listed (map param_type c.args.function.now.params)) (punct ")" ∷ []) added c.in_ok-push-2.ensures in
    let two = with_params c.args.function.now (map param_type c.args.function.now.params) _ _ _
    c.in_ok-push_head.ensures three in
    then _ _ _ (word "declare" ∷ []) (head ++ line_end ∷ []) c.in_ok-push.ensures
    (then _ _ _ head (line_end ∷ []) two c.in_ok-push-3.ensures)
