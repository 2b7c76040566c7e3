use Rattle.std.proofs.Common.{◌≡◌, ◌∷◌, ◌++◌, [], map, flat_map, subst}
use Rattle.ds_lex.specs.Written.{written}
use Rattle.ds_print.specs.Names.{space, punct, word, line_end}
use Rattle.ds_print.specs.Canonical.{listed, param_pieces, head_pieces, block_pieces}
use Rattle.ds_print.proofs.Pieces.{then, with_params}
use Rattle.ds_print.proofs.functions.push_definition.Goals as goal

pub returns : goal.returns
returns c =
    let head = head_pieces c.args.function.now (map param_pieces c.args.function.now.params) in
    let blocks = flat_map block_pieces c.args.function.now.blocks in
    let front = space ∷ punct "{" ∷ line_end ∷ [] in
    let close = punct "}" ∷ line_end ∷ [] in
    let added = subst (λ params. c.push_params.new.text.items ≡ c.push_head.new.text.items
    ++ written (listed (map param_pieces params))) c.as_slice.ensures c.in_ok-push_params.ensures in
    let three = then _ _ _ (listed (map param_pieces c.args.function.now.params))
    (punct ")" ∷ []) added c.in_ok-push-2.ensures in
    let two = with_params c.args.function.now (map param_pieces c.args.function.now.params) _ _ _
    c.in_ok-push_head.ensures three in
    let code = subst (λ blocks. c.push_blocks.new.text.items ≡ c.push-3.new.text.items
    ++ written (flat_map block_pieces blocks)) c.as_slice-2.ensures c.in_ok-push_blocks.ensures in
    let body = then _ _ _ front blocks c.in_ok-push-3.ensures code in
    let all = then _ _ _ (head ++ (front ++ blocks)) close
    (then _ _ _ head (front ++ blocks) two body) c.in_ok-push-4.ensures in
    then _ _ _ (word "define" ∷ []) (head ++ (front ++ blocks) ++ close) c.in_ok-push.ensures all
