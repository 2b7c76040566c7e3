use Rattle.std.proofs.Common.{◌≡◌, ◌∷◌, ◌++◌, [], map, subst}
use Rattle.ds_lex.specs.Written.{written}
use Rattle.ds_print.specs.Names.{local, space, punct, word, line_end}
use Rattle.ds_print.specs.Canonical.{listed_behind_space, type_pieces}
use Rattle.ds_print.proofs.Pieces.{then}
use Rattle.ds_print.proofs.structs.push_struct.Goals as goal

pub returns : goal.returns
returns c =
    let fields = listed_behind_space (map type_pieces c.args.line.now.fields) in
    let close = space ∷ punct "}" ∷ line_end ∷ [] in
    let front = space ∷ punct "=" ∷ space ∷ word "type" ∷ space ∷ punct "{" ∷ [] in
    let added = subst (λ types. c.push_fields.new.text.items ≡ c.push.new.text.items
    ++ written (listed_behind_space (map type_pieces types))) c.as_slice.ensures c.in_ok-push_fields.ensures in
    let two =
    then _ _ _ front (fields ++ close) c.in_ok-push.ensures (then _ _ _ fields close added c.in_ok-push-2.ensures) in
    then _ _ _ (local c.args.line.now.name ∷ []) (front ++ (fields ++ close)) c.in_ok-push_local.ensures two
