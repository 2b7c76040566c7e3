use Rattle.std.proofs.Common.{◌∷◌, ◌++◌, []}
use Rattle.ds_print.specs.Names.{indent, line_end}
use Rattle.ds_print.specs.Canonical.{result_pieces, op_pieces}
use Rattle.ds_print.proofs.Pieces.{then}
use Rattle.ds_print.proofs.ops.push_instr.Goals as goal

pub returns : goal.returns
returns c =
    let name = result_pieces c.args.instr.now.result in
    let op = op_pieces c.args.instr.now.op in
    let both = then _ _ _ name op c.in_ok-push_result.ensures c.in_ok-push_op.ensures in
    then _ _ _ (indent ∷ []) (name ++ op ++ line_end ∷ []) c.in_ok-push.ensures
    (then _ _ _ (name ++ op) (line_end ∷ []) both c.in_ok-push-2.ensures)
