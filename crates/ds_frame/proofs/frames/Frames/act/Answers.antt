use Rattle.std.proofs.Common.{length, subst}
use Rattle.ds_code.specs.Rows.{edges_of, copies_of}
use Rattle.ds_code.specs.declared.ops.CodeOp.{CodeOp}
use Rattle.std.proofs.Common.{List, All, ◌≤◌}
use Rattle.ds_code.specs.declared.sources.Copying.{Copying}
use Rattle.ds_frame.proofs.Fitting.{edges_fit}
use Rattle.ds_frame.proofs.frames.Frames.act.Goals as goal

pub branch-self-requires : goal.branch-self-requires
branch-self-requires c =
    let n = length c.args.row.now in
    edges_fit n (edges_of c.in-Branch.op)
    (subst (λ (op : CodeOp). All (λ (copies : List Copying). length copies ≤ n) (copies_of op)) c.in-Branch.is
    c.requires.fits)
