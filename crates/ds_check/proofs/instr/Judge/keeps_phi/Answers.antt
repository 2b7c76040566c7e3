use Rattle.ds_check.proofs.Judged.{phi_kept}
use Rattle.ds_check.proofs.instr.Judge.keeps_phi.Goals as goal

pub returns : goal.returns
returns c =
    phi_kept c.args.self.now.function.now c.args.site c.args.op.now c.is_behind_phis-behind_phis.result
    c.is_good_phi.result c.requires.site.0 c.requires.site.1 c.requires.site.2
    (c.is_phi.ensures.0 c.if-not-is_phi.false) c.is_behind_phis-behind_phis.ensures c.is_good_phi.ensures
