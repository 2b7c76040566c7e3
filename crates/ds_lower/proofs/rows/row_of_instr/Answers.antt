use Rattle.ds_lower.proofs.Longest.{branch_fits}
use Rattle.ds_lower.proofs.rows.row_of_instr.Goals as goal

pub returns-in-Branch-clause-fits : goal.returns-in-Branch-clause-fits
returns-in-Branch-clause-fits c =
    branch_fits c.args.instr.now.op _ c.row_of_branch.result c.in-Branch.is c.row_of_branch.ensures.fits
