use Rattle.ds_code.specs.Rows.{copies_of}
use Rattle.ds_frame.proofs.Fitting.{fits_more}
use Rattle.ds_frame.proofs.frames.Frames.step.Goals as goal

pub act-requires-clause-fits : goal.act-requires-clause-fits
act-requires-clause-fits c =
    fits_more _ _ (copies_of c.in-Some.instr.now.op) c.requires c.in-Some.ensures.fits
