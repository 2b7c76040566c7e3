use Rattle.ds_shape.proofs.Words.{laid_out_globals}
use Rattle.ds_shape.proofs.globals_are_laid_out.Goals as goal

pub returns : goal.returns
returns c = laid_out_globals
