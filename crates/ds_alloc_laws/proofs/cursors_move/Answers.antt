use Rattle.ds_alloc_laws.proofs.Cursors.{moved}
use Rattle.ds_alloc_laws.proofs.cursors_move.Goals as goal

pub returns : goal.returns
returns c = moved
