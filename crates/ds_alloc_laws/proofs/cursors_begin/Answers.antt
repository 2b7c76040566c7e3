use Rattle.ds_alloc_laws.proofs.Cursors.{first}
use Rattle.ds_alloc_laws.proofs.cursors_begin.Goals as goal

pub returns : goal.returns
returns c = first
