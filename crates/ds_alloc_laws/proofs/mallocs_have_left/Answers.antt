use Rattle.ds_alloc_laws.proofs.Steps.{have_left}
use Rattle.ds_alloc_laws.proofs.mallocs_have_left.Goals as goal

pub returns : goal.returns
returns c = have_left
