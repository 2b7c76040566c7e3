use Rattle.ds_alloc_laws.proofs.Steps.{look_on}
use Rattle.ds_alloc_laws.proofs.mallocs_look_on.Goals as goal

pub returns : goal.returns
returns c = λ lim at old range is. look_on lim range at old is
