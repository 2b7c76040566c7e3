use Rattle.ds_alloc_laws.proofs.Searches.{begun, all_ahead}
use Rattle.ds_alloc_laws.proofs.mallocs_begin.Goals as goal

pub returns : goal.returns
returns c = λ lim class first range place. (begun lim class first range place, all_ahead lim class first range place)
