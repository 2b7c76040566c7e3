use Rattle.ds_plain_laws.proofs.Pushes.{one_more}
use Rattle.ds_plain_laws.proofs.one_step_more.Goals as goal

pub returns : goal.returns
returns c = one_more
