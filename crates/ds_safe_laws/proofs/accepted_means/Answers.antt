use Rattle.ds_safe_laws.proofs.Begins as begins
use Rattle.ds_safe_laws.proofs.accepted_means.Goals as goal

pub returns : goal.returns
returns c = begins.accepted_means
