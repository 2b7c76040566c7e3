use Rattle.ds_code_laws.proofs.Composed as composed
use Rattle.ds_code_laws.proofs.accepted_code_means.Goals as goal

pub returns : goal.returns
returns c = composed.accepted_code_means c.accepted_means.ensures
