use Rattle.ds_pass_laws.proofs.Composed as composed
use Rattle.ds_pass_laws.proofs.noted_code_means.Goals as goal

pub returns : goal.returns
returns c = composed.noted_code_means c.accepted_means.ensures
