use Rattle.ds_pass_laws.proofs.Composed as composed
use Rattle.ds_pass_laws.proofs.noted_modules_agree.Goals as goal

pub returns : goal.returns
returns c = composed.noted_modules_agree c.accepted_means.ensures
