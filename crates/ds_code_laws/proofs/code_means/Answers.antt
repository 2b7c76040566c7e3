use Rattle.ds_code_laws.proofs.Composed as composed
use Rattle.ds_code_laws.proofs.code_means.Goals as goal

pub returns : goal.returns
returns c = composed.code_means c.well_formed_means.ensures
