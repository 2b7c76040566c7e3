use Rattle.ds_safe_laws.proofs.Begins as begins
use Rattle.ds_safe_laws.proofs.well_formed_means.Goals as goal

pub returns : goal.returns
returns c = begins.well_formed_means
