use Rattle.ds_code_laws.proofs.Begins as begins
use Rattle.ds_code_laws.proofs.code_agrees.Goals as goal

pub returns : goal.returns
returns c = begins.code_agrees
