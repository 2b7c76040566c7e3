use Rattle.ds_check.proofs.NoFault as none
use Rattle.ds_check.proofs.laws.accepted_are_not_refused.Goals as goal

pub returns : goal.returns
returns c = none.never_refused
