use Rattle.ds_check.proofs.OneFault as one
use Rattle.ds_check.proofs.laws.one_type_fault.Goals as goal

pub returns : goal.returns
returns c = one.one_fault
