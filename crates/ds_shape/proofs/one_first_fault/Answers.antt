use Rattle.ds_shape.proofs.Laws as laws
use Rattle.ds_shape.proofs.one_first_fault.Goals as goal

pub returns : goal.returns
returns c = laws.one_fault
