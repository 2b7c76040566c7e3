use Rattle.ds_shape.proofs.Laws as laws
use Rattle.ds_shape.proofs.fields_fit.Goals as goal

pub returns : goal.returns
returns c = laws.fields_fit
