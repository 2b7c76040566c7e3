use Rattle.ds_shape.proofs.Laws as laws
use Rattle.ds_shape.proofs.written_types_fit.Goals as goal

pub returns : goal.returns
returns c = laws.written_fit
