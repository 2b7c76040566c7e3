use Rattle.ds_shape.proofs.Laws as laws
use Rattle.ds_shape.proofs.layouts_are_not_refused.Goals as goal

pub returns : goal.returns
returns c = laws.never_refused
