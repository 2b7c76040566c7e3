use Rattle.ds_alloc_laws.proofs.Classes.{class_below}
use Rattle.ds_alloc_laws.proofs.classes_are_few.Goals as goal

pub returns : goal.returns
returns c = class_below
