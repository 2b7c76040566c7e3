use Rattle.std.proofs.Common.{refl}
use Rattle.ds_tried.proofs.Turned.{scheduled}
use Rattle.ds_tried.proofs.histories_are_scheduled.Goals as goal

pub returns-clause-drawn_history : goal.returns-clause-drawn_history
returns-clause-drawn_history c = scheduled refl refl

pub returns-clause-cued_history : goal.returns-clause-cued_history
returns-clause-cued_history c = scheduled refl refl
