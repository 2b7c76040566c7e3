use Rattle.std.proofs.Common.{refl}
use Rattle.ds_tried.specs.Worked.{full_logs_stop}
use Rattle.ds_tried.proofs.Examples.{worked}
use Rattle.ds_tried.proofs.full_tables_stop.Goals as goal

pub returns : goal.returns
returns c = record { full_logs_stop = worked full_logs_stop refl refl refl refl }
