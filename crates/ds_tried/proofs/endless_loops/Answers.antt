use Rattle.std.proofs.Common.{refl}
use Rattle.ds_tried.specs.Threaded.{endless_loop_ends_by_fuel}
use Rattle.ds_tried.proofs.Examples.{worked}
use Rattle.ds_tried.proofs.endless_loops.Goals as goal

pub returns : goal.returns
returns c = record { endless_loop_ends_by_fuel = worked endless_loop_ends_by_fuel refl refl refl refl }
