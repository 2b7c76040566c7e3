use Rattle.std.proofs.Common.{ap}
use Rattle.ds_check_blocks.specs.Uses.{value_of}
use Rattle.ds_check_paths.proofs.Told.{local_told}
use Rattle.ds_check_paths.proofs.unassigned.is_assigned_use.Goals as goal

pub returns-in-Local : goal.returns-in-Local
returns-in-Local c =
    local_told c.args.flow.now c.args.place.block c.args.place.index c.in-Local.name.now (value_of c.args.used)
    (ap value_of c.in-Local.is) c.is_assigned.result c.is_assigned.ensures
