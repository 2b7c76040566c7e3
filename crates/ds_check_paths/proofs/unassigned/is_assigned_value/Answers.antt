use Rattle.ds_check_paths.proofs.Told.{local_told}
use Rattle.ds_check_paths.proofs.unassigned.is_assigned_value.Goals as goal

pub returns-in-Local : goal.returns-in-Local
returns-in-Local c =
    local_told c.args.flow.now c.args.place.block c.args.place.index c.in-Local.name c.args.value.now c.in-Local.is
    c.is_assigned.result c.is_assigned.ensures
