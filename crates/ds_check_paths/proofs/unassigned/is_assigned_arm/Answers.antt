use Rattle.ds_check_paths.proofs.Told.{arm_told, no_arm}
use Rattle.ds_check_paths.proofs.unassigned.is_assigned_arm.Goals as goal

pub returns-in-Some : goal.returns-in-Some
returns-in-Some c = arm_told c.args.flow.now c.args.arm.now c.in-Some.end c.in-Some.ensures.some
    c.is_assigned_value.result c.is_assigned_value.ensures

pub returns-in-None : goal.returns-in-None
returns-in-None c = no_arm c.args.flow.now c.args.arm.now c.in-None.ensures.none
