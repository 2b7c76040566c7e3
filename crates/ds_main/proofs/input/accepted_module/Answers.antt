use Rattle.ds_main.proofs.Inputs.{module_explained}
use Rattle.ds_main.proofs.input.accepted_module.Goals as goal

pub returns-in-Err-accept-clause-none : goal.returns-in-Err-accept-clause-none
returns-in-Err-accept-clause-none g c =
    module_explained _ c.in-Ok.module c.in-Err-accept.why c.in-Ok.ensures.spelled c.in-Err-accept.ensures.refused
