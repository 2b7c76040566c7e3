use Rattle.ds_main.proofs.Inputs.{explained}
use Rattle.ds_main.proofs.input.read_module.Goals as goal

pub returns-clause-none : goal.returns-clause-none
returns-clause-none g c =
    explained _ c.in-Ok.bytes c.as_slice-text.result.now c.in-Err-parse.fault c.no_module.result c.in-Ok.ensures.whole
    c.in-Ok.ensures.within c.as_slice-text.ensures c.in-Err-parse.ensures.refused
    c.no_module.ensures
