use Rattle.std.proofs.Common.{inl}
use Rattle.ds_main.proofs.Endings.{stopped}
use Rattle.ds_main.proofs.instrument.instrument.Goals as goal

pub returns-in-Err : goal.returns-in-Err
returns-in-Err g c = inl (stopped _ _ _ c.in-Err.why c.in-Err.ensures.none c.stop.ensures)
