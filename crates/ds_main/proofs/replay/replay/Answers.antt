use Rattle.std.proofs.Common.{inl, inr}
use Rattle.ds_main.proofs.Endings.{stopped}
use Rattle.ds_main.proofs.replay.replay.Goals as goal

pub returns-in-Ok : goal.returns-in-Ok
returns-in-Ok g c = inr (c.in-Ok.module, c.in-Ok.ensures.found, c.run_and_report.ensures)

pub returns-in-Err : goal.returns-in-Err
returns-in-Err g c = inl (stopped _ _ _ c.in-Err.why c.in-Err.ensures.none c.stop.ensures)
