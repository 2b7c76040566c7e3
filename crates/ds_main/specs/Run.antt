-- What the record of a run is a record of.
use Rattle.std.specs.Prelude.{◌≡◌, ℕ, ◌<◌, true, List, [], length, Option, None, IsSomeAnd}
use Rattle.ds_ast.specs.declared.module.Module.{Module}
use Rattle.ds_map.specs.Bounds.{Bounds}
use Rattle.ds_step.specs.declared.FullWhat.TheVariants.{Logs, Hash}
use Rattle.ds_plain.specs.declared.Cue.{Cue}
use Rattle.ds_plain.specs.declared.Place.{Place}
use Rattle.ds_plain.specs.declared.Stop.TheVariants.{Full}
use Rattle.ds_plain.specs.Behaviour.{Program}
use Rattle.ds_plain.specs.Explained.{HasEnded, stop_in, trace_of, IsRunOf}
use Rattle.ds_plain.specs.Turns.{IsScheduledOrder}
use Rattle.ds_log_laws.specs.Full.{FullLogs, FullHash}
use Rattle.ds_fuel_laws.specs.Fuel.{EndsByFuel}
use Rattle.ds_meaning.specs.Program.{program_of}
use Rattle.ds_safe_laws.specs.Laws.{HasMeaning}
use Rattle.ds_core.specs.declared.record.RunRecord.{RunRecord}
use Rattle.ds_main.specs.Input.{IsModuleOfInput}

-- nothing was run
pub record IsEmpty (run : RunRecord) : Type 0 where
  pub no_stops : run.stops ≡ []
  pub no_traces : run.traces ≡ []
  pub no_order : run.order ≡ None

-- how the module behaves that was read: each store of a pointer is noted
abbrev pub read_program : Bounds → Module → Program
read_program lim m = program_of true lim m

-- The run is one of the module within these limits: main has ended, each trace follows the step table for what the
-- module means, at least one order of the recorded steps is legal, and every legal order of them is, without log
-- steps, a run of the plain machine on that module, where frees are taken at their word. The recorded order is a
-- legal one, and that of the schedule with these cues and this seed.
pub record IsRunOfModule (cues : List Cue) (seed : ℕ) (lim : Bounds) (m : Module) (run : RunRecord) : Type 0 where
  pub sixteen_stops : length run.stops ≡ 16
  pub main_ended : HasEnded (stop_in run.stops 0)
  -- no thread of the module comes to an instruction without meaning
  pub means : HasMeaning m
  pub explained : IsRunOf (read_program lim m) lim run.stops run.traces
  pub order : IsSomeAnd run.order (IsScheduledOrder (read_program lim m) lim cues seed run.traces)
  -- a thread that has ended did so for want of fuel exactly where it could not pay for what came next
  pub fuel : (t : ℕ) → t < 16 → HasEnded (stop_in run.stops t)
      → EndsByFuel (read_program lim m) lim t (trace_of run.traces t) (stop_in run.stops t)
  -- a thread found no log left only where more were wanted than there are
  pub full_logs : (t : ℕ) (place : Place) → t < 16 → stop_in run.stops t ≡ Full place Logs → FullLogs lim run.traces
  -- and no entry left in its log only where it had used all of them
  pub full_hash : (t : ℕ) (place : Place) → t < 16 → stop_in run.stops t ≡ Full place Hash
      → FullHash (trace_of run.traces t)

-- The run is one of this module by no cues and this seed within these limits. The module is the accepted one of the
-- bytes that the source held, where it tells them.
pub record IsRunOfInput (left : Option (List ℕ)) (seed : ℕ) (lim : Bounds) (m : Module) (run : RunRecord) : Type 0 where
  pub of_input : IsModuleOfInput left m
  pub run_of : IsRunOfModule [] seed lim m run
