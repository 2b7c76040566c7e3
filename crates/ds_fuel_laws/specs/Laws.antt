-- The statements of the laws.
use Rattle.std.specs.Prelude.{◌≡◌, ℕ, ◌≤◌, List}
use Rattle.ds_map.specs.Bounds.{Bounds}
use Rattle.ds_step.specs.declared.Step.{Step}
use Rattle.ds_plain.specs.declared.Stop.{Stop}
use Rattle.ds_plain.specs.Behaviour.{Program}
use Rattle.ds_plain.specs.Thread.{first_thread, Follows, thread_after, stop_of}
use Rattle.ds_plain.specs.Explained.{HasEnded}
use Rattle.ds_fuel_laws.specs.Fuel.{EndsByFuel}

-- each thread that has ended did so for want of fuel exactly where it could not pay
abbrev pub FuelIsExact : Type 0
FuelIsExact = (program : Program) (lim : Bounds) (t : ℕ) (trace : List Step) (stop : Stop) →
    Follows program lim t (first_thread lim) trace
    → stop_of (thread_after program lim t (first_thread lim) trace) ≡ stop → HasEnded stop
    → EndsByFuel program lim t trace stop

-- no thread spends more than its fuel, wherever its trace leaves it
abbrev pub UnitsArePaid : Type 0
UnitsArePaid = (program : Program) (lim : Bounds) (t : ℕ) (trace : List Step) →
    Follows program lim t (first_thread lim) trace
    → (thread_after program lim t (first_thread lim) trace).units ≤ lim.fuel
