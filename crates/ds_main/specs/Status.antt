-- The statuses of a call.
use Rattle.std.specs.Prelude.{◌≡◌, ℕ, ◌⊎◌, Bool, true, false, List, if◌then◌else◌}
use Rattle.std.specs.List.{list_any}
use Rattle.ds_plain.specs.declared.Stop.{Stop}
use Rattle.ds_plain.specs.declared.Stop.TheVariants.{Idle, Running, Returned, Trap, Full, Fuel}
use Rattle.ds_plain.specs.Explained.{is_fuel, stop_in}
use Rattle.ds_report.specs.declared.fault.Fault.{Fault}
use Rattle.ds_report.specs.declared.fault.Fault.TheVariants.{Usage, Read, TooLong, Parse, Shape, Check}
use Rattle.ds_report.specs.Stop.{is_trap}

-- the thread met a full table
abbrev pub is_full : Stop → Bool
is_full Idle = false
is_full Running = false
is_full (Returned value) = false
is_full (Trap trap) = false
is_full (Full place what) = true
is_full Fuel = false

-- The status of a run that was reported, the first that holds: 9 where main ran out of fuel, 7 where a thread met a
-- full table, 3 where one trapped, 8 where another thread than main ran out of fuel, and else 0.
abbrev pub run_status : List Stop → ℕ
run_status stops =
    if is_fuel (stop_in stops 0) then 9 else
    (if list_any is_full stops then 7 else
    (if list_any is_trap stops then 3 else
    (if list_any is_fuel stops then 8 else 0)))

-- the statuses of runs that were reported
abbrev pub IsRunStatus : ℕ → Type 0
IsRunStatus status = (status ≡ 0) ⊎ (status ≡ 3) ⊎ (status ≡ 7) ⊎ (status ≡ 8) ⊎ (status ≡ 9)

-- the status of a fault
abbrev pub status_of : Fault → ℕ
status_of Usage = 2
status_of Read = 4
status_of TooLong = 1
status_of (Parse fault) = 1
status_of (Shape fault) = 1
status_of (Check fault names) = 1

-- the statuses of the faults
abbrev pub IsFaultStatus : ℕ → Type 0
IsFaultStatus status = (status ≡ 1) ⊎ (status ≡ 2) ⊎ (status ≡ 4)

-- the sink failed, or memory ran out: these replace any other status
abbrev pub IsCutShort : ℕ → Type 0
IsCutShort status = (status ≡ 5) ⊎ (status ≡ 6)

abbrev pub IsStatus : ℕ → Type 0
IsStatus status = IsRunStatus status ⊎ IsFaultStatus status ⊎ IsCutShort status
