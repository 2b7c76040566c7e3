use Rattle.ds_fuel_laws.proofs.Traced.{ends_by_fuel}
use Rattle.ds_fuel_laws.proofs.fuel_is_exact.Goals as goal

pub returns : goal.returns
returns c = λ program lim t trace stop follows. ends_by_fuel program lim t trace follows stop
