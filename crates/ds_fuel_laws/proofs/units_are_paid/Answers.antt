use Rattle.ds_fuel_laws.proofs.Traced.{paid_within}
use Rattle.ds_fuel_laws.proofs.units_are_paid.Goals as goal

pub returns : goal.returns
returns c = paid_within
