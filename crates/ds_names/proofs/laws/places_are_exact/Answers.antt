use Rattle.ds_names.proofs.Standing.{exact_places}
use Rattle.ds_names.proofs.laws.places_are_exact.Goals as goal

pub returns : goal.returns
returns c = exact_places
