use Rattle.ds_names.proofs.Standing.{unique_places}
use Rattle.ds_names.proofs.laws.places_are_unique.Goals as goal

pub returns : goal.returns
returns c = unique_places
