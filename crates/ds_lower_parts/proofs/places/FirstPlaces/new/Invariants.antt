use Rattle.std.proofs.Common.{take}
use Rattle.ds_names.specs.Places.{nows}
use Rattle.ds_lower_parts.specs.Known.{Keeps}
use Rattle.ds_lower_parts.proofs.places.FirstPlaces.new.Given as goal

-- the names so far have their first places beside them
abbrev pub invariant-loop-n : goal.invariant-loop-n
invariant-loop-n l = Keeps l.kept l.firsts.items (take l.n (nows l.items))
