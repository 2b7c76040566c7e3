use Rattle.std.proofs.Common.{length}
use Rattle.ds_check.proofs.externals.+have_types.Given as goal

abbrev pub decreases-have_types : goal.decreases-have_types
decreases-have_types l = length l.types.now
