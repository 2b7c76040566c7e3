use Rattle.std.proofs.Common.{length}
use Rattle.ds_cases.proofs.text.push_with.Given as goal

-- no fact is kept: the answers of the calls are enough
abbrev pub invariant-rest : goal.invariant-rest
invariant-rest l = Unit {0}

-- each turn takes a byte at least
abbrev pub decreases-rest : goal.decreases-rest
decreases-rest l = length l.rest
