use Rattle.ds_core.proofs.Firsts.{AreFirst}
use Rattle.ds_core.proofs.replaying.first_actors.Given as goal

-- so many actors were made
abbrev pub invariant-loop-number : goal.invariant-loop-number
invariant-loop-number l = AreFirst l.code l.limits l.number l.actors.items
