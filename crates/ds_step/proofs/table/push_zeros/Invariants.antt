use Rattle.std.proofs.Common.{◌≡◌, ◌++◌, replicate}
use Rattle.ds_step.proofs.table.push_zeros.Given as goal

-- so many zeros were added
abbrev pub invariant-loop : goal.invariant-loop
invariant-loop l = l.words.items ≡ l.initial.words.items ++ replicate l.counter 0
