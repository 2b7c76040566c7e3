use Rattle.std.proofs.Common.{◌≡◌, ◌++◌}
use Rattle.ds_cases.specs.Texts.{repeated}
use Rattle.ds_cases.proofs.piece.push_repeated.Given as goal

-- so many times so far
abbrev pub invariant-loop-time : goal.invariant-loop-time
invariant-loop-time l = l.text.items ≡ l.fn.text.items ++ repeated l._time l.bytes
