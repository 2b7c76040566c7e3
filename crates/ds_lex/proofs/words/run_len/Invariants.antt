use Rattle.std.proofs.Common.{◌≡◌, ◌+◌, drop}
use Rattle.ds_lex.specs.Scan as scan
use Rattle.ds_lex.proofs.words.run_len.Given as goal

abbrev pub invariant-loop-i : goal.invariant-loop-i
invariant-loop-i l = l.i + scan.run_len l.set (drop l.i l.bytes) ≡ scan.run_len l.set l.bytes
