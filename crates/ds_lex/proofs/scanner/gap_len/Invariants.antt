use Rattle.std.proofs.Common.{◌≡◌, ◌+◌, false, drop}
use Rattle.ds_lex.specs.Scan as scan
use Rattle.ds_lex.proofs.scanner.gap_len.Given as goal

abbrev pub invariant-loop-i : goal.invariant-loop-i
invariant-loop-i l = l.i + scan.gap_len l.in_comment (drop l.i l.bytes) ≡ scan.gap_len false l.bytes
