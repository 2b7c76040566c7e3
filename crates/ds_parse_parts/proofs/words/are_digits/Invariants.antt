-- What is left of the bytes is digits as all are.
use Rattle.std.proofs.Common.{◌≡◌, drop}
use Rattle.std.specs.List.{list_all}
use Rattle.ds_lex.specs.Bytes.{is_digit}
use Rattle.ds_parse_parts.proofs.words.are_digits.Given as goal

abbrev pub invariant-loop-byte : goal.invariant-loop-byte
invariant-loop-byte l = list_all is_digit (drop l.byte-index l.bytes) ≡ list_all is_digit l.bytes
