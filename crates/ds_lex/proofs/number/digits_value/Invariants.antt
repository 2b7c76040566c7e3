-- What the bytes that are left make of the value so far is what all bytes make.
use Rattle.std.proofs.Common.{◌≡◌, ◌<◌, ◌^◌, drop}
use Rattle.ds_lex.specs.Number as spec
use Rattle.ds_lex.proofs.number.digits_value.Given as goal

abbrev pub invariant-loop-byte : goal.invariant-loop-byte
invariant-loop-byte l =
    record {
      same : spec.extended l.value (drop l.byte-index l.digits) ≡ spec.extended 0 l.digits;
      fits : l.value < 2 ^ 64;
    }
