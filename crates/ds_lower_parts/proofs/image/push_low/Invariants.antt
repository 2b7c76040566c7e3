use Rattle.std.proofs.Common.{◌≡◌, ◌-◌, ◌/◌, ◌^◌, ◌++◌}
use Rattle.std.specs.Int.{bytes_low_first}
use Rattle.ds_lower_parts.proofs.image.push_low.Given as goal

-- the bytes so far and those from here on
abbrev pub invariant-loop-i : goal.invariant-loop-i
invariant-loop-i l = record {
  same : l.bytes.items ++ bytes_low_first l.i (l.count - l.i) l.number
      ≡ l.initial.bytes.items ++ bytes_low_first 0 l.count l.number;
  rest : l.rest ≡ l.number / 256 ^ l.i;
}
