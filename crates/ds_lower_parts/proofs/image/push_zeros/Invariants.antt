use Rattle.std.proofs.Common.{◌≡◌, ◌++◌}
use Rattle.ds_shape.specs.Image.{zeros}
use Rattle.ds_lower_parts.proofs.image.push_zeros.Given as goal

-- so many zeros so far
abbrev pub invariant-loop-i : goal.invariant-loop-i
invariant-loop-i l = l.bytes.items ≡ l.initial.bytes.items ++ zeros l.i
