use Rattle.std.proofs.Common.{◌≡◌, ◌++◌, drop}
use Rattle.ds_lower_parts.specs.Known.{addresses_from}
use Rattle.ds_lower_parts.proofs.scope.addresses_of.Given as goal

-- the addresses so far and those from here on
abbrev pub invariant-loop-n : goal.invariant-loop-n
invariant-loop-n l = l.addresses.items ++ addresses_from l.shapes l.at (drop l.n l.globals)
    ≡ addresses_from l.shapes 0 l.globals
