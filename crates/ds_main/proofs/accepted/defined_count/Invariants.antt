use Rattle.std.proofs.Common.{◌≡◌, ◌≤◌, ◌+◌, length, drop}
use Rattle.std.specs.Prelude.{filter}
use Rattle.ds_main.specs.Text.{is_defined}
use Rattle.ds_main.proofs.accepted.defined_count.Given as goal

-- what was counted, and what is left to be counted
abbrev pub invariant-loop-f : goal.invariant-loop-f
invariant-loop-f l =
    (l.count + length (filter is_defined (drop l.f-index l.fn.module.functions)) ≡ length
    (filter is_defined l.fn.module.functions)) × (l.count ≤ l.f-index)
