use Rattle.std.proofs.Common.{ℕ, ◌⊎◌, take}
use Rattle.std.specs.Prelude.{◌↔◌, Contains}
use Rattle.ds_shape.specs.Flow.{targets_of}
use Rattle.ds_check_blocks.specs.Leads.{LeadsAmong}
use Rattle.ds_check_blocks.proofs.edges.push_targets.Given as goal

abbrev pub invariant-loop-number : goal.invariant-loop-number
invariant-loop-number l = (b : ℕ)
    → Contains l.row.items b ↔ (Contains l.fn.row.items b ⊎ LeadsAmong l.locals b (take l.number (targets_of l.op)))
