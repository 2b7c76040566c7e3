use Rattle.std.proofs.Common.{ℕ, take}
use Rattle.std.specs.Prelude.{◌↔◌, Contains}
use Rattle.ds_check_blocks.specs.Leads.{LeadsFrom}
use Rattle.ds_check_blocks.proofs.edges.targets_of_code.Given as goal

abbrev pub invariant-loop-instr : goal.invariant-loop-instr
invariant-loop-instr l = (b : ℕ) → Contains l.row.items b ↔ LeadsFrom l.locals b (take l.instr-index l.code)
