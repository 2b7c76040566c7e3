use Rattle.std.proofs.Common.{◌≡◌, take}
use Rattle.std.specs.List.{flat_map}
use Rattle.ds_pass.specs.Noted.{noted_instr}
use Rattle.ds_pass.proofs.pass.noted_code.Given as goal

-- the instructions so far with their notes
abbrev pub invariant-loop-instr : goal.invariant-loop-instr
invariant-loop-instr l = l.with_notes ≡ flat_map noted_instr (take l.instr-index l.code)
