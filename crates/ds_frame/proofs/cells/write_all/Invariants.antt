use Rattle.std.proofs.Common.{◌≡◌, drop}
use Rattle.ds_code.specs.Machine.{all_written}
use Rattle.ds_frame.proofs.cells.write_all.Given as goal

-- what is written from here on is what is written from the first copy on
abbrev pub invariant-loop-n : goal.invariant-loop-n
invariant-loop-n l =
    all_written l.base (drop l.n l.copies) (drop l.n l.values) l.cells
    ≡ all_written l.base l.copies l.values l.initial.cells
