use Rattle.std.proofs.Common.{◌≡◌, drop}
use Rattle.ds_shape.specs.Address.{steps_into}
use Rattle.ds_shape.specs.Fits.{Fits}
use Rattle.ds_code.specs.Cells.{cells_for}
use Rattle.ds_lower.specs.Known.{ahead}
use Rattle.ds_lower.proofs.strides.push_strides.Given as goal

-- what is pushed so far and from here on, and that the type here fits
abbrev pub invariant-loop-n : goal.invariant-loop-n
invariant-loop-n l = record {
  same : ahead l.scope (cells_for l.local) l.strides (steps_into l.scope.structs l.at (drop l.n l.indices)) (drop l.n
      l.indices)
      ≡ ahead l.scope (cells_for l.local) l.initial.strides (steps_into l.scope.structs l.ty l.indices) l.indices;
  fits : Fits l.scope.structs l.at;
}
