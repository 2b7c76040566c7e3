use Rattle.std.proofs.Common.{◌≡◌, drop}
use Rattle.std.specs.Prelude.{flat_map}
use Rattle.ds_shape.specs.Written.{Line, struct_in}
use Rattle.ds_shape.specs.Index.{lines_in, first_unplaced}
use Rattle.ds_shape.proofs.index.first_unknown.Given as goal

-- the first is the first of those from here on
abbrev pub invariant-loop-line : goal.invariant-loop-line
invariant-loop-line l =
    first_unplaced l.names (flat_map (λ (x : Line). flat_map struct_in x.types) (lines_in (drop l.line-index l.lines)))
    ≡ first_unplaced l.names (flat_map (λ (x : Line). flat_map struct_in x.types) (lines_in l.lines))
