use Rattle.std.proofs.Common.{take}
use Rattle.std.specs.Prelude.{All}
use Rattle.ds_shape.specs.Index.{lines_in}
use Rattle.ds_shape.specs.Kept.{IsLarge}
use Rattle.ds_shape.proofs.steps.refuse_too_large.Given as goal

-- none so far writes one
abbrev pub invariant-loop-line : goal.invariant-loop-line
invariant-loop-line l = All (λ x. IsLarge l.names l.extents x → ⊥) (lines_in (take l.line-index l.lines))
