use Rattle.std.proofs.Common.{◌↔◌, ℕ, map, drop}
use Rattle.ds_ast.specs.declared.name.Name.{Name}
use Rattle.ds_shape.specs.Types.{AreDistinctNumbers}
use Rattle.ds_check_types.proofs.Kept.{AreNew}
use Rattle.ds_check_types.proofs.numbers.are_distinct.Given as goal

-- the cases are distinct where those left are, and are not kept yet
abbrev pub invariant-loop-case : goal.invariant-loop-case
invariant-loop-case l = AreDistinctNumbers (map (λ (c : ℕ × Name). c.0) l.fn.cases) ↔ AreNew l.numbers
    (map (λ (c : ℕ × Name). c.0) (drop l.case-index l.fn.cases))
