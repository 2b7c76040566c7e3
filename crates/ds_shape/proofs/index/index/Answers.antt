use Rattle.std.proofs.Common.{ap, inr, rules}
use Rattle.ds_shape.specs.declared.fault.ShapeFault.TheVariants as faults
use Rattle.ds_shape.proofs.Places.{twice_at}
use Rattle.ds_shape.proofs.index.index.Goals as goal

pub returns-then-not-is_new-clause-err : goal.returns-then-not-is_new-clause-err
returns-then-not-is_new-clause-err c =
    let there = c.in_ok-is_new.ensures.there (search rules) in
    inr (
      c.line-item.result.name,
      ap faults.TwiceType c.in_ok-name.ensures,
      twice_at c.args.structs.now c.loop-line.names c.loop-line.line-index c.line-item.result c.loop-line-test.true
          c.line-item.is c.loop-line.invariant.0 c.loop-line.invariant.1 there.0,
    )
