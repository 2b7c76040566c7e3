use Rattle.ds_print.proofs.Found.{kept_on}
use Rattle.ds_print.proofs.lines.Lines.new.Goals as goal

pub loop-line-preserved : goal.loop-line-preserved
loop-line-preserved c =
    kept_on c.args.structs.now c.loop-line.line-index _ _ _ c.loop-line-test.true c.line-item.is
    (c.in_ok-keep.ensures _ c.loop-line.invariant)
